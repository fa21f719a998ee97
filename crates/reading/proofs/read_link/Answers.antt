-- `reading::read_link` meets its contract. Assumes nothing.
use Prim.Native.Nat.{◌<◌}
use borrow.Author.Rules.{rules}
use borrow.Author.Tests.{tests}
use Rattle.record.specs.Layout.{levels}
use Rattle.record.specs.Answer.{number_of}
use Rattle.reading.proofs.Refusals.{There, link-there}
use Rattle.reading.proofs.Values.{link-refused, link-values}
use Rattle.reading.proofs.read_link.Goals as goal
use Rattle.reading.proofs.read_link.Goals.{In_ok-rec}

-- no row applies
passed : (c : In_ok-rec) → There c.args.rec.now c.args.seat × (c.args.level < levels)
unfolding number_of
passed c = link-there _ _ _ _ c.in_ok-rec.ensures.refused

pub returns-in_err-rec : goal.returns-in_err-rec
unfolding number_of
returns-in_err-rec c = link-refused _ _ _ _ c.from_residual.result _ c.from_residual.ensures.1 c.in_err-rec.ensures.refused

pub link-requires : goal.link-requires
link-requires c = let p = passed (goal.at.link-requires c).In_ok-rec in (p.0.seat, p.1)

pub returns : goal.returns
unfolding number_of
returns c =
    let p = passed (goal.at.returns c).In_ok-rec in
    let e = rw (c.in_ok-rec.ensures.same, c.of_number-d.ensures) at c.link.ensures.link in
    link-values _ _ _ _ c.link.result c.map.result _ c.in_ok-rec.ensures.refused e c.link.ensures.seat c.map.ensures.cases (λ x y q. search (rules, tests))
