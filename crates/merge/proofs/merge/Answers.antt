-- `merge::merge` meets its contract. Assumes nothing.
use mathlib.Core.Path.{sym, ◌∙◌}
use native.Mathlib.Omega.{arith}
use borrow.Author.Rules.{rules}
use Rattle.protocol.specs.Calls.{merge}
use Rattle.record.proofs.Accepted.{Accepted}
use Rattle.record.proofs.Answered.{answered-size, answered-refused, answered-accepted, answered-done}
use Rattle.merge.proofs.After.{merge-ok, merge-bytes}
use Rattle.merge.proofs.merge.Goals as goal
use Rattle.merge.proofs.merge.Goals.{In_ok-merge_refusal}

pub returns-in_default : goal.returns-in_default
returns-in_default c = answered-size _ _ c.in_default.ensures.cases

pub returns-in_err-merge_refusal : goal.returns-in_err-merge_refusal
returns-in_err-merge_refusal c =
    rw (← c.in-Some.ensures.cases.same) (answered-refused _ _ _ c.from_residual.result _ c.from_residual.ensures.1 c.in_err-merge_refusal.ensures)

may-merge : (c : In_ok-merge_refusal) → Accepted c.in-Some.rec.now (merge c.args.first c.args.second)
may-merge c = answered-accepted _ _ _ (λ i. search rules) c.in_ok-merge_refusal.ensures

pub meet_place-requires : goal.meet_place-requires
meet_place-requires c = let t = merge-ok (may-merge (goal.at.meet_place-requires c).In_ok-merge_refusal) in (t.seats.0, t.seats.1, omega arith)

pub returns : goal.returns
returns c =
    let e = rw c.meet_place.ensures.0 at c.send.ensures in
    let t = may-merge (goal.at.returns c).In_ok-merge_refusal in
    rw (← c.in-Some.ensures.cases.same) (answered-done _ _ _ tt c.in_ok-merge_refusal.ensures (e ∙ sym (merge-bytes t)))
