-- `reserving::reserve` meets its contract. Assumes nothing.
use mathlib.Core.Path.{sym, ◌∙◌}
use borrow.Author.Rules.{rules}
use Rattle.protocol.specs.Calls.{reserve}
use Rattle.record.proofs.Accepted.{Accepted}
use Rattle.record.proofs.Answered.{answered-size, answered-refused, answered-accepted, answered-done}
use Rattle.reserving.proofs.After.{reserve-seat, reserve-bytes}
use Rattle.reserving.proofs.reserve.Goals as goal
use Rattle.reserving.proofs.reserve.Goals.{In_ok-reserve_refusal}

pub returns-in_default : goal.returns-in_default
returns-in_default c = answered-size _ _ c.in_default.ensures.cases

pub returns-in_err-reserve_refusal : goal.returns-in_err-reserve_refusal
returns-in_err-reserve_refusal c =
    let e = c.in_err-reserve_refusal.ensures c.args.vector in
    rw (← c.in-Some.ensures.cases.same) (answered-refused _ _ _ c.from_residual.result _ c.from_residual.ensures.1 e)

may-reserve : (c : In_ok-reserve_refusal) → let a = c.args in Accepted c.in-Some.rec.now (reserve a.seat a.number a.vector)
may-reserve c = answered-accepted _ _ _ (λ i. search rules) (c.in_ok-reserve_refusal.ensures c.args.vector)

pub fill-requires : goal.fill-requires
fill-requires c = reserve-seat (may-reserve (goal.at.fill-requires c).In_ok-reserve_refusal)

pub returns : goal.returns
returns c =
    let t = may-reserve (goal.at.returns c).In_ok-reserve_refusal in
    rw (← c.in-Some.ensures.cases.same) (answered-done _ _ _ tt (c.in_ok-reserve_refusal.ensures c.args.vector) (c.fill.ensures ∙ sym (reserve-bytes t)))
