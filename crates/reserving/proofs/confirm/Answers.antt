-- `reserving::confirm` meets its contract. Assumes nothing.
use mathlib.Core.Path.{sym}
use borrow.Author.Rules.{rules}
use Rattle.protocol.specs.Calls.{confirm}
use Rattle.record.proofs.Accepted.{Accepted}
use Rattle.record.proofs.Answered.{answered-size, answered-refused, answered-accepted, answered-done}
use Rattle.reserving.proofs.After.{confirm-seat, confirm-bytes}
use Rattle.reserving.proofs.confirm.Goals as goal
use Rattle.reserving.proofs.confirm.Goals.{In_ok-confirm_refusal}

pub returns-in_default : goal.returns-in_default
returns-in_default c = answered-size _ _ c.in_default.ensures.cases

pub returns-in_err-confirm_refusal : goal.returns-in_err-confirm_refusal
returns-in_err-confirm_refusal c =
    rw (← c.in-Some.ensures.cases.same) (answered-refused _ _ _ c.from_residual.result _ c.from_residual.ensures.1 c.in_err-confirm_refusal.ensures)

may-confirm : (c : In_ok-confirm_refusal) → let a = c.args in Accepted c.in-Some.rec.now (confirm a.seat a.contact)
may-confirm c = answered-accepted _ _ _ (λ i. search rules) c.in_ok-confirm_refusal.ensures

pub set_state-requires : goal.set_state-requires
set_state-requires c = confirm-seat (may-confirm (goal.at.set_state-requires c).In_ok-confirm_refusal)

pub greet-requires : goal.greet-requires
greet-requires c = confirm-seat (may-confirm (goal.at.greet-requires c).In_ok-confirm_refusal)

pub returns : goal.returns
returns c =
    let t = may-confirm (goal.at.returns c).In_ok-confirm_refusal in
    rw (← c.in-Some.ensures.cases.same)
    (answered-done _ _ _ tt c.in_ok-confirm_refusal.ensures (rw (c.greet.ensures, c.set_state.ensures) (sym (confirm-bytes t))))
