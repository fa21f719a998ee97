-- `joining::leave` meets its contract. Assumes nothing.
use mathlib.Core.Path.{sym, ◌∙◌}
use borrow.Author.Rules.{rules}
use Rattle.protocol.specs.Calls.{leave}
use Rattle.record.proofs.Accepted.{Accepted}
use Rattle.record.proofs.Answered.{answered-size, answered-refused, answered-accepted, answered-done}
use Rattle.joining.proofs.After.{leave-seat, leave-bytes}
use Rattle.joining.proofs.leave.Goals as goal
use Rattle.joining.proofs.leave.Goals.{In_ok-leave_refusal}

pub returns-in_default : goal.returns-in_default
returns-in_default c = answered-size _ _ c.in_default.ensures.cases

pub returns-in_err-leave_refusal : goal.returns-in_err-leave_refusal
returns-in_err-leave_refusal c =
    rw (← c.in-Some.ensures.cases.same) (answered-refused _ _ _ c.from_residual.result _ c.from_residual.ensures.1 c.in_err-leave_refusal.ensures)

may-leave : (c : In_ok-leave_refusal) → Accepted c.in-Some.rec.now (leave c.args.seat)
may-leave c = answered-accepted _ _ _ (λ i. search rules) c.in_ok-leave_refusal.ensures

pub set_state-requires : goal.set_state-requires
set_state-requires c = leave-seat (may-leave (goal.at.set_state-requires c).In_ok-leave_refusal)

-- the state is written,
-- and nothing else
pub returns : goal.returns
returns c =
    let t = may-leave (goal.at.returns c).In_ok-leave_refusal in
    rw (← c.in-Some.ensures.cases.same) (answered-done _ _ _ tt c.in_ok-leave_refusal.ensures (c.set_state.ensures ∙ sym (leave-bytes t)))
