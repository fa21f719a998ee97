-- `reserving::give_back` meets its contract. Assumes nothing.
use mathlib.Core.Path.{sym, ◌∙◌}
use borrow.Author.Rules.{rules}
use Rattle.protocol.specs.Calls.{give_back}
use Rattle.record.proofs.Accepted.{Accepted}
use Rattle.record.proofs.Answered.{answered-size, answered-refused, answered-accepted, answered-done}
use Rattle.reserving.proofs.After.{give-back-seat, give-back-bytes}
use Rattle.reserving.proofs.give_back.Goals as goal
use Rattle.reserving.proofs.give_back.Goals.{In_ok-give_back_refusal}

pub returns-in_default : goal.returns-in_default
returns-in_default c = answered-size _ _ c.in_default.ensures.cases

pub returns-in_err-give_back_refusal : goal.returns-in_err-give_back_refusal
returns-in_err-give_back_refusal c =
    rw (← c.in-Some.ensures.cases.same) (answered-refused _ _ _ c.from_residual.result _ c.from_residual.ensures.1 c.in_err-give_back_refusal.ensures)

may-give-back : (c : In_ok-give_back_refusal) → let a = c.args in Accepted c.in-Some.rec.now (give_back a.seat)
may-give-back c = answered-accepted _ _ _ (λ i. search rules) c.in_ok-give_back_refusal.ensures

pub fill-requires : goal.fill-requires
fill-requires c = give-back-seat (may-give-back (goal.at.fill-requires c).In_ok-give_back_refusal)

-- the seat is freed,
-- and nothing is read
pub returns : goal.returns
returns c =
    let t = may-give-back (goal.at.returns c).In_ok-give_back_refusal in
    rw (← c.in-Some.ensures.cases.same) (answered-done _ _ _ tt c.in_ok-give_back_refusal.ensures (c.fill.ensures ∙ sym (give-back-bytes t)))
