-- `joining::join` meets its contract. Assumes nothing.
use mathlib.Core.Path.{sym}
use borrow.Author.Rules.{rules}
use Rattle.protocol.specs.Calls.{join}
use Rattle.record.proofs.Accepted.{Accepted}
use Rattle.record.proofs.Answered.{answered-size, answered-refused, answered-accepted, answered-done}
use Rattle.joining.proofs.After.{join-seat, join-bytes}
use Rattle.joining.proofs.join.Goals as goal
use Rattle.joining.proofs.join.Goals.{In_ok-join_refusal}

pub returns-in_default : goal.returns-in_default
returns-in_default c = answered-size _ _ c.in_default.ensures.cases

pub returns-in_err-join_refusal : goal.returns-in_err-join_refusal
returns-in_err-join_refusal c =
    let e = c.in_err-join_refusal.ensures c.args.vector in
    rw (← c.in-Some.ensures.cases.same) (answered-refused _ _ _ c.from_residual.result _ c.from_residual.ensures.1 e)

may-join : (c : In_ok-join_refusal) → let a = c.args in Accepted c.in-Some.rec.now (join a.seat a.number a.vector a.contact)
may-join c = answered-accepted _ _ _ (λ i. search rules) (c.in_ok-join_refusal.ensures c.args.vector)

pub fill-requires : goal.fill-requires
fill-requires c = join-seat (may-join (goal.at.fill-requires c).In_ok-join_refusal)

pub greet-requires : goal.greet-requires
greet-requires c = join-seat (may-join (goal.at.greet-requires c).In_ok-join_refusal)

pub returns : goal.returns
returns c =
    let t = may-join (goal.at.returns c).In_ok-join_refusal in
    rw (← c.in-Some.ensures.cases.same)
    (answered-done _ _ _ tt (c.in_ok-join_refusal.ensures c.args.vector) (rw (c.greet.ensures, c.fill.ensures) (sym (join-bytes t))))
