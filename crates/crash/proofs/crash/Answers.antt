-- `crash::crash` meets its contract. Assumes nothing.
use mathlib.Core.Path.{sym}
use borrow.Author.Rules.{rules}
use Rattle.record.specs.Meaning.{meaning}
use Rattle.record.proofs.Round.{bytes-meaning}
use Rattle.record.proofs.Answered.{answered-size, answered-refused, answered-accepted, answered-done}
use Rattle.clearing.proofs.Refused.{meaning-linked}
use Rattle.crash.proofs.crash.Goals as goal

pub returns-in_default : goal.returns-in_default
returns-in_default c = answered-size _ _ c.in_default.ensures.cases

pub returns-in_err-crash_refusal : goal.returns-in_err-crash_refusal
returns-in_err-crash_refusal c =
    rw (← c.in-Some.ensures.cases.same) (answered-refused _ _ _ c.from_residual.result _ c.from_residual.ensures.1 c.in_err-crash_refusal.ensures)

pub returns : goal.returns
returns c =
    let l = c.in-Some.rec.now in
    let t = answered-accepted _ _ _ (λ i. search rules) c.in_ok-crash_refusal.ensures in
    rw (← c.in-Some.ensures.cases.same)
    (answered-done _ _ _ tt c.in_ok-crash_refusal.ensures (c.carry_out.ensures (meaning l) (meaning-linked l) (sym (bytes-meaning t.form))))
