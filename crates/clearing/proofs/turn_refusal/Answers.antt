-- `clearing::turn_refusal` meets its contract: the record's rows, then the table's. Assumes nothing.
use mathlib.Core.Path.{refl, ap}
use Rattle.std.specs.Prelude.{Result, Ok, Err}
use Rattle.std.specs.Option.{is_some}
use Rattle.protocol.specs.Calls.{rows, refusal}
use Rattle.protocol.specs.Refusals.{first}
use Rattle.record.specs.Answer.{number_of}
use Rattle.record.specs.declared.refusals.Refusal.{Refusal}
use Rattle.record.specs.declared.refusals.Refusal.TheVariants.{MessagesLeft}
use Rattle.record.proofs.Answered.{answered-early, answered-late}
use Rattle.record.proofs.Rows.{row_here, row_next}
use Rattle.clearing.proofs.Refused.{some-left}
use Rattle.clearing.proofs.turn_refusal.Goals as goal

pub returns-in_err-look : goal.returns-in_err-look
returns-in_err-look c = answered-early _ _ _ c.from_residual.result _ c.from_residual.ensures.1 c.in_err-look.ensures.refused

pub returns-in-Some : goal.returns-in-Some
unfolding refusal rows first number_of
returns-in-Some c =
    let no : Result (Unit {0}) Refusal = Err MessagesLeft in
    answered-late _ _ c.in_ok-look.field-0 no c.in_ok-look.ensures.refused
    (row_here 11 _ (some-left _ c.in_ok-look.field-0 c.in_ok-look.ensures.first) (ap is_some c.in-Some.is))

pub returns-in-None : goal.returns-in-None
unfolding refusal rows first number_of
returns-in-None c =
    answered-late _ _ c.in_ok-look.field-0 (Ok (tt {0})) c.in_ok-look.ensures.refused
    (row_next 11 (some-left _ c.in_ok-look.field-0 c.in_ok-look.ensures.first) (ap is_some c.in-None.is) refl)
