-- `crash::crash_row` meets its contract: its tests are the rows of the table, in order. Assumes nothing.
use mathlib.Core.Path.{refl, ◌∙◌}
use Rattle.protocol.specs.Calls.{rows, refusal}
use Rattle.protocol.specs.Refusals.{first}
use Rattle.record.specs.Meaning.{meaning}
use Rattle.record.specs.Answer.{number_of}
use Rattle.record.proofs.Rows.{row_here, row_next}
use Rattle.clearing.proofs.Refused.{some-left}
use Rattle.crash.proofs.crash_row.Goals as goal

pub returns-then-is_clearing : goal.returns-then-is_clearing
unfolding refusal rows first number_of meaning
returns-then-is_clearing c = row_here 7 _ c.is_clearing.ensures c.if-is_clearing.true

pub returns-then-names_empty : goal.returns-then-names_empty
unfolding refusal rows first number_of meaning
returns-then-names_empty c =
    row_next 7 c.is_clearing.ensures c.if-is_clearing.false
    (row_here 8 _ c.names_empty.ensures c.if-names_empty.true)

pub returns-then-is_some : goal.returns-then-is_some
unfolding refusal rows first number_of meaning
returns-then-is_some c =
    row_next 7 c.is_clearing.ensures c.if-is_clearing.false
    (row_next 8 c.names_empty.ensures c.if-names_empty.false
    (row_here 11 _ (c.is_some.ensures ∙ some-left c.args.rec.now _ c.requires) c.if-is_some.true))

pub returns : goal.returns
unfolding refusal rows first number_of meaning
returns c =
    row_next 7 c.is_clearing.ensures c.if-is_clearing.false
    (row_next 8 c.names_empty.ensures c.if-names_empty.false
    (row_next 11 (c.is_some.ensures ∙ some-left c.args.rec.now _ c.requires) c.if-is_some.false
    refl))
