-- `joining::newcomer::reserve_row` meets its contract: its tests are the rows of the table, in order. Assumes nothing.
use mathlib.Core.Path.{refl}
use Rattle.protocol.specs.Calls.{rows, refusal}
use Rattle.protocol.specs.Refusals.{first}
use Rattle.record.specs.Meaning.{meaning}
use Rattle.record.specs.Answer.{number_of}
use Rattle.record.proofs.Rows.{row_here, row_next}
use Rattle.joining.proofs.Rows.{seat_here, seat_next}
use Rattle.joining.proofs.newcomer.reserve_row.Goals as goal

pub returns-then-seat-ge-SEATS : goal.returns-then-seat-ge-SEATS
unfolding refusal rows first number_of
returns-then-seat-ge-SEATS c = λ v. seat_here _ c.if-seat-ge-SEATS.true

pub returns-then-is_clearing : goal.returns-then-is_clearing
unfolding refusal rows first number_of meaning
returns-then-is_clearing c = λ v. seat_next c.if-seat-ge-SEATS.false
    (row_here 7 _ c.is_clearing.ensures c.if-is_clearing.true)

pub returns-then-is_taken : goal.returns-then-is_taken
unfolding refusal rows first number_of meaning
returns-then-is_taken c = λ v. seat_next c.if-seat-ge-SEATS.false
    (row_next 7 c.is_clearing.ensures c.if-is_clearing.false
    (row_here 4 _ c.is_taken.ensures c.if-is_taken.true))

pub returns-then-has_number : goal.returns-then-has_number
unfolding refusal rows first number_of meaning
returns-then-has_number c = λ v. seat_next c.if-seat-ge-SEATS.false
    (row_next 7 c.is_clearing.ensures c.if-is_clearing.false
    (row_next 4 c.is_taken.ensures c.if-is_taken.false
    (row_here 5 _ c.has_number.ensures c.if-has_number.true)))

pub returns : goal.returns
unfolding refusal rows first number_of meaning
returns c = λ v. seat_next c.if-seat-ge-SEATS.false
    (row_next 7 c.is_clearing.ensures c.if-is_clearing.false
    (row_next 4 c.is_taken.ensures c.if-is_taken.false
    (row_next 5 c.has_number.ensures c.if-has_number.false
    refl)))
