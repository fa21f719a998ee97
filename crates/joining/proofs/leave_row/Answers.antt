-- `joining::leave_row` meets its contract: its tests are the rows of the table, in order. Assumes nothing.
use mathlib.Core.Path.{refl, ap}
use mathlib.Core.Bool.{not}
use Rattle.protocol.specs.Calls.{rows, refusal}
use Rattle.protocol.specs.Refusals.{first}
use Rattle.record.specs.Meaning.{meaning}
use Rattle.record.specs.Answer.{number_of}
use Rattle.record.proofs.Rows.{row_here, row_next}
use Rattle.joining.proofs.Rows.{seat_here, seat_next}
use Rattle.joining.proofs.leave_row.Goals as goal

pub returns-then-seat-ge-SEATS : goal.returns-then-seat-ge-SEATS
unfolding refusal rows first number_of
returns-then-seat-ge-SEATS c = seat_here _ c.if-seat-ge-SEATS.true

pub returns-then-is_clearing : goal.returns-then-is_clearing
unfolding refusal rows first number_of meaning
returns-then-is_clearing c = seat_next c.if-seat-ge-SEATS.false
    (row_here 7 _ c.is_clearing.ensures c.if-is_clearing.true)

pub returns-then-not-is_seated : goal.returns-then-not-is_seated
unfolding refusal rows first number_of meaning
returns-then-not-is_seated c =
    seat_next c.if-seat-ge-SEATS.false
    (row_next 7 c.is_clearing.ensures c.if-is_clearing.false
    (row_here 8 _ (ap not c.is_seated.ensures) (ap not c.if-not-is_seated.true)))

pub returns-then-is_leaving : goal.returns-then-is_leaving
unfolding refusal rows first number_of meaning
returns-then-is_leaving c =
    seat_next c.if-seat-ge-SEATS.false
    (row_next 7 c.is_clearing.ensures c.if-is_clearing.false
    (row_next 8 (ap not c.is_seated.ensures) (ap not c.if-not-is_seated.false)
    (row_here 9 _ c.is_leaving.ensures c.if-is_leaving.true)))

pub returns : goal.returns
unfolding refusal rows first number_of meaning
returns c =
    seat_next c.if-seat-ge-SEATS.false
    (row_next 7 c.is_clearing.ensures c.if-is_clearing.false
    (row_next 8 (ap not c.is_seated.ensures) (ap not c.if-not-is_seated.false)
    (row_next 9 c.is_leaving.ensures c.if-is_leaving.false
    refl)))
