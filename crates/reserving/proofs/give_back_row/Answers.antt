-- `reserving::give_back_row` meets its contract: its tests are the rows of the table, in order. Assumes nothing.
use mathlib.Core.Path.{refl, ap}
use mathlib.Core.Bool.{not}
use Rattle.protocol.specs.Calls.{rows, refusal}
use Rattle.protocol.specs.Refusals.{first}
use Rattle.record.specs.Meaning.{meaning}
use Rattle.record.specs.Answer.{number_of}
use Rattle.record.proofs.Rows.{row_here, row_next}
use Rattle.joining.proofs.Rows.{seat_here, seat_next}
use Rattle.reserving.proofs.give_back_row.Goals as goal

pub returns-then-seat-ge-SEATS : goal.returns-then-seat-ge-SEATS
unfolding refusal rows first number_of
returns-then-seat-ge-SEATS c = seat_here _ c.if-seat-ge-SEATS.true

pub returns-then-not-is_reserved : goal.returns-then-not-is_reserved
unfolding refusal rows first number_of meaning
returns-then-not-is_reserved c = seat_next c.if-seat-ge-SEATS.false
    (row_here 14 _ (ap not c.is_reserved.ensures) (ap not c.if-not-is_reserved.true))

pub returns : goal.returns
unfolding refusal rows first number_of meaning
returns c = seat_next c.if-seat-ge-SEATS.false
    (row_next 14 (ap not c.is_reserved.ensures) (ap not c.if-not-is_reserved.false)
    refl)
