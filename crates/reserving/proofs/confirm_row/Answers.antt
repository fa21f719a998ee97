-- `reserving::confirm_row` meets its contract: its tests are the rows of the table, in order. Assumes nothing.
use mathlib.Core.Path.{refl, sym, ap, ◌∙◌}
use mathlib.Core.Bool.{not}
use Rattle.protocol.specs.Calls.{rows, refusal}
use Rattle.protocol.specs.Refusals.{first}
use Rattle.protocol.proofs.Accepted.{named-seat}
use Rattle.record.specs.Layout.{seats}
use Rattle.record.specs.Meaning.{meaning}
use Rattle.record.specs.Answer.{number_of}
use Rattle.record.proofs.Rows.{row_here, row_next}
use Rattle.reserving.proofs.confirm_row.Goals as goal

pub returns-then-lacks_seat : goal.returns-then-lacks_seat
unfolding refusal rows first number_of
returns-then-lacks_seat c = row_here 3 _ c.lacks_seat.ensures c.if-lacks_seat.true

pub returns-then-is_clearing : goal.returns-then-is_clearing
unfolding refusal rows first number_of meaning
returns-then-is_clearing c = row_next 3 c.lacks_seat.ensures c.if-lacks_seat.false
    (row_here 7 _ c.is_clearing.ensures c.if-is_clearing.true)

pub is_reserved-requires : goal.is_reserved-requires
is_reserved-requires c = let a = c.args in
    let e = sym c.lacks_seat.ensures ∙ c.if-lacks_seat.false in
    named-seat seats a.seat a.contact e

pub returns-then-not-is_reserved : goal.returns-then-not-is_reserved
unfolding refusal rows first number_of meaning
returns-then-not-is_reserved c =
    row_next 3 c.lacks_seat.ensures c.if-lacks_seat.false
    (row_next 7 c.is_clearing.ensures c.if-is_clearing.false
    (row_here 14 _ (ap not c.is_reserved.ensures) (ap not c.if-not-is_reserved.true)))

pub returns-then-lacks_contact : goal.returns-then-lacks_contact
unfolding refusal rows first number_of meaning
returns-then-lacks_contact c =
    row_next 3 c.lacks_seat.ensures c.if-lacks_seat.false
    (row_next 7 c.is_clearing.ensures c.if-is_clearing.false
    (row_next 14 (ap not c.is_reserved.ensures) (ap not c.if-not-is_reserved.false)
    (row_here 6 _ c.lacks_contact.ensures c.if-lacks_contact.true)))

pub returns : goal.returns
unfolding refusal rows first number_of meaning
returns c =
    row_next 3 c.lacks_seat.ensures c.if-lacks_seat.false
    (row_next 7 c.is_clearing.ensures c.if-is_clearing.false
    (row_next 14 (ap not c.is_reserved.ensures) (ap not c.if-not-is_reserved.false)
    (row_next 6 c.lacks_contact.ensures c.if-lacks_contact.false
    refl)))
