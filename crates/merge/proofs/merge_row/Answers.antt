-- `merge::merge_row` meets its contract: its tests are the rows of the table, in order. Assumes nothing.
use mathlib.Core.Path.{refl, sym, ◌∙◌}
use borrow.Author.Tests.{eq-eqb, ne_eqb}
use native.Mathlib.Omega.{arith}
use Rattle.protocol.specs.Calls.{rows, refusal}
use Rattle.protocol.specs.Refusals.{first}
use Rattle.protocol.proofs.Accepted.{two-seats}
use Rattle.record.specs.Layout.{seats}
use Rattle.record.specs.Meaning.{meaning}
use Rattle.record.specs.Answer.{number_of}
use Rattle.record.proofs.Rows.{row_here, row_next}
use Rattle.merge.proofs.merge_row.Goals as goal

pub returns-then-lacks_seat : goal.returns-then-lacks_seat
unfolding refusal rows first number_of
returns-then-lacks_seat c = row_here 3 _ c.lacks_seat.ensures c.if-lacks_seat.true

pub returns-then-is_clearing : goal.returns-then-is_clearing
unfolding refusal rows first number_of meaning
returns-then-is_clearing c = row_next 3 c.lacks_seat.ensures c.if-lacks_seat.false
    (row_here 7 _ c.is_clearing.ensures c.if-is_clearing.true)

pub lacks_lot-requires : goal.lacks_lot-requires
lacks_lot-requires c =
    let a = c.args in
    let t = two-seats seats a.first a.second (sym c.lacks_seat.ensures ∙ c.if-lacks_seat.false) in
    (t.0, t.1)

pub returns-then-lacks_lot : goal.returns-then-lacks_lot
unfolding refusal rows first number_of meaning
returns-then-lacks_lot c =
    row_next 3 c.lacks_seat.ensures c.if-lacks_seat.false
    (row_next 7 c.is_clearing.ensures c.if-is_clearing.false
    (row_here 8 _ c.lacks_lot.ensures c.if-lacks_lot.true))

-- the last row asks for nothing but
-- that the two seats are one
pub returns-then-first-second : goal.returns-then-first-second
unfolding refusal rows first number_of meaning
returns-then-first-second c =
    row_next 3 c.lacks_seat.ensures c.if-lacks_seat.false
    (row_next 7 c.is_clearing.ensures c.if-is_clearing.false
    (row_next 8 c.lacks_lot.ensures c.if-lacks_lot.false
    (row_here 15 _ refl (eq-eqb _ _ c.if-first-second.true))))

pub returns : goal.returns
unfolding refusal rows first number_of meaning
returns c =
    row_next 3 c.lacks_seat.ensures c.if-lacks_seat.false
    (row_next 7 c.is_clearing.ensures c.if-is_clearing.false
    (row_next 8 c.lacks_lot.ensures c.if-lacks_lot.false
    (row_next 15 refl (ne_eqb _ _ c.if-first-second.false)
    refl)))
