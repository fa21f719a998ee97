-- `merge::lacks_seat` meets its contract. Assumes nothing.
use mathlib.Core.Logic.{⊎_elim}
use borrow.Author.Tests.{lt-ltb, le-ltb, le-leb, lt-leb}
use Rattle.base.proofs.Cases.{lt-or-ge}
use Rattle.record.specs.Layout.{seats}
use Rattle.merge.proofs.lacks_seat.Goals as goal

pub returns-then-first-ge-SEATS : goal.returns-then-first-ge-SEATS
returns-then-first-ge-SEATS c = rw (le-leb _ _ c.if-first-ge-SEATS.true, le-ltb _ _ c.if-first-ge-SEATS.true)

pub returns-else-first-ge-SEATS : goal.returns-else-first-ge-SEATS
returns-else-first-ge-SEATS c = let b = c.args.second in
    rw (lt-ltb _ _ c.if-first-ge-SEATS.false)
    (⊎_elim (λ h. rw (lt-ltb b seats h, lt-leb seats b h)) (λ h. rw (le-ltb b seats h, le-leb seats b h)) (lt-or-ge b seats))
