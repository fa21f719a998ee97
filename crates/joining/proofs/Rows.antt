-- The first row of a call that names one seat. Assumes nothing.
use Prim.Native.Nat.{ℕ, ◌≤◌, ◌<◌}
use mathlib.Core.Path.{◌≡◌, refl, ap}
use mathlib.Core.Bool.{cond, not}
use borrow.Author.Tests.{lt-ltb, le-ltb}
use Rattle.protocol.specs.State.{no_seat}
use Rattle.protocol.specs.Refusals.{no_such_seat}
use Rattle.record.specs.Layout.{seats}
use Rattle.record.proofs.Rows.{row_here, row_next}

-- there is no such seat
pub seat_here : {s : ℕ} (rest : ℕ) → seats ≤ s → no_such_seat ≡ cond (no_seat seats s) no_such_seat rest
seat_here {s} rest h = row_here no_such_seat rest refl (ap not (le-ltb s seats h))

-- there is, and the rows after it give m
pub seat_next : {s m rest : ℕ} → s < seats → m ≡ rest → m ≡ cond (no_seat seats s) no_such_seat rest
seat_next {s} h e = row_next no_such_seat refl (ap not (lt-ltb s seats h)) e
