-- `soundness::entries::seats_fit` meets its contract. The loop's invariant: the seats below s pass, their lots are kept, and from `top` on none of
-- them is a lot. Assumes nothing.
use Prim.Native.Nat.{ℕ, ◌≤◌, ◌<◌}
use mathlib.Core.Path.{◌≡◌}
use mathlib.Core.Bool.{Bool, true, false, ◌&&◌}
use mathlib.Core.List.{List}
use Rattle.base.specs.Loops.{all}
use Rattle.protocol.specs.State.{taken}
use Rattle.record.specs.Layout.{seats}
use Rattle.record.specs.Meaning.{seats_in}
use Rattle.soundness.specs.inner.Parts.{differ, seat_fits}
use Rattle.soundness.specs.inner.Buckets.{KeptIn}
use Rattle.soundness.proofs.entries.seats_fit.Given as goal

-- the clauses of seat s
abbrev pub passes : (l : List ℕ) (s : ℕ) → Bool
passes l s = seat_fits l s && all s (differ l s)

abbrev pub invariant-loop-s : goal.invariant-loop-s
invariant-loop-s l = (l.s ≤ seats) × (l.top ≤ l.s)
    × (all l.s (passes l.rec) ≡ true) × KeptIn l.rec l.s l.lots
    × ((y : ℕ) → y < l.s → l.top ≤ y → taken (seats_in l.rec) y ≡ false)
