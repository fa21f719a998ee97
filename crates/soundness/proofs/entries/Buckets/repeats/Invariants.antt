-- `soundness::entries::repeats` meets its contract. The loop's invariant: y is the last lot of the bucket below some m, and who has the number
-- is below m. Assumes nothing.
use Prim.Native.Nat.{ℕ, ◌≤◌}
use mathlib.Core.Path.{◌≡◌}
use Rattle.base.specs.Loops.{any}
use Rattle.record.specs.Meaning.{seats_in}
use Rattle.soundness.specs.inner.Buckets.{bucket_of, same_number, last_in}
use Rattle.soundness.proofs.entries.Buckets.repeats.Given as goal

abbrev pub invariant-loop-y : goal.invariant-loop-y
invariant-loop-y l = (l.n ≡ (seats_in l.rec).number l.s) × ((m : ℕ) × (m ≤ l.s) × (l.y ≡ last_in l.rec m (bucket_of l.rec l.s))
    × (any l.s (same_number l.rec l.s) ≡ any m (same_number l.rec l.s)))

abbrev pub decreases-loop-y : goal.decreases-loop-y
decreases-loop-y l = l.y
