-- `soundness::pending::word_fits` meets its contract. The loop's invariant: the places before i pass, and `rest` is made of the bits from i on.
-- Assumes nothing.
use Prim.Native.Nat.{◌+◌, ◌-◌, ◌*◌}
use Rattle.soundness.proofs.PendingWord.{Rest}
use Rattle.soundness.proofs.pending.word_fits.Given as goal

abbrev pub invariant-loop-rest : goal.invariant-loop-rest
invariant-loop-rest l = Rest l.rec (64 * l.w) l.i l.rest

abbrev pub decreases-loop-rest : goal.decreases-loop-rest
decreases-loop-rest l = 64 * l.w + 64 - l.i
