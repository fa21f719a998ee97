-- `memory::count_bits` meets its contract. The loop's invariant: n and the set bits of the bytes that are left are those of all. Assumes nothing.
use mathlib.Core.Path.{◌≡◌}
use Prim.Native.Nat.{◌+◌}
use lib.Count.{ones}
use lib.ListN.{length}
use Rattle.std.specs.List.{sum_by}
use Rattle.memory.proofs.count_bits.Given as goal

abbrev pub invariant-loop-rest : goal.invariant-loop-rest
invariant-loop-rest l = l.n + sum_by ones l.rest ≡ sum_by ones l.initial.rest

abbrev pub decreases-loop-rest : goal.decreases-loop-rest
decreases-loop-rest l = length l.rest
