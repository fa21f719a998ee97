-- `clearing::freeing::unlink_lot` meets its contract: the levels below `k` are done. Assumes nothing.
use Prim.Native.Nat.{◌+◌}
use Rattle.clearing.specs.inner.Steps.{Step, link_place, freed_to}
use Rattle.clearing.proofs.freeing.unlink_lot.Given as goal

abbrev pub invariant-loop-k : goal.invariant-loop-k
invariant-loop-k l = Step (freed_to l.set (l.x + 1) (link_place l.x 0 0)) (freed_to l.set (l.x + 1) (link_place l.x l.k 0)) l.initial.rec l.rec
