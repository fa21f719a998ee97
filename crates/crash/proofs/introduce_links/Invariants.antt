-- `crash::introduce_links` meets its contract: the levels from 1 below `k` are done. Assumes nothing.
use Prim.Native.Nat.{◌-◌}
use Rattle.protocol.specs.Page.{each}
use Rattle.clearing.specs.inner.Steps.{Step, same, saying}
use Rattle.crash.specs.inner.Steps.{level_introductions}
use Rattle.crash.proofs.introduce_links.Given as goal

abbrev pub invariant-loop-k : goal.invariant-loop-k
invariant-loop-k l = Step same (λ M. saying M (each (l.k - 1) (level_introductions M.link l.x))) l.initial.rec l.rec
