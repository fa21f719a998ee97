-- `crash::introduce_all` meets its contract: the links of the lots below `x` are done. Assumes nothing.
use Rattle.protocol.specs.Page.{each}
use Rattle.clearing.specs.inner.Steps.{Step, same, saying}
use Rattle.crash.specs.inner.Steps.{lot_introductions}
use Rattle.crash.proofs.introduce_all.Given as goal

abbrev pub invariant-loop-x : goal.invariant-loop-x
invariant-loop-x l = Step same (λ M. saying M (each l.x (lot_introductions M.link))) l.initial.rec l.rec
