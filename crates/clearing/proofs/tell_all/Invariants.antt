-- `clearing::tell_all` meets its contract: the lots below `y` are done. Assumes nothing.
use Rattle.protocol.specs.Page.{each}
use Rattle.clearing.specs.inner.Steps.{Step, same, saying, farewells_from}
use Rattle.clearing.proofs.tell_all.Given as goal

abbrev pub invariant-loop-y : goal.invariant-loop-y
invariant-loop-y l = Step same (λ M. saying M (each l.y (farewells_from M))) l.initial.rec l.rec
