-- `clearing::tell_links` meets its contract: the levels below `k` are done. Assumes nothing.
use Rattle.protocol.specs.Page.{each}
use Rattle.clearing.specs.inner.Steps.{Step, same, saying, level_farewells}
use Rattle.clearing.proofs.tell_links.Given as goal

abbrev pub invariant-loop-k : goal.invariant-loop-k
invariant-loop-k l = Step same (λ M. saying M (each l.k (level_farewells M.link l.y))) l.initial.rec l.rec
