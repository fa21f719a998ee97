-- `clearing::freeing::free_seats` meets its contract: the seats below `s`, and their links, are done. Assumes nothing.
use Rattle.clearing.specs.inner.Steps.{Step, same, link_place, freed_to}
use Rattle.clearing.proofs.freeing.free_seats.Given as goal

abbrev pub invariant-loop-s : goal.invariant-loop-s
invariant-loop-s l = Step same (freed_to l.set l.s (link_place l.s 0 0)) l.initial.rec l.rec
