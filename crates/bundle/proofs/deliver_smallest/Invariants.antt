-- `bundle::deliver_smallest` meets its contract. The loop's invariant: so many deliveries of the bundle are made, and the rest is to be done. Assumes
-- nothing.
use Rattle.bundle.proofs.Going.{Going}
use Rattle.bundle.proofs.deliver_smallest.Given as goal

abbrev pub invariant-loop-n : goal.invariant-loop-n
invariant-loop-n l = Going l.initial.rec l.limit l.rec l.index.numbers l.index.top l.reach l.n
