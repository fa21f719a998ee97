-- `Walk::leftward` meets its contract. The loop's invariant: what goes on from where it stands goes on from the first; each turn, fewer lots lie
-- left of it. Assumes nothing.
use Rattle.find.specs.inner.Steps.{left_of}
use Rattle.find.proofs.Leftward.{Underway}
use Rattle.find.proofs.Walk.leftward.Given as goal

abbrev pub invariant-loop-y : goal.invariant-loop-y
invariant-loop-y l = Underway l.rec l.initial.self l.self

abbrev pub decreases-loop-y : goal.decreases-loop-y
decreases-loop-y l = left_of l.rec l.self
