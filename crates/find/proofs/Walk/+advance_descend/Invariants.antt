-- What falls where `Walk::advance` and `Walk::descend` call one another: the distance and the level. Assumes nothing.
use Prim.Native.Nat.{◌*◌, ◌+◌}
use Rattle.find.specs.inner.Steps.{remains}
use Rattle.find.proofs.Walk.+advance_descend.Given as goal

abbrev pub decreases-advance : goal.decreases-advance
decreases-advance l = remains l.rec.now l.x l.self * 2 + 1

abbrev pub decreases-descend : goal.decreases-descend
decreases-descend l = remains l.rec.now l.x l.self * 2
