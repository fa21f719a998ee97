-- `merge::lacks_lot` meets its contract. Assumes nothing.
use mathlib.Core.Bool.{not}
use mathlib.Core.Path.{ap}
use Rattle.merge.proofs.lacks_lot.Goals as goal

pub returns-then-not-is_seated : goal.returns-then-not-is_seated
returns-then-not-is_seated c = rw (← c.is_seated.ensures, (ap not c.if-not-is_seated.true))

pub returns-else-not-is_seated : goal.returns-else-not-is_seated
returns-else-not-is_seated c = rw (← c.is_seated.ensures, (ap not c.if-not-is_seated.false), c.is_seated-else-not-is_seated.ensures)
