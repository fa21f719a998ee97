-- `find::is_settled` meets its contract. Assumes nothing.
use mathlib.Core.Path.{ap}
use mathlib.Core.Bool.{not}
use Rattle.base.proofs.Stops.{and-stop, and-go}
use Rattle.check_links.specs.Settled.{settled}
use Rattle.find.proofs.Refused.{none-pending}
use Rattle.find.proofs.is_settled.Goals as goal

pub returns-then-is_none : goal.returns-then-is_none
unfolding settled
returns-then-is_none c =
    and-go (ap not c.is_clearing.ensures) (ap not c.if-not-is_clearing.true)
    (and-go (none-pending _ c.args.first c.requires.1 c.is_none.ensures) c.if-is_none.true c.links_fit.ensures)

pub returns-else-is_none : goal.returns-else-is_none
unfolding settled
returns-else-is_none c =
    let q = none-pending _ c.args.first c.requires.1 c.is_none.ensures in
    and-go (ap not c.is_clearing.ensures) (ap not c.if-not-is_clearing.true) (and-stop _ q c.if-is_none.false)

pub returns-else-not-is_clearing : goal.returns-else-not-is_clearing
unfolding settled
returns-else-not-is_clearing c = and-stop _ (ap not c.is_clearing.ensures) (ap not c.if-not-is_clearing.false)
