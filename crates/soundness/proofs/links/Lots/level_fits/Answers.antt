-- `soundness::links::Lots::level_fits` meets its contract. Assumes nothing.
use Rattle.base.proofs.Stops.{and-stop, and-go}
use Rattle.soundness.proofs.links.Lots.level_fits.Goals as goal

pub returns-then-link_fits : goal.returns-then-link_fits
returns-then-link_fits c = and-go c.link_fits.ensures c.if-link_fits.true c.link_fits-then-link_fits.ensures

pub returns-else-link_fits : goal.returns-else-link_fits
returns-else-link_fits c = and-stop _ c.link_fits.ensures c.if-link_fits.false
