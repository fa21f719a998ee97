-- `check_links::backs_fit` meets its contract. Assumes nothing.
use Rattle.base.proofs.Stops.{and-stop, and-go}
use Rattle.search.specs.inner.LinkCheck.{backs_ok}
use Rattle.check_links.proofs.backs_fit.Goals as goal

pub returns-then-back_fits : goal.returns-then-back_fits
unfolding backs_ok
returns-then-back_fits c = and-go c.back_fits.ensures c.if-back_fits.true c.back_fits-then-back_fits.ensures

pub returns-else-back_fits : goal.returns-else-back_fits
unfolding backs_ok
returns-else-back_fits c = and-stop _ c.back_fits.ensures c.if-back_fits.false
