-- `soundness::entries_fit` meets its contract. Assumes nothing.
use Rattle.base.proofs.Stops.{and-stop, and-go}
use Rattle.soundness.specs.inner.Parts.{entries_fit}
use Rattle.soundness.proofs.entries_fit.Goals as goal

pub returns-then-phase_fits : goal.returns-then-phase_fits
unfolding entries_fit
returns-then-phase_fits c = and-go c.phase_fits.ensures c.if-phase_fits.true c.lots_fit.ensures

pub returns-else-phase_fits : goal.returns-else-phase_fits
unfolding entries_fit
returns-else-phase_fits c = and-stop _ c.phase_fits.ensures c.if-phase_fits.false
