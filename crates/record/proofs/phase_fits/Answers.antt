-- `record::phase_fits` meets its contract. Assumes nothing.
use mathlib.Core.Path.{refl}
use Rattle.record.specs.Sound.{phase_fits}
use Rattle.record.proofs.phase_fits.Goals as goal

pub returns : goal.returns
unfolding phase_fits
returns c = rw c.byte_of_phase.ensures refl
