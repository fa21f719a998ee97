-- `record::phase` meets its contract. Assumes nothing.
use Rattle.record.specs.Meaning.{seats_in}
use Rattle.record.proofs.phase.Goals as goal

pub returns : goal.returns
unfolding seats_in
returns c = c.of_byte.ensures
