-- `record::lots::shares` meets its contract. Assumes nothing.
use Rattle.record.specs.Meaning.{meaning}
use Rattle.record.proofs.lots.shares.Goals as goal

pub returns : goal.returns
unfolding meaning
returns c = rw c.share.ensures
