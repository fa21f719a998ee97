-- `record::lots::share` meets its contract. Assumes nothing.
use Rattle.record.proofs.Form.{meaning-vector}
use Rattle.record.proofs.lots.share.Goals as goal

pub returns : goal.returns
returns c =
    rw (
      meaning-vector _ _ c.requires.0,
      meaning-vector _ _ c.requires.1,
      ← c.vector.ensures,
      ← c.vector-2.ensures,
    ) c.share.ensures
