-- `record::lots::side_of` meets its contract. Assumes nothing.
use Rattle.record.proofs.Form.{meaning-number}
use Rattle.record.proofs.lots.side_of.Goals as goal

pub returns : goal.returns
returns c =
    rw (
      meaning-number _ _ c.requires.0,
      meaning-number _ _ c.requires.1,
      ← c.number.ensures,
      ← c.number-2.ensures,
    ) c.side_of.ensures
