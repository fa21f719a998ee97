-- `record::fill` meets its contract. Assumes nothing.
use Rattle.record.proofs.fill.Goals as goal

pub returns : goal.returns
returns c =
    rw (c.set_vector.ensures, c.set_number.ensures)
