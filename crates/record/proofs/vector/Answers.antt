-- `record::vector` meets its contract: a vector of 8 bits is one byte. Assumes nothing.
use mathlib.Core.Path.{sym}
use Rattle.memory.proofs.Bytes.{number_at-one}
use Rattle.record.specs.Layout.{vector_from}
use Rattle.record.proofs.vector.Goals as goal

pub returns : goal.returns
returns c = sym (number_at-one c.args.rec.now (vector_from c.args.s))
