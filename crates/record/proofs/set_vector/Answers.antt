-- `record::set_vector` meets its contract: a vector of 8 bits is one byte. Assumes nothing.
use mathlib.Core.Path.{sym}
use Rattle.memory.proofs.Bytes.{put_number-one}
use Rattle.record.specs.Layout.{vector_from}
use borrow.Author.Rules.{rules}
use Rattle.record.proofs.set_vector.Goals as goal

pub returns : goal.returns
returns c = let a = c.args in sym (put_number-one a.rec.now (vector_from a.s) a.v (search rules))
