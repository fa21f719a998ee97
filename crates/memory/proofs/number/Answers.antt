-- `memory::number` meets its contract: the library's number is this one. Assumes nothing.
use mathlib.Core.Path.{◌∙◌}
use Rattle.memory.proofs.Conversions.{number-from_be}
use Rattle.memory.proofs.number.Goals as goal

pub returns : goal.returns
returns c = c.from_be_bytes.ensures ∙ number-from_be c.bytes_at.result c.args.rec.now c.args.at c.bytes_at.ensures
