-- `memory::word` meets its contract: the library's number is made of the bits. Assumes nothing.
use mathlib.Core.Path.{◌∙◌}
use native.Mathlib.Omega.{arith}
use Rattle.memory.proofs.Conversions.{word-from_le}
use Rattle.memory.proofs.word.Goals as goal

pub returns : goal.returns
returns c =
    c.from_le_bytes.ensures ∙ word-from_le c.bytes_at.result c.args.rec.now c.args.at (λ j. omega (arith, c.type_inv.rec j)) c.bytes_at.ensures
