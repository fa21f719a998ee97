-- `memory::put_word` meets its contract: the library's bytes are the number's, the lowest first. Assumes nothing.
use mathlib.Core.Path.{◌∙◌}
use native.Mathlib.Omega.{arith}
use borrow.Author.Rules.{rules}
use Rattle.memory.proofs.Conversions.{put_mid-low}
use Rattle.memory.proofs.put_word.Goals as goal

pub returns : goal.returns
returns c =
    let s = c.args in
    put_mid-low s.rec.now _ s.at _ s.n (omega arith) (search rules) (c.copy_from_slice.ensures.after ∙ c.to_le_bytes.ensures)
