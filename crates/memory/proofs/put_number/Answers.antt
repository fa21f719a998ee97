-- `memory::put_number` meets its contract: the library's bytes are the number's digits. Assumes nothing.
use mathlib.Core.Path.{◌∙◌}
use native.Mathlib.Omega.{arith}
use borrow.Author.Rules.{rules}
use Rattle.memory.proofs.Conversions.{put_mid-number}
use Rattle.memory.proofs.put_number.Goals as goal

pub returns : goal.returns
returns c =
    let s = c.args in
    put_mid-number s.rec.now _ s.at _ s.n (omega arith) (search rules) (c.copy_from_slice.ensures.after ∙ c.to_be_bytes.ensures)
