-- `memory::put_bit` meets its contract: the word's bit is set by an or, and cleared by an and. Assumes nothing.
use mathlib.Core.Path.{◌≡◌, ◌∙◌}
use Prim.Native.Nat.{◌%◌}
use native.Mathlib.Omega.{arith}
use borrow.Author.Rules.{rules}
use Rattle.memory.specs.Bits.{with_bit}
use Rattle.memory.proofs.Words.{put-bit, mask_on, mask_off}
use Rattle.memory.proofs.put_bit.Goals as goal
use Rattle.memory.proofs.put_bit.Goals.{then-b, else-b}

pub returns : goal.returns
returns c =
    let s = c.args in
    let x = c.word-x.result in
    let k = s.i % 64 in
    let masked : c.if-b.put_word ≡ with_bit x k s.b = elim c.if-b.branch [
      | then-b w ↦ rw w.if-b.true (w.put_word-is ∙ mask_on x k (omega arith))
      | else-b w ↦ rw w.if-b.false (w.put_word-is ∙ mask_off x k (omega arith) (omega arith))
    ] in
    put-bit s.rec.now s.base s.i (search rules) (search rules) c.word-x.ensures s.b masked c.put_word.ensures
