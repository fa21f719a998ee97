-- `memory::zero_word` meets its contract: the word is 0 exactly if its bytes are 0. Assumes nothing.
use Prim.Native.Nat.{ℕ}
use mathlib.Core.Path.{refl, ap, ◌∙◌}
use mathlib.Core.Bool.{false}
use native.Mathlib.Omega.{arith}
use lib.Dec.{eqb}
use Rattle.memory.specs.Bytes.{AreBytes}
use Rattle.memory.specs.Bits.{packed}
use Rattle.memory.proofs.Bitmap.{bytes-all}
use Rattle.memory.proofs.zero_word.Goals as goal

pub returns : goal.returns
unfolding packed
returns c = let s = c.args in
    let bytes : AreBytes s.rec.now = λ j. omega (arith, c.type_inv.rec j) in
    ap (λ (x : ℕ). eqb x 0) c.word.ensures ∙ bytes-all s.rec.now s.at 8 0 0 false refl refl bytes
