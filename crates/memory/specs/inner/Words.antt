-- A word written to bytes, the lowest byte first, and whether a word of a bitmap has a set bit. Assumes nothing.
use Rattle.std.specs.Prelude.{ℕ, zero, suc, ◌+◌, ◌*◌, ◌/◌, ◌%◌, ◌^◌, Bool, List, set}
use Rattle.base.specs.Loops.{any}
use Rattle.memory.specs.Bits.{bit_set}

-- l with the n low bytes of v from a on
unfoldable pub put_low : (l : List ℕ) (a n v : ℕ) → List ℕ
put_low l a zero v = l
put_low l a (suc n) v = set (put_low l a n v) (a + n) (v / 2 ^ (n * 8) % 256)

-- a bit of word w of the bitmap at base, which is bits w * 64 up to w * 64 + 64, is 1
abbrev pub word_set : (l : List ℕ) (base w : ℕ) → Bool
word_set l base w = any 64 (λ j. bit_set l base (w * 64 + j))
