-- Bits of a number, and bitmaps in bytes: bit i of the bitmap at base is bit i % 8, the lowest is 0, of byte base + i / 8. Assumes nothing.
use Rattle.std.specs.Prelude.{ℕ, zero, suc, ◌+◌, ◌-◌, ◌*◌, ◌/◌, ◌%◌, ◌^◌, Bool, true, false, List, get_or, set}
use Rattle.base.specs.Loops.{one_if}
unfoldable pub use Rattle.base.specs.Bits.{bit_of}
pub use Rattle.base.specs.Bits.{has_bit}

-- x with b for its bit k
unfoldable pub with_bit : (x k : ℕ) (b : Bool) → ℕ
with_bit x k b = x - bit_of x k * 2 ^ k + one_if b * 2 ^ k

-- the number whose bit j is p j, for each j below n
unfoldable pub packed : (n : ℕ) (p : ℕ → Bool) → ℕ
packed zero p = 0
packed (suc n) p = one_if (p 0) + 2 * packed n (λ j. p (suc j))

-- bit i of the bitmap at base is 1
abbrev pub bit_set : (l : List ℕ) (base i : ℕ) → Bool
bit_set l base i = has_bit (get_or l (base + i / 8) 0) (i % 8)

-- l with b for bit i of the bitmap at base
abbrev pub put_bit : (l : List ℕ) (base i : ℕ) (b : Bool) → List ℕ
put_bit l base i b = set l (base + i / 8) (with_bit (get_or l (base + i / 8) 0) (i % 8) b)

-- l with bit i of the bitmap at base set
abbrev pub set_bit : (l : List ℕ) (base i : ℕ) → List ℕ
set_bit l base i = put_bit l base i true

-- l with bit i of the bitmap at base clear
abbrev pub clear_bit : (l : List ℕ) (base i : ℕ) → List ℕ
clear_bit l base i = put_bit l base i false
