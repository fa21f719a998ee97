-- Bits of a number; the lowest is 0. Assumes nothing.
use Rattle.std.specs.Prelude.{ℕ, ◌/◌, ◌%◌, ◌^◌, Bool, eqb}

-- bit k of x: 0 or 1
unfoldable pub bit_of : (x k : ℕ) → ℕ
bit_of x k = x / 2 ^ k % 2

-- bit k of x is 1
abbrev pub has_bit : (x k : ℕ) → Bool
has_bit x k = eqb (bit_of x k) 1
