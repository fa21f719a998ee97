-- Bits of a number: 0 has none. Assumes nothing.
use Prim.Native.Nat.{ℕ}
use mathlib.Core.Path.{◌≡◌, ap}
use mathlib.Core.Bool.{false}
use native.Mathlib.Nat.{zero-div}
use lib.Dec.{eqb}
use Rattle.base.specs.Bits.{bit_of, has_bit}

pub bit_of-none : (k : ℕ) → bit_of 0 k ≡ 0
unfolding bit_of
bit_of-none k = rw zero-div

pub has_bit-none : (k : ℕ) → has_bit 0 k ≡ false
has_bit-none k = ap (λ (b : ℕ). eqb b 1) (bit_of-none k)
