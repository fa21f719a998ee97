-- Membership vectors of W bits (document 01, "vector"), and how many bits two of them share. Assumes nothing.
use Rattle.std.specs.Prelude.{ℕ, zero, suc, ◌-◌, ◌/◌, ◌%◌, ◌^◌, Bool, true, false, not, cond, eqb}

-- the width of the vectors in a record
abbrev pub width : ℕ
width = 8

-- two bits are equal
abbrev pub same_bit : Bool → Bool → Bool
same_bit true b = b
same_bit false b = not b

module _ (W : ℕ) where
  -- bit k of a vector; bit 0 is the highest
  unfoldable pub bit : (k v : ℕ) → Bool
  bit k v = eqb (v / 2 ^ (W - suc k) % 2) 1

  -- how many bits are equal from bit k on, of n that are looked at
  unfoldable pub equal_bits : (k n a b : ℕ) → ℕ
  equal_bits k zero a b = 0
  equal_bits k (suc n) a b = cond (same_bit (bit k a) (bit k b)) (suc (equal_bits (suc k) n a b)) 0

  -- the shared bits of two vectors: the count of equal bits from bit 0 on, up to W
  unfoldable pub shared : (a b : ℕ) → ℕ
  shared a b = equal_bits 0 W a b
