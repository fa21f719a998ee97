-- Bits of a number: the lowest and those above it, one bit set or cleared, and what code's masks do. Assumes nothing.
use Prim.Native.Nat.{ℕ, zero, suc, ◌+◌, ◌-◌, ◌*◌, ◌/◌, ◌%◌, ◌^◌, ◌≤◌, ◌<◌}
use mathlib.Core.Path.{◌≡◌, refl, sym, ap, ◌∙◌}
use mathlib.Core.Bool.{Bool, true, false}
use native.Mathlib.Omega.{arith}
use native.Mathlib.Nat.{le_trans, mul-le-mul_right, mul_assoc, one-mul, zero-mul, mod-le, div-mul-le_self, pow-suc}
use native.Mathlib.Numerals.{one-add}
use lib.Bits.{bit_and, bit_or, and_high, or_add_and}
use lib.Dec.{eqb, lit<}
use lib.Pow.{shr-shr, shl_exact}
use borrow.Author.Tests.{eq-eqb, ne_eqb, eqb-true}
use Rattle.base.specs.Loops.{one_if}
use Rattle.memory.specs.Bits.{bit_of, has_bit, with_bit}
use Rattle.base.proofs.Count.{one_if-le}
pub use Rattle.base.proofs.Bits.{has_bit-none}

-- the lowest bit
pub bit_of-zero : (x : ℕ) → bit_of x 0 ≡ x % 2
unfolding bit_of
bit_of-zero x = omega arith

-- the bits above a shift
pub bit_of-shr : (x k j : ℕ) → bit_of (x / 2 ^ k) j ≡ bit_of x (k + j)
unfolding bit_of
bit_of-shr x k j = ap (λ (n : ℕ). n % 2) (shr-shr x k j)

pub bit_of-suc : (x k : ℕ) → bit_of x (suc k) ≡ bit_of (x / 2) k
bit_of-suc x k = ap (bit_of x) (sym (one-add k)) ∙ sym (bit_of-shr x 1 k)

pub bit_of-two : (x k : ℕ) → bit_of x k < 2
unfolding bit_of
bit_of-two x k = omega arith

-- what a bit stands for is within the number
pub bit_of-le : (x k : ℕ) → bit_of x k * 2 ^ k ≤ x
unfolding bit_of
bit_of-le x k = le_trans (mul-le-mul_right (2 ^ k) (mod-le (x / 2 ^ k) 2)) (div-mul-le_self x (2 ^ k))

-- a bit as a test, and a test as a bit
pub one_if-has_bit : (x k : ℕ) → one_if (has_bit x k) ≡ bit_of x k
one_if-has_bit x k = by (bit_of x k) (bit_of-two x k)
  where
    by : (b : ℕ) → b < 2 → one_if (eqb b 1) ≡ b
    by zero h = refl
    by (suc zero) h = refl
    by (suc (suc b)) h = absurd (omega arith)

pub has_bit-is : (x k : ℕ) (b : Bool) → bit_of x k ≡ one_if b → has_bit x k ≡ b
has_bit-is x k true e = eq-eqb (bit_of x k) 1 e
has_bit-is x k false e = ne_eqb (bit_of x k) 1 (λ q. omega arith)

pub has_bit-shr : (x k j : ℕ) → has_bit x (k + j) ≡ has_bit (x / 2 ^ k) j
has_bit-shr x k j = ap (λ (y : ℕ). eqb y 1) (sym (bit_of-shr x k j))

-- a number with a bit changed: its lowest bit, and those above it
with_bit-zero : (x : ℕ) (b : Bool) → with_bit x 0 b ≡ x / 2 * 2 + one_if b
unfolding with_bit
with_bit-zero x b = let e = bit_of-zero x in omega arith

with_bit-suc : (x k : ℕ) (b : Bool) → with_bit x (suc k) b ≡ with_bit (x / 2) k b * 2 + x % 2
unfolding with_bit
with_bit-suc x k b =
    let twice : (c : ℕ) → c * 2 ^ suc k ≡ c * 2 ^ k * 2 = λ c. rw pow-suc (sym (mul_assoc c (2 ^ k) 2)) in
    rw (bit_of-suc x k) (omega (arith, twice (bit_of (x / 2) k), twice (one_if b), bit_of-le (x / 2) k))

-- a bit of a number that ends in the lowest bit of x
bit_of-above : (y x k : ℕ) → bit_of (y * 2 + x % 2) (suc k) ≡ bit_of y k
bit_of-above y x k = bit_of-suc (y * 2 + x % 2) k ∙ ap (λ (n : ℕ). bit_of n k) (omega arith)

with_bit-same : (x k : ℕ) (b : Bool) → bit_of (with_bit x k b) k ≡ one_if b
with_bit-same x zero b = rw (with_bit-zero, bit_of-zero) (omega (arith, one_if-le b))
with_bit-same x (suc k) b = rw (with_bit-suc, bit_of-above) (with_bit-same (x / 2) k b)

with_bit-other : (x k j : ℕ) (b : Bool) → (j ≡ k → ⊥) → bit_of (with_bit x k b) j ≡ bit_of x j
with_bit-other x zero zero b ne = absurd (ne refl)
with_bit-other x zero (suc j) b ne =
    rw (with_bit-zero, bit_of-suc (x / 2 * 2 + one_if b) j, bit_of-suc x j) (ap (λ (n : ℕ). bit_of n j) (omega (arith, one_if-le b)))
with_bit-other x (suc k) zero b ne = rw (with_bit-suc, bit_of-zero (with_bit (x / 2) k b * 2 + x % 2), bit_of-zero x) (omega arith)
with_bit-other x (suc k) (suc j) b ne = rw (with_bit-suc, bit_of-above, bit_of-suc) (with_bit-other (x / 2) k j b (λ e. ne (ap suc e)))

-- the bit that was changed, the others, and the bound that is kept
pub has_bit-with_bit : (x k : ℕ) (b : Bool) → has_bit (with_bit x k b) k ≡ b
has_bit-with_bit x k b = has_bit-is (with_bit x k b) k b (with_bit-same x k b)

pub has_bit-with_bit-other : (x k j : ℕ) (b : Bool) → (j ≡ k → ⊥) → has_bit (with_bit x k b) j ≡ has_bit x j
has_bit-with_bit-other x k j b ne = ap (λ (n : ℕ). eqb n 1) (with_bit-other x k j b ne)

pub with_bit-lt : (n x k : ℕ) (b : Bool) → x < 2 ^ n → k < n → with_bit x k b < 2 ^ n
with_bit-lt zero x k b h l = absurd (omega arith)
with_bit-lt (suc n) x zero b h l = rw with_bit-zero (omega (arith, pow-suc 2 n, one_if-le b))
with_bit-lt (suc n) x (suc k) b h l =
    let p = pow-suc 2 n in
    let r = with_bit-lt n (x / 2) k b (omega arith) (omega arith) in
    rw with_bit-suc (omega arith)

-- the bit that is there changes nothing
pub with_bit-has_bit : (x k : ℕ) → with_bit x k (has_bit x k) ≡ x
unfolding with_bit
with_bit-has_bit x k = rw (one_if-has_bit x k) (omega (arith, bit_of-le x k))

-- a one shifted within w bits
pub one_shifted : (w k : ℕ) → k < w → (1 * 2 ^ k) % 2 ^ w ≡ 2 ^ k
one_shifted w k h = shl_exact 1 k w (lit< tt) (omega arith) ∙ one-mul (2 ^ k)

-- code's masks: the bit alone, the bit set, the bit cleared
pub mask-bit : (x k : ℕ) → bit_and x (2 ^ k) ≡ bit_of x k * 2 ^ k
unfolding bit_of
mask-bit x k = let e : 2 ^ (1 + k) - 2 ^ k ≡ 2 ^ k = rw one-add (omega (arith, pow-suc 2 k)) in ap (bit_and x) (sym e) ∙ and_high x 1 k

pub mask-set : (x k : ℕ) → bit_or x (2 ^ k) ≡ with_bit x k true
unfolding with_bit
mask-set x k = omega (arith, or_add_and x (2 ^ k), mask-bit x k, one-mul (2 ^ k), bit_of-le x k)

pub mask-clear : (x k : ℕ) → x - bit_and x (2 ^ k) ≡ with_bit x k false
unfolding with_bit
mask-clear x k = omega (arith, mask-bit x k, zero-mul (2 ^ k))

-- a set bit's power is within the number, and taken off clears the bit
pub power-within : (x k : ℕ) → has_bit x k ≡ true → 2 ^ k ≤ x
power-within x k h = let e : bit_of x k ≡ 1 = eqb-true (bit_of x k) 1 h in omega (arith, bit_of-le x k, ap (λ (n : ℕ). n * 2 ^ k) e, one-mul (2 ^ k))

pub power-off : (x k : ℕ) → has_bit x k ≡ true → x - 2 ^ k ≡ with_bit x k false
power-off x k h =
    let e : bit_of x k ≡ 1 = eqb-true (bit_of x k) 1 h in
    ap (λ (n : ℕ). x - n) (sym (mask-bit x k ∙ ap (λ (n : ℕ). n * 2 ^ k) e ∙ one-mul (2 ^ k))) ∙ mask-clear x k
