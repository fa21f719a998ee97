-- The machine's counts of a number's bits: the trailing zeros are the first set bit, the ones the count of set bits. Assumes nothing.
use Prim.Native.Nat.{ℕ, zero, suc, ◌+◌, ◌-◌, ◌/◌, ◌%◌, ◌^◌, ◌≤◌, ◌<◌}
use mathlib.Core.Path.{◌≡◌, refl, sym, ap, ◌∙◌}
use mathlib.Core.Logic.{⊎_elim}
use mathlib.Core.Bool.{Bool, true, false}
use native.Mathlib.Omega.{arith}
use native.Mathlib.Nat.{suc-add, pow-suc}
use native.Mathlib.Numerals.{one-add}
use lib.Count.{ones, ones_step, ones-le, count_trailing_zeros, trailing_of_zero, under}
use lib.Pow.{shr_lt}
use Rattle.base.specs.Loops.{first_from, count}
use Rattle.memory.specs.Bits.{has_bit, packed}
use Rattle.base.proofs.Cases.{lt-or-ge}
use Rattle.memory.proofs.Bits.{bit_of-zero, one_if-has_bit, has_bit-is, has_bit-shr}
use Rattle.base.proofs.First.{first, first-same, first-shift}
use Rattle.base.proofs.Count.{count-append, count-more, count_none, count_same}
use Rattle.memory.proofs.Packed.{packed_lt, packed-bits, packed_none}

-- the first of the lowest n bits that is set
pub trailing-first : (n x : ℕ) → count_trailing_zeros n x ≡ first_from n 0 (has_bit x)
unfolding count_trailing_zeros first_from
trailing-first zero x = refl
trailing-first (suc n) x = by (x % 2) refl (trailing-first n (x / 2))
  where
    rest : first_from n 1 (has_bit x) ≡ 1 + first_from n 0 (has_bit (x / 2))
    rest =
        first-shift 1 n 0 (has_bit x)
        ∙ ap (λ (r : ℕ). 1 + r) (first-same n 0 (λ j. has_bit x (1 + j)) (has_bit (x / 2)) (λ j a b. has_bit-shr x 1 j))

    by : (d : ℕ) → x % 2 ≡ d → count_trailing_zeros n (x / 2) ≡ first_from n 0 (has_bit (x / 2))
        → under d (count_trailing_zeros n (x / 2)) ≡ first_from (suc n) 0 (has_bit x)
    by zero e ih = rw (has_bit-is x 0 false (bit_of-zero x ∙ e)) (omega (arith, rest))
    by (suc zero) e ih = rw (has_bit-is x 0 true (bit_of-zero x ∙ e))
    by (suc (suc d)) e ih = absurd (omega arith)

-- a number below 2 ^ n has its first set bit among the lowest n
pub trailing-fits : (n m x : ℕ) → 0 < x → x < 2 ^ n → count_trailing_zeros (n + m) x ≡ count_trailing_zeros n x
unfolding count_trailing_zeros
trailing-fits zero m x p h = absurd (omega arith)
trailing-fits (suc n) m x p h = rw suc-add (by (x % 2) refl (λ q. trailing-fits n m (x / 2) q (omega (arith, pow-suc 2 n))))
  where
    by : (d : ℕ) → x % 2 ≡ d → (0 < x / 2 → count_trailing_zeros (n + m) (x / 2) ≡ count_trailing_zeros n (x / 2))
        → under d (count_trailing_zeros (n + m) (x / 2)) ≡ under d (count_trailing_zeros n (x / 2))
    by zero e ih = ap suc (ih (omega arith))
    by (suc d) e ih = refl

-- the set bits among the lowest n
pub ones-count : (n x : ℕ) → x < 2 ^ n → ones x ≡ count n (has_bit x)
ones-count zero x h = omega (arith, ones-le 0 x h, count_none (has_bit x))
ones-count (suc n) x h =
    let p = has_bit x in
    let lowest : count 1 p ≡ x % 2 = count-more 0 p ∙ omega (arith, count_none p, one_if-has_bit x 0, bit_of-zero x) in
    let above = count_same n (λ j. p (1 + j)) (has_bit (x / 2)) (λ j l. has_bit-shr x 1 j) in
    let rest = ones-count n (x / 2) (omega (arith, pow-suc 2 n)) in
    rw (← one-add n) (omega (arith, ones_step x, count-append 1 n p))

-- the first set bit at or after bit k of a number of n bits, by a shift
module _ (n k x : ℕ) (within : k ≤ n) (fits : x < 2 ^ n) where
  below : x / 2 ^ k < 2 ^ (n - k)
  below = let e : n - k + k ≡ n = omega arith in shr_lt (n - k) k (rw e fits)

  shifted : first_from (n - k) k (has_bit x) ≡ k + count_trailing_zeros (n - k) (x / 2 ^ k)
  shifted =
      let e : k ≡ k + 0 = omega arith in
      let bits = first-same (n - k) 0 (λ j. has_bit x (k + j)) (has_bit (x / 2 ^ k)) (λ j a b. has_bit-shr x k j) in
      ap (λ (i : ℕ). first_from (n - k) i (has_bit x)) e
      ∙ first-shift k (n - k) 0 (has_bit x)
      ∙ ap (λ (r : ℕ). k + r) (bits ∙ sym (trailing-first (n - k) (x / 2 ^ k)))

  pub first-by-shift : (x / 2 ^ k ≡ 0 → ⊥) → first_from (n - k) k (has_bit x) ≡ k + count_trailing_zeros n (x / 2 ^ k)
  first-by-shift ne =
      let e : n - k + k ≡ n = omega arith in
      shifted ∙ ap (λ (t : ℕ). k + t) (sym (rw e at (trailing-fits (n - k) k (x / 2 ^ k) (omega (arith, ne)) below)))

  pub first-of-none : x / 2 ^ k ≡ 0 → first_from (n - k) k (has_bit x) ≡ n
  first-of-none e = shifted ∙ rw (e, trailing_of_zero) (omega arith)

-- the trailing zeros of a word of w bits that is made of n bits, of which one is set
module _ (w n : ℕ) (p : ℕ → Bool) (within : n ≤ w) (some : packed n p ≡ 0 → ⊥) where
  pub trailing-packed : count_trailing_zeros w (packed n p) ≡ first_from n 0 p
  trailing-packed =
      let e : n + (w - n) ≡ w = omega arith in
      sym (rw e at (sym (trailing-fits n (w - n) (packed n p) (omega (arith, some)) (packed_lt n p))))
      ∙ trailing-first n (packed n p)
      ∙ first-same n 0 (has_bit (packed n p)) p (λ j a b. packed-bits n p j (omega arith))

  pub first-set : first_from n 0 p < n
  first-set =
      ⊎_elim (λ q. q) (λ q. absurd (some (packed_none n p (λ j h. (first n 0 p).before j (omega arith) (omega arith)))))
      (lt-or-ge (first_from n 0 p) n)
