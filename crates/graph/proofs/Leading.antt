-- The shared bits of two vectors of W bits are the leading zeros of their exclusive or, for any W. Assumes that the vectors fit W bits.
use Prim.Native.Nat.{ℕ, zero, suc, ◌+◌, ◌-◌, ◌*◌, ◌^◌, ◌/◌, ◌%◌, ◌≤◌, ◌<◌}
use mathlib.Core.Path.{◌≡◌, refl, sym, ◌∙◌, ap}
use mathlib.Core.Logic.{◌↔◌}
use mathlib.Core.Bool.{Bool, true, false}
use native.Mathlib.Omega.{arith}
use native.Mathlib.Nat.{pow-suc, div-eq_of_lt, div-lt_iff_lt-mul, div-div-eq-div-mul}
use native.Mathlib.Decide.{dec_lt}
use lib.Dec.{eqb}
use lib.Bits.{bit_xor, xor_add_and, and_le_l, and_le_r, xor_shr, xor_self, xor_lt}
use lib.Count.{count_leading_zeros, leading_le, leading_length}
use lib.Pow.{pow_mono, pow_pos}
use borrow.Author.Tests.{eqb-true, eqb-false}
use Rattle.graph.specs.Vector.{bit, shared}
use Rattle.graph.proofs.Below.{below_suc}
use Rattle.graph.proofs.Shared.{shared-le, shared-bits, bits-shared}

xor-zero : (a b : ℕ) → bit_xor a b ≡ 0 → a ≡ b
xor-zero a b e = omega (arith, xor_add_and a b, and_le_l a b, and_le_r a b)

odd-same : (m n : ℕ) → eqb (m % 2) 1 ≡ eqb (n % 2) 1 → m % 2 ≡ n % 2
odd-same m n e = by (eqb (n % 2) 1) refl
  where
    by : (t : Bool) → eqb (n % 2) 1 ≡ t → m % 2 ≡ n % 2
    by true f = omega (arith, eqb-true (m % 2) 1 (e ∙ f), eqb-true (n % 2) 1 f)
    by false f = let p = eqb-false (m % 2) 1 (e ∙ f) in let q = eqb-false (n % 2) 1 f in omega arith

-- the first k bits of a vector of W bits, as a number
abbrev pub top : (W k v : ℕ) → ℕ
top W k v = v / 2 ^ (W - k)

top-half : (W k v : ℕ) → k < W → top W k v ≡ top W (suc k) v / 2
top-half W k v l = let e : W - k ≡ suc (W - suc k) = omega arith in rw (e, pow-suc) (sym (div-div-eq-div-mul v (2 ^ (W - suc k)) 2))

module _ (W a b : ℕ) where
  top-bits : (k : ℕ) → k ≤ W → top W k a ≡ top W k b → (i : ℕ) → i < k → bit W i a ≡ bit W i b
  unfolding bit
  top-bits zero l e = λ i n. absurd (omega arith)
  top-bits (suc k) l e = let lower : top W k a ≡ top W k b = omega (arith, top-half W k a l, top-half W k b l) in
      below_suc (top-bits k (omega arith) lower) (ap (λ (v : ℕ). eqb (v % 2) 1) e)

  bits-top : (k : ℕ) → k ≤ W → a < 2 ^ W → b < 2 ^ W → ((i : ℕ) → i < k → bit W i a ≡ bit W i b) → top W k a ≡ top W k b
  unfolding bit
  bits-top zero l p q f = let e : W - 0 ≡ W = omega arith in rw e (div-eq_of_lt p ∙ sym (div-eq_of_lt q))
  bits-top (suc k) l p q f =
      let low = bits-top k (omega arith) p q (λ i n. f i (omega arith)) in
      omega (arith, top-half W k a l, top-half W k b l, low, odd-same (top W (suc k) a) (top W (suc k) b) (f k (omega arith)))

module _ (W a b : ℕ) (fits-a : a < 2 ^ W) (fits-b : b < 2 ^ W) where
  -- both counts are at least k exactly if the first k bits are equal
  pub shared-top : (k : ℕ) → k ≤ W → (k ≤ shared W a b) ↔ (top W k a ≡ top W k b)
  shared-top k l = (λ h. bits-top W a b k l fits-a fits-b (shared-bits W a b k h), λ e. bits-shared W a b k l (top-bits W a b k l e))

  -- how many bits are left after the leading zeros
  length : (m : ℕ) × (count_leading_zeros W (bit_xor a b) + m ≡ W) × (bit_xor a b < 2 ^ m) × (2 ^ m ≤ 2 * bit_xor a b + 1)
  length = leading_length W (bit_xor a b) (xor_lt W a b fits-a fits-b)

  leading_top : (k : ℕ) → k ≤ W → (k ≤ count_leading_zeros W (bit_xor a b)) ↔ (top W k a ≡ top W k b)
  leading_top k l = (
    (λ h. let fits : length.0 ≤ W - k = omega (arith, length.1) in
        let below : bit_xor a b < 2 ^ (W - k) = omega (arith, length.2, pow_mono fits) in
        xor-zero (a / 2 ^ (W - k)) (b / 2 ^ (W - k)) (sym (xor_shr a b (W - k)) ∙ div-eq_of_lt below)),
    (λ e. let nil : bit_xor a b / 2 ^ (W - k) ≡ 0 = rw (xor_shr a b (W - k), e) (xor_self (b / 2 ^ (W - k))) in
        by ((div-lt_iff_lt-mul (pow_pos (W - k))).0 (omega arith)) (dec_lt (W - k) length.0)),
  )
    where
      by : bit_xor a b < 1 * 2 ^ (W - k) → Dec (W - k < length.0) → k ≤ count_leading_zeros W (bit_xor a b)
      by below (no n) = omega (arith, length.1)
      by below (yes n) = absurd (omega (arith, pow_mono n, pow-suc 2 (W - k), length.3))

pub leading-shared : (W a b : ℕ) → a < 2 ^ W → b < 2 ^ W → count_leading_zeros W (bit_xor a b) ≡ shared W a b
leading-shared W a b p q =
    let zeros = count_leading_zeros W (bit_xor a b) in
    let z = leading_le W (bit_xor a b) in
    let s = shared-le W a b in
    let below : zeros ≤ shared W a b = (shared-top W a b p q zeros z).1 ((leading_top W a b p q zeros z).0 (omega arith)) in
    let above : shared W a b ≤ zeros = (leading_top W a b p q (shared W a b) s).1 ((shared-top W a b p q (shared W a b) s).0 (omega arith)) in
    omega arith
