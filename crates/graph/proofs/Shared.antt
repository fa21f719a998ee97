-- Shared bits, for any width: two vectors share k bits exactly if their first k bits are equal. The other laws follow. Assumes nothing.
use Prim.Native.Nat.{ℕ, zero, suc, ◌+◌, ◌≤◌, ◌<◌}
use mathlib.Core.Path.{◌≡◌, refl, sym, ◌∙◌}
use mathlib.Core.Bool.{Bool, true, false, cond}
use native.Mathlib.Omega.{arith}
use native.Mathlib.Decide.{ℕ_discrete}
use Rattle.graph.specs.Vector.{same_bit, bit, equal_bits, shared}

pub same-eq : (a b : Bool) → same_bit a b ≡ true → a ≡ b
same-eq true true e = refl
same-eq true false e = sym e
same-eq false true e = e
same-eq false false e = refl

pub eq-same : (a b : Bool) → a ≡ b → same_bit a b ≡ true
eq-same true true e = refl
eq-same true false e = sym e
eq-same false true e = e
eq-same false false e = refl

module _ (W : ℕ) (a b : ℕ) where
  equal-le : (k n : ℕ) → equal_bits W k n a b ≤ n
  unfolding equal_bits
  equal-le k zero = omega arith
  equal-le k (suc n) = by (same_bit (bit W k a) (bit W k b)) (equal-le (suc k) n)
    where
      by : (t : Bool) → equal_bits W (suc k) n a b ≤ n → cond t (suc (equal_bits W (suc k) n a b)) 0 ≤ suc n
      by true l = omega arith
      by false l = omega arith

  -- the bits that are counted are equal
  equal-in : (k n i : ℕ) → i < equal_bits W k n a b → bit W (k + i) a ≡ bit W (k + i) b
  unfolding equal_bits
  equal-in k zero i l = absurd (omega arith)
  equal-in k (suc n) i l = by (same_bit (bit W k a) (bit W k b)) refl i l (λ j m. equal-in (suc k) n j m)
    where
      by : (t : Bool) → same_bit (bit W k a) (bit W k b) ≡ t → (i : ℕ) → i < cond t (suc (equal_bits W (suc k) n a b)) 0
          → ((j : ℕ) → j < equal_bits W (suc k) n a b → bit W (suc k + j) a ≡ bit W (suc k + j) b) → bit W (k + i) a ≡ bit W (k + i) b
      by false e i l ih = absurd (omega arith)
      by true e zero l ih = let z : k + 0 ≡ k = omega arith in rw z (same-eq (bit W k a) (bit W k b) e)
      by true e (suc j) l ih = let z : suc k + j ≡ k + suc j = omega arith in rw z at (ih j (omega arith))

  -- equal bits are counted
  in-equal : (k n m : ℕ) → m ≤ n → ((i : ℕ) → i < m → bit W (k + i) a ≡ bit W (k + i) b) → m ≤ equal_bits W k n a b
  unfolding equal_bits
  in-equal k n zero l h = omega arith
  in-equal k zero (suc m) l h = absurd (omega arith)
  in-equal k (suc n) (suc m) l h = let z : k + 0 ≡ k = omega arith in
      rw (eq-same (bit W k a) (bit W k b) (rw z at (h 0 (omega arith))))
      (go (in-equal (suc k) n m (omega arith) (λ i q. let y : k + suc i ≡ suc k + i = omega arith in rw y at (h (suc i) (omega arith)))))
    where
      go : m ≤ equal_bits W (suc k) n a b → suc m ≤ suc (equal_bits W (suc k) n a b)
      go q = omega arith

  pub shared-le : shared W a b ≤ W
  unfolding shared
  shared-le = equal-le 0 W

  pub shared-bits : (k : ℕ) → k ≤ shared W a b → (i : ℕ) → i < k → bit W i a ≡ bit W i b
  unfolding shared
  shared-bits k l i m = let z : 0 + i ≡ i = omega arith in rw z at (equal-in 0 W i (omega arith))

  pub bits-shared : (k : ℕ) → k ≤ W → ((i : ℕ) → i < k → bit W i a ≡ bit W i b) → k ≤ shared W a b
  unfolding shared
  bits-shared k l h = in-equal 0 W k l (λ i m. let z : 0 + i ≡ i = omega arith in rw z (h i m))

module _ (W : ℕ) where
  pub shared-refl : {k : ℕ} (a : ℕ) → k ≤ W → k ≤ shared W a a
  shared-refl {k} a l = bits-shared W a a k l (λ i m. refl)

  shared-flip : (a b : ℕ) → shared W a b ≤ shared W b a
  shared-flip a b = bits-shared W b a (shared W a b) (shared-le W a b) (λ i l. sym (shared-bits W a b (shared W a b) (omega arith) i l))

  pub shared-sym : (a b : ℕ) → shared W a b ≡ shared W b a
  shared-sym a b = omega (arith, shared-flip a b, shared-flip b a)

  pub shared-trans : (k a b c : ℕ) → k ≤ shared W a b → k ≤ shared W b c → k ≤ shared W a c
  shared-trans k a b c p q = bits-shared W a c k (omega (arith, shared-le W a b)) (λ i l. shared-bits W a b k p i l ∙ shared-bits W b c k q i l)

  -- one bit more is shared exactly if bit k is equal
  pub shared-bit : (k a b : ℕ) → k < shared W a b → bit W k a ≡ bit W k b
  shared-bit k a b l = shared-bits W a b (suc k) l k (omega arith)

  pub bit-shared : (k a b : ℕ) → k ≤ shared W a b → k < W → bit W k a ≡ bit W k b → k < shared W a b
  bit-shared k a b p l e = bits-shared W a b (suc k) l (λ i m. by i (ℕ_discrete i k) m)
    where
      by : (i : ℕ) → Dec (i ≡ k) → i < suc k → bit W i a ≡ bit W i b
      by i (yes q) m = rw q e
      by i (no q) m = shared-bits W a b k p i (omega arith)
