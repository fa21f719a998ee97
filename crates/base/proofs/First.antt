-- The first number that passes: that it is the least, and the steps of a loop that searches from i up to an end e. Assumes nothing.
use Prim.Native.Nat.{ℕ, zero, suc, ◌+◌, ◌-◌, ◌≤◌, ◌<◌}
use mathlib.Core.Path.{◌≡◌, refl, sym, ap, ◌∙◌}
use mathlib.Core.Logic.{◌⊎◌, ⊎_elim, inl, inr}
use mathlib.Core.Bool.{Bool, true, false}
use native.Mathlib.Omega.{arith}
use Rattle.base.specs.Loops.{any, first_from}
use Rattle.base.proofs.Cases.{lt-or-ge, eq-or-ne, true-or-false}
use Rattle.base.proofs.Any.{any_out}
use Rattle.base.proofs.Tests.{true-T, false-T}

-- r is the first of the n numbers from i on that passes, else i + n
pub record IsFirst (n i : ℕ) (p : ℕ → Bool) (r : ℕ) : Type 0 where
  pub low : i ≤ r
  pub high : r ≤ i + n
  pub before : (j : ℕ) → i ≤ j → j < r → p j ≡ false
  pub found : r < i + n → p r ≡ true

here : (n i : ℕ) (p : ℕ → Bool) → p i ≡ true → first_from (suc n) i p ≡ i
unfolding first_from
here n i p e = rw e

next : (n i : ℕ) (p : ℕ → Bool) → p i ≡ false → first_from (suc n) i p ≡ first_from n (i + 1) p
unfolding first_from
next n i p e = rw e

pub first-end : (i : ℕ) (p : ℕ → Bool) → first_from 0 i p ≡ i
unfolding first_from
first-end i p = refl

-- whatever is such a first is the one that the definition computes
pub first-is : (n i : ℕ) (p : ℕ → Bool) (r : ℕ) → IsFirst n i p r → first_from n i p ≡ r
first-is zero i p r h = first-end i p ∙ omega arith
first-is (suc n) i p r h = ⊎_elim
    (λ e. let q : p i ≡ true = rw e (h.found (omega arith)) in here n i p q ∙ e)
    (λ ne.
    let q : p i ≡ false = h.before i (omega arith) (omega (arith, h.low, ne)) in
    let l : IsFirst n (i + 1) p r = record {
      low = omega (arith, h.low, ne);
      high = omega (arith, h.high);
      before = λ j a b. h.before j (omega arith) b;
      found = λ a. h.found (omega arith);
    } in
    next n i p q ∙ first-is n (i + 1) p r l)
    (eq-or-ne i r)

-- and the definition computes such a first
pub first : (n i : ℕ) (p : ℕ → Bool) → IsFirst n i p (first_from n i p)
first zero i p = rw first-end (record {
  low = omega arith;
  high = omega arith;
  before = λ j a b. absurd (omega arith);
  found = λ a. absurd (omega arith);
})
first (suc n) i p = by (true-or-false (p i)) (first n (i + 1) p)
  where
    by : (p i ≡ true) ⊎ (p i ≡ false) → IsFirst n (i + 1) p (first_from n (i + 1) p) → IsFirst (suc n) i p (first_from (suc n) i p)
    by (inl e) h = rw (here n i p e) (record {
      low = omega arith;
      high = omega arith;
      before = λ j a b. absurd (omega arith);
      found = λ a. e;
    })
    by (inr e) h = rw (next n i p e) (record {
      low = omega arith;
      high = omega arith;
      before = λ j a b. ⊎_elim (λ q. rw (← q) e) (λ q. h.before j (omega (arith, q)) b) (eq-or-ne i j);
      found = λ a. h.found (omega arith);
    })

pub first-same : (n i : ℕ) (p q : ℕ → Bool) → ((j : ℕ) → i ≤ j → j < i + n → p j ≡ q j) → first_from n i p ≡ first_from n i q
first-same n i p q h =
    let f = first n i q in
    first-is n i p (first_from n i q) (record {
      low = f.low;
      high = f.high;
      before = λ j a b. h j a (omega arith) ∙ f.before j a b;
      found = λ a. h (first_from n i q) f.low a ∙ f.found a;
    })

-- a search of numbers that are all d higher
pub first-shift : (d n i : ℕ) (p : ℕ → Bool) → first_from n (d + i) p ≡ d + first_from n i (λ j. p (d + j))
first-shift d n i p =
    let f = first n i (λ j. p (d + j)) in
    let down : (j : ℕ) → d + i ≤ j → d + (j - d) ≡ j = λ j a. omega arith in
    first-is n (d + i) p (d + first_from n i (λ j. p (d + j))) (record {
      low = omega arith;
      high = omega arith;
      before = λ j a b. ap p (sym (down j a)) ∙ f.before (j - d) (omega arith) (omega arith);
      found = λ a. f.found (omega arith);
    })

-- a search from i up to e: the numbers before k fail, so it goes on from k
pub first-skip : (e i k : ℕ) (p : ℕ → Bool) → i ≤ k → k ≤ e → ((j : ℕ) → i ≤ j → j < k → p j ≡ false)
    → first_from (e - i) i p ≡ first_from (e - k) k p
first-skip e i k p a b h =
    let f = first (e - k) k p in
    first-is (e - i) i p (first_from (e - k) k p) (record {
      low = omega arith;
      high = omega arith;
      before = λ j l m. ⊎_elim (λ q. h j l q) (λ q. f.before j q m) (lt-or-ge j k);
      found = λ l. f.found (omega arith);
    })

-- k passes, and none before it
pub first_found : (e i k : ℕ) (p : ℕ → Bool) → i ≤ k → k < e → ((j : ℕ) → i ≤ j → j < k → p j ≡ false) → p k ≡ true
    → first_from (e - i) i p ≡ k
first_found e i k p a b h t = first-is (e - i) i p k (record { low = a; high = omega arith; before = h; found = λ l. t })

-- one passes: it is found
pub first_any : (n : ℕ) (p : ℕ → Bool) → any n p ≡ true → first_from n 0 p < n
first_any n p e =
    let f = first n 0 p in
    let r = any_out n p (true-T {b = any n p} e) in
    ⊎_elim (λ l. l) (λ l. false-T (f.before r.0 (omega arith) (omega (arith, r.1))) r.2) (lt-or-ge (first_from n 0 p) n)
