-- How many numbers below n pass: the steps of a loop that counts, ranges joined, and a count of 0. Assumes nothing.
use Prim.Native.Nat.{ℕ, zero, suc, ◌+◌, ◌≤◌, ◌<◌}
use mathlib.Core.Path.{◌≡◌, refl}
use mathlib.Core.Logic.{◌↔◌, ⊎_elim}
use mathlib.Core.Bool.{Bool, true, false}
use native.Mathlib.Omega.{arith}
use native.Mathlib.Nat.{add-zero, add-suc, add_assoc}
use native.Mathlib.Numerals.{add-one}
use lib.Dec.{eqb}
use Rattle.base.specs.Loops.{one_if, count}
use Rattle.base.proofs.Cases.{eq-or-ne}

pub one_if-le : (b : Bool) → one_if b ≤ 1
one_if-le true = omega arith
one_if-le false = omega arith

pub one_if-zero : (b : Bool) → (one_if b ≡ 0) ↔ (b ≡ false)
one_if-zero true = (λ e. absurd (omega arith), λ e. cc)
one_if-zero false = (λ e. refl, λ e. refl)

-- a number below 2 is 1 exactly if the test for 1 passes
pub one-if : (r : ℕ) → r < 2 → r ≡ one_if (eqb r 1)
one-if zero h = refl
one-if (suc zero) h = refl
one-if (suc (suc r)) h = absurd (omega arith)

pub count_none : (p : ℕ → Bool) → count 0 p ≡ 0
unfolding count
count_none p = refl

pub count-more : (n : ℕ) (p : ℕ → Bool) → count (n + 1) p ≡ count n p + one_if (p n)
unfolding count
count-more n p = rw add-one

pub count-le : (n : ℕ) (p : ℕ → Bool) → count n p ≤ n
unfolding count
count-le zero p = omega arith
count-le (suc n) p = omega (arith, count-le n p, one_if-le (p n))

pub count_same : (n : ℕ) (p q : ℕ → Bool) → ((i : ℕ) → i < n → p i ≡ q i) → count n p ≡ count n q
unfolding count
count_same zero p q h = refl
count_same (suc n) p q h = rw (count_same n p q (λ i l. h i (omega arith)), h n (omega arith))

-- a range of m and one of n after it
pub count-append : (m n : ℕ) (p : ℕ → Bool) → count (m + n) p ≡ count m p + count n (λ j. p (m + j))
unfolding count
count-append m zero p = rw (add-zero m, add-zero (count m p))
count-append m (suc n) p = rw (add-suc, count-append m n p) (add_assoc (count m p) (count n (λ j. p (m + j))) (one_if (p (m + n))))

zero-fails : (n i : ℕ) (p : ℕ → Bool) → count n p ≡ 0 → i < n → p i ≡ false
unfolding count
zero-fails zero i p e l = absurd (omega arith)
zero-fails (suc n) i p e l = ⊎_elim
    (λ q. rw q ((one_if-zero (p n)).0 (omega arith)))
    (λ ne. zero-fails n i p (omega arith) (omega (arith, ne)))
    (eq-or-ne i n)

fails-zero : (n : ℕ) (p : ℕ → Bool) → ((i : ℕ) → i < n → p i ≡ false) → count n p ≡ 0
unfolding count
fails-zero zero p h = refl
fails-zero (suc n) p h = rw (fails-zero n p (λ i l. h i (omega arith)), h n (omega arith))

-- the count is 0 exactly if none passes
pub count-zero : (n : ℕ) (p : ℕ → Bool) → (count n p ≡ 0) ↔ ((i : ℕ) → i < n → p i ≡ false)
count-zero n p = (λ e i l. zero-fails n i p e l, fails-zero n p)
