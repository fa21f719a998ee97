-- A test of every number below n: the steps of a loop, what it says of each number, and ranges joined and nested. Assumes nothing.
use Prim.Native.Nat.{ℕ, zero, suc, ◌+◌, ◌-◌, ◌*◌, ◌≤◌, ◌<◌}
use mathlib.Core.Path.{◌≡◌, refl, sym, ap, ◌∙◌}
use mathlib.Core.Logic.{⊎_elim}
use mathlib.Core.Bool.{Bool, true, false, ◌&&◌}
use native.Mathlib.Omega.{arith}
use native.Mathlib.Nat.{add-zero, add-suc, suc-mul, zero-mul}
use native.Mathlib.Numerals.{add-one}
use Rattle.base.specs.Loops.{all}
use Rattle.base.proofs.Cases.{eq-or-ne, and-true, and_assoc, and_left, and_right, and-false}

pub all_none : (p : ℕ → Bool) → all 0 p ≡ true
unfolding all
all_none p = refl

pub all_more : (n : ℕ) (p : ℕ → Bool) → all n p ≡ true → p n ≡ true → all (n + 1) p ≡ true
unfolding all
all_more n p e f = rw (add-one, e, f)

-- each passes
pub all-at : (n i : ℕ) (p : ℕ → Bool) → all n p ≡ true → i < n → p i ≡ true
unfolding all
all-at zero i p e h = absurd (omega arith)
all-at (suc n) i p e h =
    ⊎_elim (λ q. rw q (and_right (all n p) (p n) e)) (λ ne. all-at n i p (and_left (all n p) (p n) e) (omega (arith, ne))) (eq-or-ne i n)

pub all_from : (n : ℕ) (p : ℕ → Bool) → ((i : ℕ) → i < n → p i ≡ true) → all n p ≡ true
unfolding all
all_from zero p h = refl
all_from (suc n) p h = rw (all_from n p (λ i q. h i (omega arith)), h n (omega arith))

-- one fails
pub all-fails : (n i : ℕ) (p : ℕ → Bool) → i < n → p i ≡ false → all n p ≡ false
unfolding all
all-fails zero i p h f = absurd (omega arith)
all-fails (suc n) i p h f =
    ⊎_elim (λ e. and-false (all n p) (p n) (rw (← e) f)) (λ ne. rw (all-fails n i p (omega (arith, ne)) f)) (eq-or-ne i n)

pub all_same : (n : ℕ) (p q : ℕ → Bool) → ((i : ℕ) → i < n → p i ≡ q i) → all n p ≡ all n q
unfolding all
all_same zero p q h = refl
all_same (suc n) p q h = rw (all_same n p q (λ i l. h i (omega arith)), h n (omega arith))

-- two tests at once
pub all-and : (n : ℕ) (p q : ℕ → Bool) → all n (λ i. p i && q i) ≡ all n p && all n q
unfolding all
all-and zero p q = refl
all-and (suc n) p q = rw (all-and n p q) (by (all n p) (all n q) (p n) (q n))
  where
    by : (a b c d : Bool) → (a && b) && (c && d) ≡ (a && c) && (b && d)
    by false b c d = refl
    by true true c d = refl
    by true false true d = refl
    by true false false d = refl

-- a range of m and one of n after it
pub all_append : (m n : ℕ) (p : ℕ → Bool) → all (m + n) p ≡ all m p && all n (λ j. p (m + j))
unfolding all
all_append m zero p = rw (add-zero, and-true)
all_append m (suc n) p = rw (add-suc, all_append m n p) (and_assoc (all m p) (all n (λ j. p (m + j))) (p (m + n)))

-- m ranges of n each
pub all-product : (m n : ℕ) (p : ℕ → Bool) → all (m * n) p ≡ all m (λ i. all n (λ j. p (i * n + j)))
unfolding all
all-product zero n p = rw zero-mul
all-product (suc m) n p = rw (suc-mul, all_append, all-product m n p)

-- where all from m on pass, the first m decide
pub all-above : (n m : ℕ) (p : ℕ → Bool) → m ≤ n → ((i : ℕ) → i < n → m ≤ i → p i ≡ true) → all m p ≡ all n p
all-above n m p h a =
    let e : m + (n - m) ≡ n = omega arith in
    sym (ap (λ (k : ℕ). all k p) (sym e) ∙ all_append m (n - m) p
    ∙ ap (λ b. all m p && b) (all_from (n - m) (λ j. p (m + j)) (λ j q. a (m + j) (omega arith) (omega arith)))
    ∙ and-true (all m p))
