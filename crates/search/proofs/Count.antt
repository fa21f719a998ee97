-- Tests of the numbers below n: that every one passes, and how many do. Assumes nothing.
use Prim.Native.Nat.{ℕ, zero, suc, ◌+◌, ◌≤◌, ◌<◌}
use mathlib.Core.Path.{◌≡◌, subst}
use mathlib.Core.Bool.{Bool, true, false, not, ◌||◌}
use native.Mathlib.Omega.{arith}
use native.Mathlib.Decide.{ℕ_discrete}
use lib.Dec.{T}
use Rattle.base.proofs.Tests.{T_true, not-T-false, and_T, and-fst, and-snd}
use Rattle.graph.proofs.Below.{below_suc}
use Rattle.base.specs.Loops.{one_if, all, count}

-- a test that is made where another passes
pub when-T : (a b : Bool) → (T a → T b) → T (not a || b)
when-T true b f = f tt
when-T false b f = tt

pub T-when : (a b : Bool) → T (not a || b) → T a → T b
T-when true b t u = t
T-when false b t u = absurd u

pub all-passes : (n : ℕ) (p : ℕ → Bool) (i : ℕ) → i < n → T (all n p) → T (p i)
unfolding all
all-passes zero p i l t = absurd (omega arith)
all-passes (suc n) p i l t =
    below_suc {A = λ j. T (p j)} (λ j m. all-passes n p j m (and-fst (all n p) (p n) t)) (and-snd (all n p) (p n) t) i l

pub passes-all : (n : ℕ) (p : ℕ → Bool) → ((i : ℕ) → i < n → T (p i)) → T (all n p)
unfolding all
passes-all zero p h = tt
passes-all (suc n) p h = and_T (all n p) (p n) (passes-all n p (λ i l. h i (omega arith))) (h n (omega arith))

one-le : (a b : Bool) → (T a → T b) → one_if a ≤ one_if b
one-le true true f = omega arith
one-le true false f = absurd (f tt)
one-le false b f = omega arith

pub count-mono : (n : ℕ) (p q : ℕ → Bool) → ((i : ℕ) → T (p i) → T (q i)) → count n p ≤ count n q
unfolding count
count-mono zero p q h = omega arith
count-mono (suc n) p q h = omega (arith, count-mono n p q h, one-le (p n) (q n) (h n))

-- number j passes only q
pub count_less : (n : ℕ) (p q : ℕ → Bool) (j : ℕ) → j < n → T (q j) → ¬ (T (p j)) → ((i : ℕ) → T (p i) → T (q i))
    → count n p < count n q
unfolding count
count_less zero p q j l t f h = absurd (omega arith)
count_less (suc n) p q j l t f h = by (ℕ_discrete j n) (λ m. count_less n p q j m t f h)
  where
    by : Dec (j ≡ n) → (j < n → count n p < count n q) → count n p + one_if (p n) < count n q + one_if (q n)
    by (yes e) ih =
        let a : q n ≡ true = T_true (subst (λ (i : ℕ). T (q i)) e t) in
        let b : p n ≡ false = not-T-false (subst (λ (i : ℕ). ¬ (T (p i))) e f) in
        rw (a, b) (omega (arith, count-mono n p q h))
    by (no e) ih = omega (arith, ih (omega arith), one-le (p n) (q n) (h n))
