-- Properties of the numbers below n: one number more, and the first that has the property. Assumes nothing.
use Prim.Native.Nat.{ℕ, zero, suc, ◌<◌}
use mathlib.Core.Path.{◌≡◌, sym, subst}
use mathlib.Core.Logic.{◌⊎◌, inl, inr}
use native.Mathlib.Omega.{arith}
use native.Mathlib.Decide.{ℕ_discrete}

-- what holds below n and at n holds below n + 1
pub below_suc : {n : ℕ} {A : ℕ → Type 0} → ((z : ℕ) → z < n → A z) → A n → (z : ℕ) → z < suc n → A z
below_suc {n} {A} f a z l = by (ℕ_discrete z n)
  where
    by : Dec (z ≡ n) → A z
    by (yes e) = subst A (sym e) a
    by (no e) = f z (omega arith)

-- the first number that has property A, which is below n
pub record First (A : ℕ → Type 0) (n : ℕ) : Type 0 where
  pub at : ℕ
  pub below : at < n
  pub holds : A at
  pub before : (i : ℕ) → i < at → A i → ⊥

pub first_below : (A : ℕ → Type 0) → ((i : ℕ) → Dec (A i)) → (n : ℕ) → First A n ⊎ ((i : ℕ) → i < n → A i → ⊥)
first_below A dec zero = inr (λ i l. absurd (omega arith))
first_below A dec (suc n) = by (first_below A dec n) (dec n)
  where
    by : First A n ⊎ ((i : ℕ) → i < n → A i → ⊥) → Dec (A n) → First A (suc n) ⊎ ((i : ℕ) → i < suc n → A i → ⊥)
    by (inl f) d = inl (record { at = f.at; below = omega (arith, f.below); holds = f.holds; before = f.before })
    by (inr f) (yes a) = inl (record { at = n; below = omega arith; holds = a; before = f })
    by (inr f) (no a) = inr (below_suc f a)
