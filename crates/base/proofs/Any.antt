-- A test of every number below n. Assumes nothing.
use Prim.Native.Nat.{ℕ, zero, suc, ◌+◌, ◌<◌}
use mathlib.Core.Path.{◌≡◌, refl, subst}
use mathlib.Core.Logic.{◌⊎◌, inl, inr}
use mathlib.Core.Bool.{Bool, true, false, ◌||◌}
use native.Mathlib.Numerals.{add-one}
use native.Mathlib.Omega.{arith}
use native.Mathlib.Decide.{ℕ_discrete}
use lib.Dec.{T}
use Rattle.base.proofs.Tests.{or_cases, or_left, or_right, T_true, true-T, false-T, not-T-false}
use Rattle.base.specs.Loops.{any}

pub any-in : (n : ℕ) (p : ℕ → Bool) (i : ℕ) → i < n → T (p i) → T (any n p)
unfolding any
any-in zero p i l t = absurd (omega arith)
any-in (suc n) p i l t = by (ℕ_discrete i n) (λ m. any-in n p i m t)
  where
    by : Dec (i ≡ n) → (i < n → T (any n p)) → T (p n || any n p)
    by (yes e) ih = or_left (p n) (any n p) (subst (λ (j : ℕ). T (p j)) e t)
    by (no e) ih = or_right (p n) (any n p) (ih (omega arith))

pub any_out : (n : ℕ) (p : ℕ → Bool) → T (any n p) → (i : ℕ) × (i < n) × T (p i)
unfolding any
any_out zero p t = absurd t
any_out (suc n) p t = by (or_cases (p n) (any n p) t) (λ q. any_out n p q)
  where
    by : T (p n) ⊎ T (any n p) → (T (any n p) → (i : ℕ) × (i < n) × T (p i)) → (i : ℕ) × (i < suc n) × T (p i)
    by (inl q) ih = (n, omega arith, q)
    by (inr q) ih = let r = ih q in (r.0, omega (arith, r.1), r.2)

pub any_none : {A : Type 0} (n : ℕ) (p : ℕ → Bool) → any n p ≡ false → (i : ℕ) → i < n → T (p i) → A
any_none n p e i l t = false-T e (any-in n p i l t)

pub none_any : (n : ℕ) (p : ℕ → Bool) → ((i : ℕ) → i < n → T (p i) → ⊥) → any n p ≡ false
none_any n p h = not-T-false (λ t. let r = any_out n p t in h r.0 r.1 r.2)

-- the steps of a loop that looks for one that passes: before the first, past one more, at one
pub any-start : (p : ℕ → Bool) → any 0 p ≡ false
unfolding any
any-start p = refl

pub any-more : (n : ℕ) (p : ℕ → Bool) → any n p ≡ false → p n ≡ false → any (n + 1) p ≡ false
unfolding any
any-more n p e f = rw (add-one, f, e)

pub any_here : (n i : ℕ) (p : ℕ → Bool) → i < n → p i ≡ true → any n p ≡ true
any_here n i p h t = T_true {b = any n p} (any-in n p i h (true-T {b = p i} t))

pub any_same : (n : ℕ) (p q : ℕ → Bool) → ((i : ℕ) → i < n → p i ≡ q i) → any n p ≡ any n q
unfolding any
any_same zero p q h = refl
any_same (suc n) p q h = rw (h n (omega arith), any_same n p q (λ i l. h i (omega arith)))
