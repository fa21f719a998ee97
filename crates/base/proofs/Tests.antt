-- Facts about Boolean tests and optional seats. Assumes nothing.
use Prim.Native.Nat.{ℕ}
use mathlib.Core.Path.{◌≡◌, refl, ap}
use mathlib.Core.Logic.{◌⊎◌, inl, inr}
use mathlib.Core.Option.{Option, none, some}
use mathlib.Core.Bool.{Bool, true, false, ◌&&◌, ◌||◌}
use native.Mathlib.Omega.{arith}
use native.Mathlib.Decide.{ℕ_discrete}
use lib.Dec.{T}

pub dec-T : (b : Bool) → Dec (T b)
dec-T true = yes tt
dec-T false = no (λ f. f)

pub T_true : {b : Bool} → T b → b ≡ true
T_true {b = true} t = refl
T_true {b = false} t = absurd t

pub true-T : {b : Bool} → b ≡ true → T b
true-T e = rw e tt

pub not-T-false : {b : Bool} → ¬ (T b) → b ≡ false
not-T-false {b = true} f = absurd (f tt)
not-T-false {b = false} f = refl

pub false-T : {A : Type 0} {b : Bool} → b ≡ false → T b → A
false-T e t = absurd (rw e at t)

pub true-false : {A : Type 0} {b : Bool} → b ≡ true → b ≡ false → A
true-false p q = absurd (let z : ◌≡◌ {A = ℕ} 0 1 = cc in omega arith)

pub and_T : (a b : Bool) → T a → T b → T (a && b)
and_T true b p q = q
and_T false b p q = absurd p

pub and-fst : (a b : Bool) → T (a && b) → T a
and-fst true b p = tt
and-fst false b p = p

pub and-snd : (a b : Bool) → T (a && b) → T b
and-snd true b p = p
and-snd false b p = absurd p

pub or_cases : (a b : Bool) → T (a || b) → T a ⊎ T b
or_cases true b t = inl tt
or_cases false b t = inr t

pub or_left : (a b : Bool) → T a → T (a || b)
or_left true b t = tt
or_left false b t = absurd t

pub or_right : (a b : Bool) → T b → T (a || b)
or_right true b t = tt
or_right false b t = t

pub some_inj : {x y : ℕ} → some x ≡ some y → x ≡ y
some_inj e = cc

pub none-some : {A : Type 0} {o : Option ℕ} {x : ℕ} → o ≡ none → o ≡ some x → A
none-some p q = absurd (let z : ◌≡◌ {A = ℕ} 0 1 = cc in omega arith)

pub dec_some : (o : Option ℕ) (y : ℕ) → Dec (o ≡ some y)
dec_some none y = no (λ e. none-some refl e)
dec_some (some x) y = by (ℕ_discrete x y)
  where
    by : Dec (x ≡ y) → Dec (some x ≡ some y)
    by (yes e) = yes (ap some e)
    by (no n) = no (λ e. n (some_inj e))
