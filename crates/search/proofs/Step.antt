-- One step of the walk by comparisons, as code makes it: what `step_at` of specs/ is in each case. Assumes nothing.
use Prim.Native.Nat.{ℕ, ◌≤◌, ◌<◌}
use mathlib.Core.Path.{◌≡◌, refl, sym, ap, ◌∙◌, subst}
use mathlib.Core.Logic.{◌⊎◌, inl, inr}
use mathlib.Core.Option.{Option, none, some}
use mathlib.Core.Bool.{Bool, true, false, cond}
use native.Mathlib.Omega.{arith}
use native.Mathlib.Decide.{ℕ_discrete, dec_lt}
use borrow.Author.Tests.{eq-eqb, ne_eqb}
use Rattle.graph.specs.Side.{Side, left, right, on_side}
use Rattle.graph.specs.Graph.{Links}
use Rattle.base.proofs.Tests.{T_true, not-T-false}
use Rattle.graph.specs.inner.Order.{Lt, to_l, to_r}
use Rattle.graph.proofs.Order.{lt-irr, lt-some, on-lt, lt-on, side-of}
use Rattle.search.specs.Walk.{Step, stop, move, drop, along, step_at}

-- number b lies on side d of number a
abbrev pub Beyond : Side → ℕ → ℕ → Type 0
Beyond = Lt (λ n. n)

-- number b is a or lies on side d of it
pub data Upto : Side → ℕ → ℕ → Type 0 where
  upto_l : {a b : ℕ} → b ≤ a → Upto left a b
  upto_r : {a b : ℕ} → a ≤ b → Upto right a b

pub upto-some : (a b : ℕ) → (d : Side) × Upto d a b
upto-some a b = by (dec_lt a b)
  where
    by : Dec (a < b) → (d : Side) × Upto d a b
    by (yes l) = (right, upto_r {a = a} {b = b} (omega arith))
    by (no l) = (left, upto_l {a = a} {b = b} (omega arith))

pub upto-or-beyond : (d : Side) (a b : ℕ) → Upto d a b ⊎ Beyond d b a
upto-or-beyond left a b = by (dec_lt a b)
  where
    by : Dec (a < b) → Upto left a b ⊎ Beyond left b a
    by (yes l) = inr (to_l l)
    by (no l) = inl (upto_l {a = a} {b = b} (omega arith))
upto-or-beyond right a b = by (dec_lt b a)
  where
    by : Dec (b < a) → Upto right a b ⊎ Beyond right b a
    by (yes l) = inr (to_r l)
    by (no l) = inl (upto_r {a = a} {b = b} (omega arith))

pub upto-not : {d : Side} {a b : ℕ} → Upto d a b → Beyond d b a → ⊥
upto-not (upto_l p) (to_l q) = omega arith
upto-not (upto_r p) (to_r q) = omega arith

-- b lies on one side only
pub upto-side : {d e : Side} {a b : ℕ} → Upto d a b → Beyond e a b → e ≡ d
upto-side (upto_l p) (to_l q) = refl
upto-side (upto_l p) (to_r q) = absurd (omega arith)
upto-side (upto_r p) (to_l q) = absurd (omega arith)
upto-side (upto_r p) (to_r q) = refl

cond_yes : {A : Type 0} (x y : A) (b : Bool) → b ≡ true → cond b x y ≡ x
cond_yes x y b e = rw e

cond_no : {A : Type 0} (x y : A) (b : Bool) → b ≡ false → cond b x y ≡ y
cond_no x y b e = rw e

-- what the walk does at lot s and level k: it is found, or x lies on side d, where the link leads up to x or beyond it, or there is none
pub data Stepped (number : ℕ → ℕ) (L : Links) (x s k : ℕ) : Step → Type 0 where
  is_found : number s ≡ x → Stepped number L x s k stop
  is_move : {d : Side} {y : ℕ} → Beyond d (number s) x → L s k d ≡ some y → Upto d (number y) x → Stepped number L x s k (move y)
  is_past : {d : Side} {y : ℕ} → Beyond d (number s) x → L s k d ≡ some y → Beyond d x (number y) → Stepped number L x s k drop
  is_last : {d : Side} → Beyond d (number s) x → L s k d ≡ none → Stepped number L x s k drop

module _ (number : ℕ → ℕ) (L : Links) (x s k : ℕ) where
  step-along : {d : Side} → Beyond d (number s) x → step_at number L x s k ≡ along number L x d (L s k d)
  unfolding step_at
  step-along {d} b = rw (ne_eqb (number s) x (λ e. lt-irr (rw e at b)), side-of (λ n. n) b)

  -- the test of `along`, up to x and beyond it
  along-move : (d : Side) (y : ℕ) → Upto d (number y) x → along number L x d (some y) ≡ move y
  unfolding along
  along-move d y u = cond_no drop (move y) (on_side d x (number y)) (not-T-false (λ v. upto-not u (on-lt (λ n. n) d x (number y) v)))

  along-drop : (d : Side) (y : ℕ) → Beyond d x (number y) → along number L x d (some y) ≡ drop
  unfolding along
  along-drop d y l = cond_yes drop (move y) (on_side d x (number y)) (T_true (lt-on (λ n. n) l))

  -- some step is made
  stepped : (t : Step) × Stepped number L x s k t
  stepped = by (ℕ_discrete (number s) x)
    where
      linked : {d : Side} {y : ℕ} → Beyond d (number s) x → L s k d ≡ some y → Upto d (number y) x ⊎ Beyond d x (number y)
          → (t : Step) × Stepped number L x s k t
      linked {y = y} b e (inl u) = (move y, is_move b e u)
      linked b e (inr l) = (drop, is_past b e l)

      on : (d : Side) → Beyond d (number s) x → (o : Option ℕ) → L s k d ≡ o → (t : Step) × Stepped number L x s k t
      on d b none e = (drop, is_last b e)
      on d b (some y) e = linked b e (upto-or-beyond d (number y) x)

      by : Dec (number s ≡ x) → (t : Step) × Stepped number L x s k t
      by (yes e) = (stop, is_found e)
      by (no n) = let (d, b) = lt-some (λ n. n) (number s) x n in on d b (L s k d) refl

module _ {number : ℕ → ℕ} {L : Links} {x s k : ℕ} where
  -- `step_at` makes that step
  pub stepped-at : {t : Step} → Stepped number L x s k t → step_at number L x s k ≡ t
  unfolding step_at along
  stepped-at (is_found e) = rw (eq-eqb (number s) x e)
  stepped-at (is_move {d} {y} b e u) = step-along number L x s k b ∙ ap (along number L x d) e ∙ along-move number L x s k d y u
  stepped-at (is_past {d} {y} b e l) = step-along number L x s k b ∙ ap (along number L x d) e ∙ along-drop number L x s k d y l
  stepped-at (is_last {d} b e) = step-along number L x s k b ∙ ap (along number L x d) e

  -- and no other
  pub at-stepped : {t : Step} → step_at number L x s k ≡ t → Stepped number L x s k t
  at-stepped e = let (t, r) = stepped number L x s k in subst (Stepped number L x s k) (sym (stepped-at r) ∙ e) r
