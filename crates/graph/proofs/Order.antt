-- The order of lots along a side, as a relation that fixes the side: each law serves both sides. Assumes nothing.
use Prim.Native.Nat.{ℕ, ◌<◌}
use mathlib.Core.Path.{◌≡◌, refl, sym, subst}
use mathlib.Core.Logic.{◌⊎◌, inl, inr, ◌≢◌}
use native.Mathlib.Omega.{arith}
use native.Mathlib.Nat.{lt_trans as nat-lt-trans}
use native.Mathlib.Decide.{dec_lt}
use lib.Dec.{T, ltb→lt, lt→ltb}
use borrow.Author.Tests.{lt-ltb, le-ltb}
use Rattle.graph.specs.inner.Order.{Lt, to_l, to_r}
use Rattle.graph.specs.Side.{Side, left, right, opp, on_side, side_of}

pub opp-opp : (d : Side) → opp (opp d) ≡ d
opp-opp left = refl
opp-opp right = refl

pub side-or-opp : (d e : Side) → (d ≡ e) ⊎ (opp d ≡ e)
side-or-opp left left = inl refl
side-or-opp left right = inr refl
side-or-opp right left = inr refl
side-or-opp right right = inl refl

module _ {num : ℕ → ℕ} where
  pub lt_trans : {d : Side} {x y z : ℕ} → Lt num d x y → Lt num d y z → Lt num d x z
  lt_trans (to_l p) (to_l q) = to_l (nat-lt-trans q p)
  lt_trans (to_r p) (to_r q) = to_r (nat-lt-trans p q)

  pub lt-opp : {d : Side} {x y : ℕ} → Lt num d x y → Lt num (opp d) y x
  lt-opp (to_l p) = to_r p
  lt-opp (to_r p) = to_l p

  pub opp-lt : {d : Side} {x y : ℕ} → Lt num (opp d) x y → Lt num d y x
  opp-lt {d = left} (to_r p) = to_l p
  opp-lt {d = right} (to_l p) = to_r p

  pub lt-irr : {d : Side} {x : ℕ} → Lt num d x x → ⊥
  lt-irr (to_l p) = omega arith
  lt-irr (to_r p) = omega arith

  pub lt-asym : {d : Side} {x y : ℕ} → Lt num d x y → Lt num d y x → ⊥
  lt-asym p q = lt-irr (lt_trans p q)

  -- the side is known from the order
  pub lt-side : {d e : Side} {x y : ℕ} → Lt num d x y → Lt num e x y → d ≡ e
  lt-side (to_l p) (to_l q) = refl
  lt-side (to_l p) (to_r q) = absurd (omega arith)
  lt-side (to_r p) (to_l q) = absurd (omega arith)
  lt-side (to_r p) (to_r q) = refl

  pub lt-eq : {d : Side} {x y z : ℕ} → Lt num d x y → y ≡ z → Lt num d x z
  lt-eq {d} {x} l e = subst (λ (a : ℕ). Lt num d x a) e l

  pub lt-ne : {d : Side} {x y : ℕ} → Lt num d x y → x ≢ y
  lt-ne l e = lt-irr (lt-eq l (sym e))

  pub lt-ne' : {d : Side} {x y : ℕ} → Lt num d x y → y ≢ x
  lt-ne' l e = lt-irr (lt-eq l e)

  -- x lies before v, which is y or lies before it
  pub lt-then : {d : Side} {x v y : ℕ} → Lt num d x v → (v ≡ y) ⊎ Lt num d v y → Lt num d x y
  lt-then l (inl e) = lt-eq l e
  lt-then l (inr n) = lt_trans l n

-- lots with different numbers lie on some side of each other
pub lt-some : (num : ℕ → ℕ) (x y : ℕ) → num x ≢ num y → (d : Side) × Lt num d x y
lt-some num x y ne = by (dec_lt (num x) (num y))
  where
    by : Dec (num x < num y) → (d : Side) × Lt num d x y
    by (yes p) = (right, to_r p)
    by (no p) = (left, to_l {x = x} {y = y} (omega (arith, ne)))

-- seen along one side
pub lt-either : (num : ℕ → ℕ) (d : Side) (x y : ℕ) → num x ≢ num y → Lt num d x y ⊎ Lt num d y x
lt-either num d x y ne = by d (lt-some num x y ne)
  where
    by : (d : Side) → (e : Side) × Lt num e x y → Lt num d x y ⊎ Lt num d y x
    by left (left, l) = inl l
    by left (right, l) = inr (lt-opp l)
    by right (left, l) = inr (lt-opp l)
    by right (right, l) = inl l

-- the tests of specs/ say the same
module _ (num : ℕ → ℕ) where
  pub on-lt : (d : Side) (x y : ℕ) → T (on_side d (num x) (num y)) → Lt num d x y
  unfolding on_side
  on-lt left x y t = to_l (ltb→lt (num y) (num x) t)
  on-lt right x y t = to_r (ltb→lt (num x) (num y) t)

  pub lt-on : {d : Side} {x y : ℕ} → Lt num d x y → T (on_side d (num x) (num y))
  unfolding on_side
  lt-on {x = x} {y = y} (to_l p) = lt→ltb (num y) (num x) p
  lt-on {x = x} {y = y} (to_r p) = lt→ltb (num x) (num y) p

  pub side-of : {d : Side} {x y : ℕ} → Lt num d x y → side_of (num x) (num y) ≡ d
  unfolding side_of
  side-of {x = x} {y = y} (to_l p) = rw (le-ltb (num x) (num y) (omega arith))
  side-of {x = x} {y = y} (to_r p) = rw (lt-ltb (num x) (num y) p)
