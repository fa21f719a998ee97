-- The small functions of the calls, as facts: a value at one place, the pending set after a call, the links after a change, and rows of the
-- table that do not apply. Assumes nothing.
use Prim.Native.Nat.{ℕ, zero, suc}
use mathlib.Core.Path.{◌≡◌, refl, sym, ◌∙◌, ap, subst, fun_ext}
use mathlib.Core.Logic.{◌⊎◌, inl, inr, ◌≢◌}
use mathlib.Core.Option.{Option, none}
use mathlib.Core.Bool.{Bool, true, false, not, cond, ◌&&◌, ◌||◌}
use mathlib.Core.List.{List, [], ◌∷◌}
use native.Mathlib.Omega.{arith}
use native.Mathlib.Decide.{ℕ_discrete}
use lib.Dec.{T, eqb, eqb→eq}
use borrow.Author.Tests.{eq-eqb, ne_eqb}
use Rattle.graph.specs.Side.{Side, left, right}
use Rattle.graph.specs.Graph.{Links}
use Rattle.base.proofs.Cases.{and-true}
use Rattle.base.proofs.Tests.{dec-T, not-T-false, and_T, and-fst, and-snd, or_cases, or_left, or_right}
use Rattle.protocol.specs.Message.{Msg, among}
use Rattle.protocol.specs.Refusals.{order, Row, applies_in, first_of, first}
use Rattle.protocol.specs.Rules.{Change, keep, set}
use Rattle.protocol.specs.Page.{at, is_taken, pending_after}
use Rattle.protocol.specs.pages.Deliver.{same_side, applied}

-- a value at one place
module _ {A : Type 0} (s : ℕ) (a : A) (f : ℕ → A) where
  pub at_same : (x : ℕ) → x ≡ s → at s a f x ≡ a
  unfolding at
  at_same x e = rw (eq-eqb x s e)

  pub at_other : (x : ℕ) → x ≢ s → at s a f x ≡ f x
  unfolding at
  at_other x e = rw (ne_eqb x s e)

  pub at_all : (P : A → Type 0) → P a → ((x : ℕ) → P (f x)) → (x : ℕ) → P (at s a f x)
  at_all P p q x = by (ℕ_discrete x s)
    where
      by : Dec (x ≡ s) → P (at s a f x)
      by (yes e) = subst P (sym (at_same x e)) p
      by (no e) = subst P (sym (at_other x e)) (q x)

  -- a test that says the same of the new value as of the old one
  pub at-tested : (p : A → Bool) → p a ≡ p (f s) → (x : ℕ) → p (at s a f x) ≡ p (f x)
  at-tested p e x = by (ℕ_discrete x s)
    where
      by : Dec (x ≡ s) → p (at s a f x) ≡ p (f x)
      by (yes q) = ap p (at_same x q) ∙ e ∙ sym (ap (λ (y : ℕ). p (f y)) q)
      by (no q) = ap p (at_other x q)

  -- it was there already
  pub at_own : f s ≡ a → at s a f ≡ f
  at_own e = fun_ext (λ x. by x (ℕ_discrete x s))
    where
      by : (x : ℕ) → Dec (x ≡ s) → at s a f x ≡ f x
      by x (yes q) = at_same x q ∙ sym (ap f q ∙ e)
      by x (no q) = at_other x q

  -- the later of two counts
  pub at-twice : (b : A) → at s a (at s b f) ≡ at s a f
  unfolding at
  at-twice b = fun_ext (λ x. by (eqb x s) (f x))
    where
      by : (c : Bool) (z : A) → cond c a (cond c b z) ≡ cond c a z
      by true z = refl
      by false z = refl

-- nothing is sent and nothing taken away
pub after_nothing : (p : Msg → Bool) → pending_after [] none p ≡ p
unfolding pending_after among is_taken
after_nothing p = fun_ext (λ m. and-true (p m))

-- the pending set after a call
module _ (sent : List Msg) (taken : Option Msg) (p : Msg → Bool) (m : Msg) where
  pub after-came : T (among sent m) → T (pending_after sent taken p m)
  unfolding pending_after
  after-came t = or_left (among sent m) (p m && not (is_taken taken m)) t

  pub after_kept : T (p m) → T (is_taken taken m) ⊎ T (pending_after sent taken p m)
  unfolding pending_after
  after_kept t = by (is_taken taken m)
    where
      by : (b : Bool) → T b ⊎ T (among sent m || (p m && not b))
      by true = inl tt
      by false = inr (or_right (among sent m) (p m && true) (and_T (p m) true t tt))

  pub after-only : T (pending_after sent taken p m) → (T (p m) × (T (is_taken taken m) → ⊥)) ⊎ T (among sent m)
  unfolding pending_after
  after-only t = by (or_cases (among sent m) (p m && not (is_taken taken m)) t)
    where
      untaken : (b : Bool) → T (not b) → T b → ⊥
      untaken true f u = f
      untaken false f u = u

      by : T (among sent m) ⊎ T (p m && not (is_taken taken m)) → (T (p m) × (T (is_taken taken m) → ⊥)) ⊎ T (among sent m)
      by (inl u) = inr u
      by (inr u) = inl (and-fst (p m) (not (is_taken taken m)) u, untaken (is_taken taken m) (and-snd (p m) (not (is_taken taken m)) u))

-- sides as a test
pub same-side : (d e : Side) → T (same_side d e) → d ≡ e
same-side left left t = refl
same-side left right t = absurd t
same-side right left t = absurd t
same-side right right t = refl

pub side-self : (d : Side) → same_side d d ≡ true
side-self left = refl
side-self right = refl

-- the links after a change
pub applied-at : (t l : ℕ) (s : Side) (o : Option ℕ) (L : Links) → applied t (set l s o) L t l s ≡ o
unfolding applied
applied-at t l s o L = rw (eq-eqb t t refl, eq-eqb l l refl, side-self s)

pub applied-frame : (t : ℕ) (c : Change) (L : Links) (x k : ℕ) (d : Side)
    → (applied t c L x k d ≡ L x k d) ⊎ ((o : Option ℕ) × (x ≡ t) × (c ≡ set k d o))
unfolding applied
applied-frame t keep L x k d = inl refl
applied-frame t (set l s o) L x k d = by (dec-T (eqb x t && (eqb k l && same_side d s)))
  where
    by : Dec (T (eqb x t && (eqb k l && same_side d s)))
        → (cond (eqb x t && (eqb k l && same_side d s)) o (L x k d) ≡ L x k d) ⊎ ((w : Option ℕ) × (x ≡ t) × (set l s o ≡ set k d w))
    by (yes u) =
        let v = and-snd (eqb x t) (eqb k l && same_side d s) u in
        let e = eqb→eq k l (and-fst (eqb k l) (same_side d s) v) in
        let f = same-side d s (and-snd (eqb k l) (same_side d s) v) in
        inr (o, eqb→eq x t (and-fst (eqb x t) (eqb k l && same_side d s) u), λ i. set (sym e i) (sym f i) o)
    by (no n) = let f : (eqb x t && (eqb k l && same_side d s)) ≡ false = not-T-false n in inl (rw f)

-- n is in a list of refusals, and each of them is above 0
abbrev lists : List ℕ → ℕ → Bool
lists [] n = false
lists (m ∷ ms) n = eqb m n || lists ms n

abbrev positive : List ℕ → Bool
positive [] = true
positive (zero ∷ ms) = false
positive (suc m ∷ ms) = positive ms

none-applies : (ns : List ℕ) (rs : List Row) (n : ℕ) → T (positive ns) → T (lists ns n) → first_of ns rs ≡ 0 → applies_in rs n ≡ false
none-applies [] rs n p t e = absurd t
none-applies (zero ∷ ms) rs n p t e = absurd p
none-applies (suc m ∷ ms) rs n p t e = by (applies_in rs (suc m)) refl e (or_cases (eqb (suc m) n) (lists ms n) t) (λ u f. none-applies ms rs n p u f)
  where
    by : (b : Bool) → applies_in rs (suc m) ≡ b → cond b (suc m) (first_of ms rs) ≡ 0 → T (eqb (suc m) n) ⊎ T (lists ms n)
        → (T (lists ms n) → first_of ms rs ≡ 0 → applies_in rs n ≡ false) → applies_in rs n ≡ false
    by true f e u ih = absurd (omega arith)
    by false f e (inl u) ih = ap (applies_in rs) (sym (eqb→eq (suc m) n u)) ∙ f
    by false f e (inr u) ih = ih u e

-- an accepted call: no row of the table applies
pub no_row : (rs : List Row) (n : ℕ) → T (lists order n) → first rs ≡ 0 → applies_in rs n ≡ false
unfolding first
no_row rs n t e = none-applies order rs n tt t e
