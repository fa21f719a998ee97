-- The left steps after the walk: on ordered links the fuel of specs/ is enough for them, each lies left of the one before it, so none comes
-- twice, there are fewer than seated lots, none goes above x if the first does not, and they end at a staying lot or one without a left link.
-- Assumes ordered links.
use Prim.Native.Nat.{ℕ, zero, suc, ◌+◌, ◌≤◌, ◌<◌}
use mathlib.Core.Path.{◌≡◌, refl, ap, ◌∙◌}
use mathlib.Core.Logic.{◌⊎◌, inl, inr}
use mathlib.Core.Option.{Option, none, some}
use mathlib.Core.List.Memᴰ
use mathlib.Core.List.{List, [], ◌∷◌, ◌++◌, Memᴰ}
use mathlib.Core.Bool.{Bool, true, false, cond}
use native.Mathlib.Omega.{arith}
use lib.Dec.{T, leb, leb→le}
use lib.ListN.{length, length-append}
use borrow.Author.Tests.{le-leb}
use Rattle.base.specs.Loops.{count}
use Rattle.base.proofs.Tests.{T_true, true-T, and_T, and-fst, and-snd}
use Rattle.base.proofs.Cases.{true-or-false}
use Rattle.base.proofs.Count.{count-le}
use Rattle.graph.specs.Side.{left}
use Rattle.graph.specs.Graph.{Links}
use Rattle.graph.specs.inner.Order.{Lt, to_l}
use Rattle.search.specs.Walk.{last_of, path, to_staying, printable, left_steps, route, find}
use Rattle.search.specs.Right.{Once}
use Rattle.search.specs.inner.Ordered.{Ordered, rank}
use Rattle.search.specs.inner.Search.{Leftward, nowhere, arrives, passes}
use Rattle.search.proofs.Ordered.{rank_less, rank_most}
use Rattle.search.proofs.Step.{upto_l}
use Rattle.search.proofs.Hops.{Toward, stay, onward, toward-last, toward-at, toward-once, toward-rank}

-- a lot may be printed exactly if it stays and is not above x
module _ (staying : ℕ → Bool) (number : ℕ → ℕ) (x s : ℕ) where
  pub is-printable : staying s ≡ true → number s ≤ x → printable staying number x s ≡ true
  unfolding printable
  is-printable e l = T_true (and_T (staying s) (leb (number s) x) (true-T e) (true-T (le-leb (number s) x l)))

  pub printable-is : printable staying number x s ≡ true → (staying s ≡ true) × (number s ≤ x)
  unfolding printable
  printable-is e =
      (T_true (and-fst (staying s) (leb (number s) x) (true-T e)), leb→le (number s) x (and-snd (staying s) (leb (number s) x) (true-T e)))

-- steps to the left are those of specs/ with as much fuel
leftward-steps : {staying : ℕ → Bool} {L : Links} {o : Option ℕ} {p : List ℕ} → Leftward staying L o p → (f : ℕ) → length p ≤ f
    → to_staying staying L f o ≡ p
unfolding to_staying
leftward-steps nowhere zero l = refl
leftward-steps nowhere (suc f) l = refl
leftward-steps (arrives e) zero l = absurd (omega arith)
leftward-steps {staying} {L} (arrives {y} e) (suc f) l = ap (λ (b : Bool). y ∷ cond b [] (to_staying staying L f (L y 0 left))) e
leftward-steps (passes e r) zero l = absurd (omega arith)
leftward-steps {staying} {L} (passes {y} e r) (suc f) l =
    ap (λ (b : Bool). y ∷ cond b [] (to_staying staying L f (L y 0 left))) e ∙ ap (λ (q : List ℕ). y ∷ q) (leftward-steps r f (omega arith))

-- they end at a staying lot, or where there is no link
leftward-ends : {staying : ℕ → Bool} {L : Links} (s : ℕ) {o : Option ℕ} {p : List ℕ} → L s 0 left ≡ o → Leftward staying L o p
    → (staying (last_of s p) ≡ true) ⊎ (L (last_of s p) 0 left ≡ none)
leftward-ends s e nowhere = inr e
leftward-ends s e (arrives q) = inl q
leftward-ends s e (passes {y} q r) = leftward-ends y refl r

-- a left link of a seated lot
left-on : {N W : ℕ} {seated : ℕ → Bool} {number : ℕ → ℕ} {L : Links} → Ordered N W seated number L → {s y : ℕ} → T (seated s)
    → L s 0 left ≡ some y → T (seated y) × Lt number left s y
left-on o m e = (o.within m (omega arith) e, o.order m (omega arith) e)

-- of steps to the left the first is the largest
toward-most : {seated : ℕ → Bool} {number : ℕ → ℕ} {x y z : ℕ} {p : List ℕ} → Toward seated number x left y p → Memᴰ z (y ∷ p)
    → number z ≤ number y
toward-most {number = number} {x} {y} {z} {p} c i = by (Memᴰ.cases_cons i)
  where
    less : Lt number left y z → number z ≤ number y
    less (to_l l) = omega arith

    by : (z ≡ y) ⊎ Memᴰ z p → number z ≤ number y
    by (inl e) = rw e (omega arith)
    by (inr j) = less (toward-at c j).0

module _ {N W : ℕ} {seated : ℕ → Bool} {number : ℕ → ℕ} {L : Links} (o : Ordered N W seated number L) {staying : ℕ → Bool} where
  -- each left step lowers the rank on the left
  fueled-left : (f s : ℕ) (v : Option ℕ) → T (seated s) → L s 0 left ≡ v → rank N seated number left s ≤ f
      → Leftward staying L v (to_staying staying L f v)
  unfolding to_staying
  fueled-left zero s none m e r = nowhere
  fueled-left (suc f) s none m e r = nowhere
  fueled-left zero s (some y) m e r = let (n, a) = left-on o m e in absurd (omega (arith, rank_less o n a))
  fueled-left (suc f) s (some y) m e r =
      let (n, a) = left-on o m e in
      by (true-or-false (staying y)) (fueled-left f y (L y 0 left) n refl (omega (arith, rank_less o n a)))
    where
      by : (staying y ≡ true) ⊎ (staying y ≡ false) → Leftward staying L (L y 0 left) (to_staying staying L f (L y 0 left))
          → Leftward staying L (some y) (to_staying staying L (suc f) (some y))
      by (inl q) w = rw q (arrives q)
      by (inr q) w = rw q (passes q w)

  -- nothing lies left of the number 0, so these are steps toward it
  left-toward : (s : ℕ) {v : Option ℕ} {p : List ℕ} → T (seated s) → L s 0 left ≡ v → Leftward staying L v p → Toward seated number 0 left s p
  left-toward s m e nowhere = stay
  left-toward s m e (arrives {y} q) = let (n, a) = left-on o m e in onward n a (upto_l {a = number y} {b = 0} (omega arith)) stay
  left-toward s m e (passes {y} q r) =
      let (n, a) = left-on o m e in onward n a (upto_l {a = number y} {b = 0} (omega arith)) (left-toward y n refl r)

  -- so there are fewer than seated lots
  leftward-few : {s : ℕ} {p : List ℕ} → T (seated s) → Leftward staying L (L s 0 left) p → length p < count N seated
  leftward-few {s} m r = omega (arith, toward-rank o (left-toward s m refl r), rank_most o left s m)

  -- and where the first of them is not above x, none is
  leftward-below : {x s : ℕ} {v : Option ℕ} {p : List ℕ} {z : ℕ} → T (seated s) → ((y : ℕ) → L s 0 left ≡ some y → number y ≤ x)
      → L s 0 left ≡ v → Leftward staying L v p → Memᴰ z p → number z ≤ x
  leftward-below m under e nowhere i = absurd (Memᴰ.not-nil i)
  leftward-below m under e (arrives {y} q) i = let c : Toward seated number 0 left y [] = stay in omega (arith, toward-most c i, under y e)
  leftward-below m under e (passes {y} q r) i = omega (arith, toward-most (left-toward y (left-on o m e).0 refl r) i, under y e)

-- the left steps of specs/ from a seated lot e
module _ {N W : ℕ} {seated : ℕ → Bool} {number : ℕ → ℕ} {L : Links} (o : Ordered N W seated number L) (staying : ℕ → Bool) (x e : ℕ)
    (m : T (seated e)) where
  abbrev lefts : List ℕ
  lefts = left_steps staying number L x N e

  abbrev prints : Bool
  prints = printable staying number x e

  -- none where e may be printed, else those to the first staying lot
  pub stands : prints ≡ true → lefts ≡ []
  unfolding left_steps
  stands t = rw t

  pub goes_left : prints ≡ false → Leftward staying L (L e 0 left) lefts
  unfolding left_steps
  goes_left t = rw t (fueled-left o N e (L e 0 left) m refl (omega (arith, rank_most o left e m, count-le N seated)))

  pub left-steps : {p : List ℕ} → prints ≡ false → Leftward staying L (L e 0 left) p → lefts ≡ p
  unfolding left_steps
  left-steps t r = rw t (leftward-steps r N (omega (arith, leftward-few o m r, count-le N seated)))

  toward : Toward seated number 0 left e lefts
  toward = by (true-or-false prints)
    where
      by : (prints ≡ true) ⊎ (prints ≡ false) → Toward seated number 0 left e lefts
      by (inl t) = rw (stands t) stay
      by (inr t) = left-toward o e m refl (goes_left t)

  -- THE LEFT STEPS VISIT EACH LOT ONCE
  pub left-once : Once (e ∷ lefts)
  left-once = toward-once toward

  -- AND END: at a staying lot, or at one without a left link
  pub left-ends : let h = last_of e lefts in (staying h ≡ true) ⊎ (L h 0 left ≡ none)
  left-ends = by (true-or-false prints)
    where
      by : (prints ≡ true) ⊎ (prints ≡ false) → let h = last_of e lefts in (staying h ≡ true) ⊎ (L h 0 left ≡ none)
      by (inl t) = rw (stands t) (inl (printable-is staying number x e t).0)
      by (inr t) = leftward-ends e refl (goes_left t)

  -- NONE GOES ONTO A LOT ABOVE x, if the left link of e does not
  pub left_below : ((y : ℕ) → L e 0 left ≡ some y → number y ≤ x) → (z : ℕ) → Memᴰ z lefts → number z ≤ x
  left_below under z i = by (true-or-false prints)
    where
      by : (prints ≡ true) ⊎ (prints ≡ false) → number z ≤ x
      by (inl t) = absurd (Memᴰ.not-nil (rw (stands t) at i))
      by (inr t) = leftward-below o m under refl (goes_left t) i

  pub left-seated : T (seated (last_of e lefts))
  left-seated = toward-last m toward

  -- AT MOST THE SEATED LOTS LESS ONE
  pub left-few : length lefts < count N seated
  left-few = omega (arith, toward-rank o toward, rank_most o left e m)

-- the end of a path that goes on
last-append : (s : ℕ) (p q : List ℕ) → last_of s (p ++ q) ≡ last_of (last_of s p) q
last-append s [] q = refl
last-append s (y ∷ p) q = last-append y p q

-- what find answers, by the path of the walk and the left steps
module _ (staying : ℕ → Bool) (number : ℕ → ℕ) (L : Links) (x N W s : ℕ) {p q : List ℕ} where
  pub find-by : path number L x N W s ≡ p → left_steps staying number L x N (last_of s p) ≡ q → let h = last_of (last_of s p) q in
      find staying number L x N W s ≡ record { holder = cond (printable staying number x h) (some h) none; hops = length p + length q }
  unfolding find route
  find-by e f = rw (e, f, last-append s p q, length-append p q)
