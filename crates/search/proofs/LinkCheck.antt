-- The check of the links passes exactly if Constraints 1 to 6 hold, with any number of components, so exactly where the check of specs/ does.
-- Assumes the laws of the lots, and links that lie on their side and share the level's bits, as soundness says.
use Prim.Native.Nat.{ℕ, zero, suc, ◌+◌, ◌≤◌, ◌<◌}
use mathlib.Core.Path.{◌≡◌, refl, subst}
use mathlib.Core.Logic.{◌↔◌}
use mathlib.Core.Option.{Option, none, some}
use mathlib.Core.Bool.{true}
use native.Mathlib.Omega.{arith}
use native.Mathlib.Decide.{dec_lt}
use lib.Dec.{T}
use Rattle.base.proofs.Tests.{T_true, true-T}
use Rattle.graph.specs.Side.{Side, left, right, opp}
use Rattle.graph.specs.Vector.{bit, shared}
use Rattle.graph.specs.Graph.{Lots, Links, Laws}
use Rattle.graph.specs.Constraints.{iterate, Agree, NoneBefore, Constraints}
use Rattle.graph.specs.inner.Order.{Lt}
use Rattle.graph.proofs.Order.{lt-on}
use Rattle.graph.proofs.Shared.{shared-refl, shared-sym, shared-trans, shared-bit, bit-shared}
use Rattle.graph.proofs.Walk.{Walk, here, there, walk-iterate, iterate-walk, walk-zero, walk-snoc, walk-rest, Sorted, walk-member}
use Rattle.graph.specs.Components.{by_links}
use Rattle.base.proofs.Cases.{same_test}
use Rattle.search.specs.Check.{check}
use Rattle.search.specs.inner.LinkCheck.{constraints_ok}
use Rattle.search.proofs.Check.{check-constraints}
use Rattle.search.proofs.Ahead.{FirstWith, found, nowhere, ahead-first}
use Rattle.search.proofs.LinkTests.{Backs, Aboves, tests-say}

-- the links of members lie on their side and share the level's bits
pub record Sided (W : ℕ) (G : Lots) (L : Links) : Type 0 where
  pub order : (x k y : ℕ) (d : Side) → T (G.member x) → k ≤ W → L x k d ≡ some y → Lt G.number d x y
  pub bits : (x k y : ℕ) (d : Side) → T (G.member x) → k ≤ W → L x k d ≡ some y → k ≤ shared W (G.vector x) (G.vector y)

-- a walk between members whose links have their links back, the other way
walk-back : {W : ℕ} {G : Lots} {L : Links} → Backs W G L → {k : ℕ} → k ≤ W → {d : Side} {j x z : ℕ} → T (G.member x)
    → Walk L k d j x z → Walk L k (opp d) j z x
walk-back b l m here = here
walk-back b {k} l {d} m (there {x = x} {y = y} e w) = walk-snoc (walk-back b l (b.within x k y d m l e) w) (b.back x k y d m l e)

backs-sorted : {W : ℕ} {G : Lots} {L : Links} → Sided W G L → Backs W G L → Sorted W G L
backs-sorted sided b = record {
  within = λ {x} {k} {y} {d} m l e. b.within x k y d m l e;
  order = λ {x} {k} {y} {d} m l e. sided.order x k y d m l e;
}

constraints-backs : {W : ℕ} {G : Lots} {L : Links} → Constraints W G L → Backs W G L
constraints-backs c = record { within = c.within; back = c.back }

module _ {W : ℕ} {G : Lots} {L : Links} (sided : Sided W G L) (backs : Backs W G L) {k : ℕ} (less : k < W) where
  low : k ≤ W
  low = omega arith

  agree-sym : (x y : ℕ) → Agree W G k x y → Agree W G k y x
  agree-sym x y a = rw (shared-sym W (G.vector y) (G.vector x)) a

  walk-bits : {d : Side} {j x z : ℕ} → T (G.member x) → Walk L k d j x z → k ≤ shared W (G.vector x) (G.vector z)
  walk-bits {x = x} m here = shared-refl W (G.vector x) low
  walk-bits {d} {z = z} m (there {x = x} {y = y} e w) =
      shared-trans W k (G.vector x) (G.vector y) (G.vector z) (sided.bits x k y d m low e) (walk-bits (backs.within x k y d m low e) w)

  -- a lot of the chain that has bit k as x agrees in one bit more
  walk-agree : {d : Side} {j x z : ℕ} → T (G.member x) → Walk L k d j x z → bit W k (G.vector x) ≡ bit W k (G.vector z) → Agree W G k x z
  walk-agree {x = x} {z = z} m w e = bit-shared W k (G.vector x) (G.vector z) (walk-bits m w) less e

  agree-bit : (x z : ℕ) → Agree W G k x z → bit W k (G.vector x) ≡ bit W k (G.vector z)
  agree-bit x z a = shared-bit W k (G.vector x) (G.vector z) a

  -- what is found is Constraint 5
  module _ {x : ℕ} (m : T (G.member x)) where
    found_first : {o : Option ℕ} → FirstWith W G L k (bit W k (G.vector x)) x o → (y j : ℕ) → Walk L k right (suc j) x y
        → Agree W G k x y → NoneBefore W G L k x right j → o ≡ some y
    found_first (nowhere f) y j w a before = absurd (f j y w (agree-bit x y a))
    found_first (found {y = z} {j = i} v q f) y j w a before = by (dec_lt i j) (dec_lt j i)
      where
        same : i ≡ j → z ≡ y
        same e = let (n, s, r) = walk-rest (omega arith) v w in
            walk-zero (subst (λ (h : ℕ). Walk L k right h z y) (omega (arith, s, e)) r)

        by : Dec (i < j) → Dec (j < i) → some z ≡ some y
        by (yes l) d = absurd (before i z l (walk-iterate v) (walk-agree m v q))
        by (no l) (yes h) = absurd (f j y h w (agree-bit x y a))
        by (no l) (no h) = let e = same (omega arith) in rw e

    found-last : {o : Option ℕ} → FirstWith W G L k (bit W k (G.vector x)) x o → ((j : ℕ) → NoneBefore W G L k x right j) → o ≡ none
    found-last (nowhere f) before = refl
    found-last (found {y = z} {j = i} v q f) before = absurd (before (suc i) i z (omega arith) (walk-iterate v) (walk-agree m v q))

    -- and Constraint 5 says that it is the link
    first_found : Constraints W G L → {o : Option ℕ} → FirstWith W G L k (bit W k (G.vector x)) x o → L x (suc k) right ≡ o
    first_found c (found {y = z} {j = i} v q f) = c.first x k z i right m less (walk-iterate v) (walk-agree m v q)
        (λ h u l e a. f h u l (iterate-walk (suc h) e) (agree-bit x u a))
    first_found c (nowhere f) = c.last x k right m less (λ j h u l e a. f h u (iterate-walk (suc h) e) (agree-bit x u a))

    -- a lot that is found is reached
    found-walk : {y : ℕ} {o : Option ℕ} → FirstWith W G L k (bit W k (G.vector x)) x o → o ≡ some y → (j : ℕ) × Walk L k right (suc j) x y
    found-walk (nowhere f) e = absurd (let z : ◌≡◌ {A = ℕ} 0 1 = cc in omega arith)
    found-walk {y} (found {y = z} {j = i} v q f) e = let s : z ≡ y = cc in (i, subst (λ (u : ℕ). Walk L k right (suc i) x u) s v)

  -- Constraint 6, from Constraint 5 and the links back
  module _ (ahead : (x : ℕ) → T (G.member x) → FirstWith W G L k (bit W k (G.vector x)) x (L x (suc k) right)) where
    first-left : (x y j : ℕ) → T (G.member x) → Walk L k left (suc j) x y → Agree W G k x y → NoneBefore W G L k x left j
        → L x (suc k) left ≡ some y
    first-left x y j m w a before = backs.back y (suc k) x right n less (found_first n (ahead y n) x j v (agree-sym x y a) none_between)
      where
        n : T (G.member y)
        n = walk-member (backs-sorted sided backs) low m w

        v : Walk L k right (suc j) y x
        v = walk-back backs low m w

        none_between : NoneBefore W G L k y right j
        none_between i z l e b = let r = iterate-walk (suc i) e in
            let (h, s, t) = walk-rest (omega arith) r v in
            by h s (walk-back backs low (walk-member (backs-sorted sided backs) low n r) t)
          where
            by : (h : ℕ) → suc i + h ≡ suc j → Walk L k left h x z → ⊥
            by zero s u = absurd (omega arith)
            by (suc h) s u = before h z (omega arith) (walk-iterate u)
                (shared-trans W (suc k) (G.vector x) (G.vector y) (G.vector z) a b)

    last-left : (x : ℕ) → T (G.member x) → ((j : ℕ) → NoneBefore W G L k x left j) → L x (suc k) left ≡ none
    last-left x m before = by (L x (suc k) left) refl
      where
        by : (o : Option ℕ) → L x (suc k) left ≡ o → o ≡ none
        by none e = refl
        by (some y) e =
            let n = backs.within x (suc k) y left m less e in
            let (j, w) = found-walk n (ahead y n) (backs.back x (suc k) y left m less e) in
            absurd (before (suc j) j y (omega arith) (walk-iterate (walk-back backs low n w)) (sided.bits x (suc k) y left m less e))

module _ {N W : ℕ} {G : Lots} {L : Links} (laws : Laws N G) (sided : Sided W G L) where
  module _ (backs : Backs W G L) (aboves : Aboves N W G L) where
    above-first : {k : ℕ} → k < W → (x : ℕ) → T (G.member x) → FirstWith W G L k (bit W k (G.vector x)) x (L x (suc k) right)
    above-first {k} l x m = rw (aboves x k m l) (ahead-first laws (backs-sorted sided backs) (omega arith) x m)

    first : (x k y j : ℕ) (d : Side) → T (G.member x) → k < W → iterate L k d (suc j) x ≡ some y → Agree W G k x y
        → NoneBefore W G L k x d j → L x (suc k) d ≡ some y
    first x k y j left m l e a before = first-left sided backs l (above-first l) x y j m (iterate-walk (suc j) e) a before
    first x k y j right m l e a before = found_first sided backs l m (above-first l x m) y j (iterate-walk (suc j) e) a before

    last : (x k : ℕ) (d : Side) → T (G.member x) → k < W → ((j : ℕ) → NoneBefore W G L k x d j) → L x (suc k) d ≡ none
    last x k left m l before = last-left sided backs l (above-first l) x m before
    last x k right m l before = found-last sided backs l m (above-first l x m) before

    tests-constraints : Constraints W G L
    tests-constraints = record {
      within = backs.within;
      order = λ x k y d m l e. lt-on G.number (sided.order x k y d m l e);
      back = backs.back;
      first = first;
      last = last;
    }

  constraints-aboves : Constraints W G L → Aboves N W G L
  constraints-aboves c x k m l = let b = constraints-backs c in
      first_found sided b l m c (ahead-first laws (backs-sorted sided b) (omega arith) x m)

  -- the check says yes exactly if Constraints 1 to 6 hold
  pub constraints-checked : (constraints_ok N W G L ≡ true) ↔ Constraints W G L
  constraints-checked = let (to, from) = tests-say N W G L laws.seat in (
    (λ e. let (b, a) = to (true-T e) in tests-constraints b a),
    (λ c. T_true (from (constraints-backs c, constraints-aboves c))),
  )

  -- so it says what the check of specs/ says, with the components of the links
  pub constraints-check : constraints_ok N W G L ≡ check N W (by_links N W G L) L
  constraints-check =
      let (to, from) = constraints-checked in
      let (constraints, checked) = check-constraints N W G L laws in
      same_test (constraints_ok N W G L) (check N W (by_links N W G L) L) (λ e. checked (to e)) (λ e. from (constraints e))
