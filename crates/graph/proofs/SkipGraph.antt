-- The theorem on skip graphs: Constraints 1 to 6 and one level-0 list for each component hold exactly if every link
-- is its link in the graph. Assumes the laws of the lots.
use Prim.Native.Nat.{ℕ, zero, suc, ◌≤◌, ◌<◌}
use mathlib.Core.Path.{◌≡◌, refl, sym, ◌∙◌, subst}
use mathlib.Core.Logic.{◌↔◌, ◌⊎◌, inl, inr}
use mathlib.Core.Option.{Option, none, some}
use native.Mathlib.Omega.{arith}
use native.Mathlib.Decide.{dec_lt}
use lib.Dec.{T}
use Rattle.graph.specs.Side.{Side, left, right, opp}
use Rattle.graph.specs.Graph.{Lots, Links, IsGraph, Laws}
use Rattle.graph.specs.Constraints.{iterate, Agree, NoneBefore, Constraints, OneList}
use Rattle.base.proofs.Tests.{none-some}
use Rattle.graph.specs.inner.Order.{Lt}
use Rattle.graph.proofs.Order.{lt-opp, opp-lt, lt-asym, lt-side, lt-ne, lt-on}
use Rattle.graph.proofs.Laws.{member-compare}
use Rattle.graph.proofs.Neighbour.{InList, list-refl, list-sym, list-trans, list-lower, Nearest, nobody, nearest, graph-nearest, nearest-graph}
use Rattle.graph.proofs.Neighbour.{nobody_there, nearest-list, nearest-side, nearest-first, nearest-unique}
use Rattle.graph.proofs.Walk.{Walk, here, there, walk-iterate, iterate-walk, walk-zero, walk-rest}
use Rattle.graph.proofs.Walk.{Sorted, constraints-sorted, distance, distance-less, walk-order, walk-beyond}
use Rattle.graph.proofs.Levels.{walk_up, link-bits, link-ground}

-- from the constraints to the graph
module _ {W : ℕ} {G : Lots} {L : Links} (c : Constraints W G L) (one : OneList W G L) where
  -- every lot of the list on side d is reached by links
  reach : (k : ℕ) {x z : ℕ} {d : Side} → T (G.member x) → k ≤ W → InList W G k x z → Lt G.number d x z
      → (j : ℕ) × Walk L k d (suc j) x z
  reach zero {x} {z} {d} m l p s = by (one.joined x z m p.member p.same)
    where
      go : (e : Side) (j : ℕ) → Walk L 0 e j x z → (j : ℕ) × Walk L 0 d (suc j) x z
      go e zero w = absurd (lt-ne s (walk-zero w))
      go e (suc j) w = (j, subst (λ (a : Side). Walk L 0 a (suc j) x z) (lt-side (walk-order (constraints-sorted c) l m w) s) w)

      by : (e : Side) × (j : ℕ) × (iterate L 0 e j x ≡ some z) → (j : ℕ) × Walk L 0 d (suc j) x z
      by (e, j, q) = go e j (iterate-walk j q)
  reach (suc k) m l p s = walk_up c m l (reach k m (omega arith) (list-lower p) s).1 p.bits

  link-list : {x k y : ℕ} {d : Side} → T (G.member x) → k ≤ W → L x k d ≡ some y → InList W G k x y
  link-list {x} {k} {y} {d} m l e = let r = link-ground c k m l e in
      record { member = c.within x k y d m l e; same = one.apart x y r.0 d m (walk-iterate r.1); bits = link-bits c k m l e }

  pub constraints-nearest : (x k : ℕ) (d : Side) → T (G.member x) → k ≤ W → Nearest W G k x d (L x k d)
  constraints-nearest x k d m l = by (L x k d) refl
    where
      sorted : Sorted W G L
      sorted = constraints-sorted c

      no_step : {j z : ℕ} → L x k d ≡ none → Walk L k d (suc j) x z → ⊥
      no_step e (there f w) = none-some e f

      by : (o : Option ℕ) → L x k d ≡ o → Nearest W G k x d o
      by none e = nobody (λ z p s. no_step e (reach k m l p s).1)
      by (some y) e = nearest (link-list m l e) (sorted.order m l e) (λ z p s.
          let w = walk-rest (omega arith) (there e here) (reach k m l p s).1 in
          walk-beyond sorted l (sorted.within m l e) w.2)

-- from the graph to the constraints
module _ {N W : ℕ} {G : Lots} {L : Links} (laws : Laws N G) (g : IsGraph N W G L) where
  pub link-nearest : {x k : ℕ} {d : Side} {o : Option ℕ} → T (G.member x) → k ≤ W → L x k d ≡ o → Nearest W G k x d o
  link-nearest {x} {k} {d} m l e = subst (Nearest W G k x d) (sym (g.link x k d m l) ∙ e) (graph-nearest laws x k d)

  pub nearest-link : {x k : ℕ} {d : Side} {o : Option ℕ} → T (G.member x) → k ≤ W → Nearest W G k x d o → L x k d ≡ o
  nearest-link m l n = nearest-unique (link-nearest m l refl) n

  graph-sorted : Sorted W G L
  graph-sorted = record { within = λ m l e. (nearest-list (link-nearest m l e)).member; order = λ m l e. nearest-side (link-nearest m l e) }

  reached : (n : ℕ) {x k z : ℕ} {d : Side} → distance (G.number x) (G.number z) < n → T (G.member x) → k ≤ W
      → InList W G k x z → Lt G.number d x z → (j : ℕ) × Walk L k d (suc j) x z
  reached zero b m l p s = absurd (omega arith)
  reached (suc n) {x} {k} {z} {d} b m l p s = by (L x k d) refl (λ y e t.
      let f = link-nearest m l e in
      let q = nearest-list f in
      reached n (omega (arith, distance-less (nearest-side f) (inr t))) q.member l (list-trans (list-sym m q) p) t)
    where
      by : (o : Option ℕ) → L x k d ≡ o → ((y : ℕ) → L x k d ≡ some y → Lt G.number d y z → (j : ℕ) × Walk L k d (suc j) y z)
          → (j : ℕ) × Walk L k d (suc j) x z
      by none e ih = absurd (nobody_there (link-nearest m l e) z p s)
      by (some y) e ih = go (nearest-first (link-nearest m l e) z p s)
        where
          go : (z ≡ y) ⊎ Lt G.number d y z → (j : ℕ) × Walk L k d (suc j) x z
          go (inl r) = (0, subst (Walk L k d 1 x) (sym r) (there e here))
          go (inr t) = let w = ih y e t in (suc w.0, there e w.1)

  -- every lot of the list on side d is reached by links
  pub reach-graph : {x k z : ℕ} {d : Side} → T (G.member x) → k ≤ W → InList W G k x z → Lt G.number d x z
      → (j : ℕ) × Walk L k d (suc j) x z
  reach-graph {x} {z = z} m l p s = reached (suc (distance (G.number x) (G.number z))) (omega arith) m l p s

  -- and only those are
  pub walk-list : {k : ℕ} {d : Side} {j x z : ℕ} → T (G.member x) → k ≤ W → Walk L k d j x z → InList W G k x z
  walk-list m l here = list-refl m l
  walk-list m l (there e w) = let q = nearest-list (link-nearest m l e) in list-trans q (walk-list q.member l w)

  back : (x k y : ℕ) (d : Side) → T (G.member x) → k ≤ W → L x k d ≡ some y → L y k (opp d) ≡ some x
  back x k y d m l e = nearest-link q.member l (nearest (list-sym m q) (lt-opp (nearest-side f)) (λ z p s.
      by p s (member-compare laws (opp d) z x p.member m)))
    where
      f : Nearest W G k x d (some y)
      f = link-nearest m l e

      q : InList W G k x y
      q = nearest-list f

      -- nobody of the list lies between x and y
      between : {z : ℕ} → Lt G.number d z y → (z ≡ y) ⊎ Lt G.number d y z → ⊥
      between s (inl r) = lt-ne s r
      between s (inr t) = lt-asym s t

      by : {z : ℕ} → InList W G k y z → Lt G.number (opp d) y z → (z ≡ x) ⊎ (Lt G.number (opp d) z x ⊎ Lt G.number (opp d) x z)
          → (z ≡ x) ⊎ Lt G.number (opp d) x z
      by p s (inl r) = inl r
      by {z} p s (inr (inl t)) = absurd (between (opp-lt s) (nearest-first f z (list-trans q p) (opp-lt t)))
      by p s (inr (inr t)) = inr t

  first : (x k y j : ℕ) (d : Side) → T (G.member x) → k < W → iterate L k d (suc j) x ≡ some y
      → Agree W G k x y → NoneBefore W G L k x d j → L x (suc k) d ≡ some y
  first x k y j d m l e a before = nearest-link m l (nearest list (walk-order graph-sorted low m w) (λ z p s.
      let v = reach-graph m low (list-lower p) s in by p v.0 v.1 (dec_lt v.0 j)))
    where
      low : k ≤ W
      low = omega arith

      w : Walk L k d (suc j) x y
      w = iterate-walk (suc j) e

      list : InList W G (suc k) x y
      list = let q = walk-list m low w in record { member = q.member; same = q.same; bits = a }

      by : {z : ℕ} → InList W G (suc k) x z → (i : ℕ) → Walk L k d (suc i) x z → Dec (i < j) → (z ≡ y) ⊎ Lt G.number d y z
      by {z} p i v (yes b) = absurd (before i z b (walk-iterate v) p.bits)
      by p i v (no b) = walk-beyond graph-sorted low list.member (walk-rest (omega arith) w v).2

  last : (x k : ℕ) (d : Side) → T (G.member x) → k < W → ((j : ℕ) → NoneBefore W G L k x d j) → L x (suc k) d ≡ none
  last x k d m l before = nearest-link m l (nobody (λ z p s.
      let v = reach-graph {k = k} m (omega arith) (list-lower p) s in
      before (suc v.0) v.0 z (omega arith) (walk-iterate v.1) p.bits))

  pub graph-constraints : Constraints W G L
  graph-constraints = record {
    within = λ x k y d m l e. graph-sorted.within m l e;
    order = λ x k y d m l e. lt-on G.number (graph-sorted.order m l e);
    back = back;
    first = first;
    last = last;
  }

  pub graph-one-list : OneList W G L
  graph-one-list = record {
    joined = λ x y mx my e. by x y mx my e (member-compare laws right x y mx my);
    apart = λ x y j d m e. (walk-list m (omega arith) (iterate-walk {k = 0} j e)).same;
  }
    where
      go : (x y : ℕ) (d : Side) → T (G.member x) → T (G.member y) → G.component x ≡ G.component y → Lt G.number d x y
          → (d : Side) × (j : ℕ) × (iterate L 0 d j x ≡ some y)
      go x y d mx my e s = let w = reach-graph {k = 0} mx (omega arith) (record { member = my; same = e; bits = omega arith }) s in
          (d, suc w.0, walk-iterate w.1)

      by : (x y : ℕ) → T (G.member x) → T (G.member y) → G.component x ≡ G.component y
          → (x ≡ y) ⊎ (Lt G.number right x y ⊎ Lt G.number right y x) → (d : Side) × (j : ℕ) × (iterate L 0 d j x ≡ some y)
      by x y mx my e (inl q) = (right, 0, walk-iterate (subst (Walk L 0 right 0 x) q here))
      by x y mx my e (inr (inl s)) = go x y right mx my e s
      by x y mx my e (inr (inr s)) = go x y left mx my e (lt-opp s)

-- Constraints 1 to 6 and one level-0 list for each component, exactly if the links are the graph's
pub skip-graph : {N W : ℕ} {G : Lots} {L : Links} → Laws N G → (Constraints W G L × OneList W G L) ↔ IsGraph N W G L
skip-graph laws = (
  (λ p. record { link = λ x k d m l. nearest-graph laws (constraints-nearest p.0 p.1 x k d m l) }),
  (λ g. (graph-constraints laws g, graph-one-list laws g)),
)
