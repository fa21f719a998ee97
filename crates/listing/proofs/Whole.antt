-- The lists of a level are document 01's (`lists-whole`). Assumes the laws of the lots.
use Prim.Native.Nat.{ℕ, zero, suc, ◌≤◌, ◌<◌}
use mathlib.Core.Path.{◌≡◌, refl, ap}
use mathlib.Core.Logic.{◌≢◌, ◌⊎◌, inl, inr}
use mathlib.Core.Option.{Option, none, some}
use native.Mathlib.Omega.{arith}
use lib.Dec.{T}
use Rattle.base.proofs.Cases.{lt-or-ge}
use Rattle.base.proofs.Tests.{true-T, and_T}
use Rattle.base.proofs.Count.{count-le}
use Rattle.graph.specs.Side.{left, right}
use Rattle.graph.specs.Graph.{Lots, Links, Laws, in_list, graph}
use Rattle.graph.specs.inner.Order.{Lt, to_l, to_r}
use Rattle.graph.proofs.Neighbour.{InList, list-refl, list-sym, list-trans, test-list, list-test, nearest-list, nearest-side, nobody_there, graph-nearest}
use Rattle.listing.specs.Lists.{is_there, comes_after, begins}
use Rattle.listing.specs.Whole.{Lists}
use Rattle.listing.proofs.Steps.{after_none}
use Rattle.listing.proofs.Graph.{begins-member}
use Rattle.listing.proofs.Few.{from, from_list, list-from, right_of, begins-right, first-least, one-first}
use Rattle.listing.proofs.Along.{run_only, run-all, run-ascends}
use Rattle.listing.proofs.Order.{after, after-all, after-only, after-ordered}

module _ {N W : ℕ} {G : Lots} (laws : Laws N G) (k : ℕ) (h : k ≤ W) where
  abbrev K : Links
  K = graph N W G

  -- a list with another lot has a first
  begins-list : (x : ℕ) → T (G.member x) → graph N W G x k left ≡ none → T (is_there (graph N W G x k right)) → T (begins W G K k x)
  unfolding begins
  begins-list x m e t = and_T (G.member x) _ m (rw e t)

  record Begun (y : ℕ) : Type 0 where
    first : ℕ
    starts : T (begins W G K k first)
    list : InList W G k first y

  has_first : (n y z : ℕ) → G.number y < n → T (G.member y) → InList W G k y z → y ≢ z → Begun y
  has_first zero y z l m p ne = absurd (omega arith)
  has_first (suc n) y z l m p ne = by (graph N W G y k left) refl (λ w. has_first n w y)
    where
      right_there : graph N W G y k left ≡ none → (o : Option ℕ) → graph N W G y k right ≡ o → T (is_there o)
      right_there e none f = go (lt-or-ge (G.number z) (G.number y))
        where
          go : (G.number z < G.number y) ⊎ (G.number y ≤ G.number z) → ⊥
          go (inl q) = nobody_there (rw e at (graph-nearest {W = W} laws y k left)) z p (to_l q)
          go (inr q) =
              let d : G.number y ≢ G.number z = λ u. ne (laws.differ y z m p.member u) in
              let r : G.number y < G.number z = omega arith in
              nobody_there (rw f at (graph-nearest {W = W} laws y k right)) z p (to_r r)
      right_there e (some w) f = tt

      by : (o : Option ℕ) → graph N W G y k left ≡ o
          → ((w : ℕ) → G.number w < n → T (G.member w) → InList W G k w y → w ≢ y → Begun w) → Begun y
      by none e ih = record {
        first = y;
        starts = begins-list y m e (right_there e (graph N W G y k right) refl);
        list = list-refl m h;
      }
      by (some w) e ih =
          let near = rw e at (graph-nearest {W = W} laws y k left) in
          let q = nearest-list near in
          let less = left-of (nearest-side near) in
          let b = ih w (omega arith) q.member (list-sym m q) (λ u. omega (arith, less, ap G.number u)) in
          record { first = b.first; starts = b.starts; list = list-trans b.list (list-sym m q) }
        where
          left-of : {x v : ℕ} → Lt G.number left x v → G.number v < G.number x
          left-of (to_l u) = u

  follows-nobody : (x : ℕ) → T (comes_after W G k none x)
  follows-nobody x = true-T {b = comes_after W G k none x} (after_none W G k x)

  other : (x : ℕ) → T (begins W G K k x) → (z : ℕ) × T (in_list W G k x z) × (x ≢ z)
  other x s =
      let r = begins-right laws k h x s in
      let near = rw r.1 at (graph-nearest {W = W} laws x k right) in
      let less = right_of laws k h (nearest-side near) in
      (r.0, list-test (nearest-list near), λ u. omega (arith, less, ap G.number u))

  -- THE LISTS OF A LEVEL
  pub lists-whole : Lists N W G k
  lists-whole = record {
    every = λ y z m t ne.
        let b = has_first (suc (G.number y)) y z (omega arith) m (test-list t) ne in (
          b.first,
          after-all laws k h N none b.first (record { starts = b.starts; follows = follows-nobody b.first })
              (count-le N (after laws k h none)),
          list-test b.list,
        );
    two = λ x i. other x (after-only laws k h N none x i);
    once = λ x y z i j s t. one-first laws k h x y z (after-only laws k h N none x i) (after-only laws k h N none y j) (test-list s) (test-list t);
    ordered = after-ordered laws k h N none;
    lots = λ x z i.
        let s = after-only laws k h N none x i in
        let m = begins-member W G K k x s in (
          λ j. list-test (from_list laws k h x z (run_only laws k h N x z m j)).0,
          λ t. run-all laws k h N x z m (count-le N (from laws k h x)) (list-from laws k h x z (test-list t) (first-least laws k h x z s (test-list t))),
        );
    ascending = λ x i. run-ascends laws k h N x (begins-member W G K k x (after-only laws k h N none x i));
  }
