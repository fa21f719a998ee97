-- The lots along a list to the right are those of the list from there on, ascending by number. Assumes the laws of the lots.
use Prim.Native.Nat.{ℕ, zero, suc, ◌≤◌}
use mathlib.Core.Path.{◌≡◌, refl, sym, ap}
use mathlib.Core.Logic.{◌≢◌, ◌⊎◌, inl, inr}
use mathlib.Core.Option.{Option, none, some}
use mathlib.Core.Bool.{false}
use mathlib.Core.List.Memᴰ
use mathlib.Core.List.{◌∷◌, Memᴰ}
use native.Mathlib.Omega.{arith}
use lib.Dec.{T}
use Rattle.base.specs.Loops.{count}
use Rattle.base.proofs.Cases.{eq-or-ne}
use Rattle.search.proofs.Count.{count_less}
use Rattle.graph.specs.Side.{right}
use Rattle.graph.specs.Graph.{Lots, Links, Laws, graph}
use Rattle.graph.specs.inner.Order.{Lt, to_r}
use Rattle.graph.proofs.Neighbour.{InList, list-refl, list-sym, list-trans, nearest-list, nearest-side, nearest-first, nobody_there, graph-nearest}
use Rattle.listing.specs.Lists.{onward, right_from}
use Rattle.listing.specs.Whole.{Ascending}
use Rattle.listing.specs.Whole as whole
use Rattle.listing.proofs.Few.{from, from_list, list-from, right_of}

module _ {N W : ℕ} {G : Lots} (laws : Laws N G) (k : ℕ) (h : k ≤ W) where
  abbrev K : Links
  K = graph N W G

  -- the lots along a list
  pub run_only : (n x z : ℕ) → T (G.member x) → Memᴰ z (right_from K n k (some x)) → T (from laws k h x z)
  unfolding right_from onward
  run_only zero x z m i = absurd (Memᴰ.not-nil i)
  run_only (suc n) x z m i = by (graph N W G x k right) refl (λ y. run_only n y z) (Memᴰ.cases_cons i)
    where
      none_left : (j : ℕ) → Memᴰ z (right_from K j k none) → ⊥
      none_left zero i = Memᴰ.not-nil i
      none_left (suc j) i = Memᴰ.not-nil i

      by : (o : Option ℕ) → graph N W G x k right ≡ o
          → ((y : ℕ) → T (G.member y) → Memᴰ z (right_from K n k (some y)) → T (from laws k h y z))
          → (z ≡ x) ⊎ Memᴰ z (right_from K n k (graph N W G x k right)) → T (from laws k h x z)
      by o e ih (inl q) = rw q (list-from laws k h x x (list-refl m h) (omega arith))
      by none e ih (inr j) = absurd (none_left n (rw e at j))
      by (some y) e ih (inr j) =
          let near = rw e at (graph-nearest {W = W} laws x k right) in
          let r = from_list laws k h y z (ih y (nearest-list near).member (rw e at j)) in
          let q = right_of laws k h (nearest-side near) in
          list-from laws k h x z (list-trans (nearest-list near) r.0) (omega (arith, r.1))

  pub run-all : (n x z : ℕ) → T (G.member x) → count N (from laws k h x) ≤ n → T (from laws k h x z) → Memᴰ z (right_from K n k (some x))
  unfolding right_from onward
  run-all zero x z m l t =
      let here = list-from laws k h x x (list-refl m h) (omega arith) in
      absurd (omega (arith, count_less N (λ z. false) (from laws k h x) x (laws.seat x m) here (λ f. f) (λ z f. absurd f)))
  run-all (suc n) x z m l t = by (graph N W G x k right) refl (λ y. run-all n y z) (eq-or-ne z x)
    where
      here : T (from laws k h x x)
      here = list-from laws k h x x (list-refl m h) (omega arith)

      beyond : (z ≡ x → ⊥) → Lt G.number right x z
      beyond ne = let r = from_list laws k h x z t in
          let q : G.number x ≢ G.number z = λ e. ne (sym (laws.differ x z m r.0.member e)) in
          to_r {x = x} {y = z} (omega (arith, r.1))

      by : (o : Option ℕ) → graph N W G x k right ≡ o
          → ((y : ℕ) → T (G.member y) → count N (from laws k h y) ≤ n → T (from laws k h y z) → Memᴰ z (right_from K n k (some y)))
          → (z ≡ x) ⊎ (z ≡ x → ⊥) → Memᴰ z (x ∷ right_from K n k (graph N W G x k right))
      by o e ih (inl q) = Memᴰ.head q
      by none e ih (inr ne) = absurd (nobody_there (rw e at (graph-nearest {W = W} laws x k right)) z (from_list laws k h x z t).0 (beyond ne))
      by (some y) e ih (inr ne) =
          let near = rw e at (graph-nearest {W = W} laws x k right) in
          let p = nearest-list near in
          let q = right_of laws k h (nearest-side near) in
          let less = count_less N (from laws k h y) (from laws k h x) x (laws.seat x m) here
          (λ u. absurd (let r = (from_list laws k h y x u).1 in omega arith))
          (λ v u. let r = from_list laws k h y v u in list-from laws k h x v (list-trans p r.0) (omega (arith, r.1))) in
          let at = at-or-beyond y (list-trans (list-sym m p) (from_list laws k h x z t).0) (nearest-first near z (from_list laws k h x z t).0 (beyond ne)) in
          rw e (Memᴰ.tail (ih y p.member (omega arith) at))
        where
          at-or-beyond : (y : ℕ) → InList W G k y z → (z ≡ y) ⊎ Lt G.number right y z → T (from laws k h y z)
          at-or-beyond y p (inl q) = list-from laws k h y z p (omega (arith, ap G.number q))
          at-or-beyond y p (inr q) = list-from laws k h y z p (let r = right_of laws k h q in omega arith)

  pub run-ascends : (n x : ℕ) → T (G.member x) → Ascending G.number (right_from K n k (some x))
  unfolding right_from onward
  run-ascends zero x m = whole.Ascending.nothing
  run-ascends (suc n) x m = by n (graph N W G x k right) refl (λ y. run-ascends n y)
    where
      by : (j : ℕ) (o : Option ℕ) → graph N W G x k right ≡ o → ((y : ℕ) → T (G.member y) → Ascending G.number (right_from K j k (some y)))
          → Ascending G.number (x ∷ right_from K j k (graph N W G x k right))
      by zero o e ih = whole.Ascending.single
      by (suc j) none e ih = rw e whole.Ascending.single
      by (suc j) (some y) e ih =
          let near = rw e at (graph-nearest {W = W} laws x k right) in
          rw e (whole.Ascending.larger (right_of laws k h (nearest-side near)) (ih y (nearest-list near).member))
