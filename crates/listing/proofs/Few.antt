-- The lists of a level have at most as many lots together as there are seats: a lot is in one list. Assumes the laws of the lots.
use Prim.Native.Nat.{ℕ, zero, suc, ◌+◌, ◌≤◌, ◌<◌}
use mathlib.Core.Path.{◌≡◌, refl, sym, subst}
use mathlib.Core.Logic.{◌⊎◌, inl, inr}
use mathlib.Core.Option.{Option, none, some}
use mathlib.Core.Bool.{Bool, true, false, not, ◌&&◌}
use mathlib.Core.List.{List, [], ◌∷◌}
use native.Mathlib.Omega.{arith}
use lib.Dec.{T, leb, leb→le, le→leb}
use lib.ListN.{length}
use Rattle.base.specs.Loops.{one_if, count, any}
use Rattle.base.proofs.Cases.{lt-or-ge}
use Rattle.base.proofs.Tests.{T_true, and_T, and-fst, and-snd}
use Rattle.base.proofs.Any.{any-in, any_out}
use Rattle.base.proofs.Count.{count-le}
use Rattle.search.proofs.Count.{count_less}
use Rattle.graph.specs.Side.{left, right}
use Rattle.graph.specs.Graph.{Lots, Links, Laws, in_list, graph}
use Rattle.graph.specs.inner.Order.{Lt, to_l, to_r}
use Rattle.graph.proofs.Neighbour.{InList, list-refl, list-sym, list-trans, test-list, list-test}
use Rattle.graph.proofs.Neighbour.{nearest-list, nearest-side, nobody_there, graph-nearest}
use Rattle.listing.specs.Lists.{is_there, onward, right_from, comes_before, comes_after, begins, next_first, firsts_after}
use Rattle.listing.proofs.Firsts.{before-trans, before-irr, Listed, next-listed}
use Rattle.listing.proofs.Graph.{begins-member}

-- two tests that never pass together and make a third pass
one_apart : (a b c : Bool) → (T a → T c) → (T b → T c) → (T a → T b → ⊥) → one_if a + one_if b ≤ one_if c
one_apart true true c f g h = absurd (h tt tt)
one_apart true false c f g h = rw (T_true {b = c} (f tt)) (omega arith)
one_apart false true c f g h = rw (T_true {b = c} (g tt)) (omega arith)
one_apart false false c f g h = omega arith

count-apart : (n : ℕ) (p q r : ℕ → Bool) → ((z : ℕ) → T (p z) → T (r z)) → ((z : ℕ) → T (q z) → T (r z))
    → ((z : ℕ) → T (p z) → T (q z) → ⊥)
    → count n p + count n q ≤ count n r
unfolding count
count-apart zero p q r f g h = omega arith
count-apart (suc n) p q r f g h = omega (arith, count-apart n p q r f g h, one_apart (p n) (q n) (r n) (f n) (g n) (h n))

module _ {N W : ℕ} {G : Lots} (laws : Laws N G) (k : ℕ) (h : k ≤ W) where
  abbrev K : Links
  K = graph N W G

  -- z is in x's list, at x or to its right
  unfoldable pub from : (x z : ℕ) → Bool
  from x z = in_list W G k x z && leb (G.number x) (G.number z)

  pub from_list : (x z : ℕ) → T (from x z) → InList W G k x z × (G.number x ≤ G.number z)
  unfolding from
  from_list x z t =
      let b = leb (G.number x) (G.number z) in
      (test-list (and-fst (in_list W G k x z) b t), leb→le (G.number x) (G.number z) (and-snd (in_list W G k x z) b t))

  pub list-from : (x z : ℕ) → InList W G k x z → G.number x ≤ G.number z → T (from x z)
  unfolding from
  list-from x z p l = and_T (in_list W G k x z) (leb (G.number x) (G.number z)) (list-test p) (le→leb (G.number x) (G.number z) l)

  pub right_of : {x y : ℕ} → Lt G.number right x y → G.number x < G.number y
  right_of (to_r l) = l

  -- the lots along a list are at most those of the list from there on
  run-few : (n x : ℕ) → T (G.member x) → length (right_from K n k (some x)) ≤ count N (from x)
  unfolding right_from onward
  run-few zero x m = omega arith
  run-few (suc n) x m = by (graph N W G x k right) refl (λ y. run-few n y)
    where
      here : T (from x x)
      here = list-from x x (list-refl m h) (omega arith)

      none_more : (j : ℕ) → right_from K j k none ≡ []
      none_more zero = refl
      none_more (suc j) = refl

      by : (o : Option ℕ) → graph N W G x k right ≡ o
          → ((y : ℕ) → T (G.member y) → length (right_from K n k (some y)) ≤ count N (from y))
          → suc (length (right_from K n k (graph N W G x k right))) ≤ count N (from x)
      by none e ih =
          let l = count_less N (λ z. false) (from x) x (laws.seat x m) here (λ f. f) (λ z f. absurd f) in
          rw (e, none_more n) (omega arith)
      by (some y) e ih =
          let near = rw e at (graph-nearest {W = W} laws x k right) in
          let q = right_of (nearest-side near) in
          let l = count_less N (from y) (from x) x (laws.seat x m) here (λ t. absurd (let r = (from_list y x t).1 in omega arith))
          (λ z t. let r = from_list y z t in list-from x z (list-trans (nearest-list near) r.0) (omega (arith, r.1))) in
          rw e (omega (arith, l, ih y (nearest-list near).member))

  -- two lots with which lists begin and that are in one list are one
  begins-left : (x : ℕ) → T (begins W G K k x) → graph N W G x k left ≡ none
  unfolding begins
  begins-left x t = by (graph N W G x k left) refl
    where
      by : (o : Option ℕ) → graph N W G x k left ≡ o → graph N W G x k left ≡ none
      by none e = e
      by (some y) e = absurd (and-fst (not (is_there (some y))) (is_there (graph N W G x k right))
          (rw e at (and-snd (G.member x) (not (is_there (graph N W G x k left)) && is_there (graph N W G x k right)) t)))

  pub begins-right : (x : ℕ) → T (begins W G K k x) → (y : ℕ) × (graph N W G x k right ≡ some y)
  unfolding begins
  begins-right x t = by (graph N W G x k right) refl
    where
      by : (o : Option ℕ) → graph N W G x k right ≡ o → (y : ℕ) × (graph N W G x k right ≡ some y)
      by none e = absurd (and-snd (not (is_there (graph N W G x k left))) false
          (rw e at (and-snd (G.member x) (not (is_there (graph N W G x k left)) && is_there (graph N W G x k right)) t)))
      by (some y) e = (y, e)

  pub first-least : (x y : ℕ) → T (begins W G K k x) → InList W G k x y → G.number x ≤ G.number y
  first-least x y t p = by (lt-or-ge (G.number y) (G.number x))
    where
      by : (G.number y < G.number x) ⊎ (G.number x ≤ G.number y) → G.number x ≤ G.number y
      by (inl l) = absurd (nobody_there (rw (begins-left x t) at (graph-nearest {W = W} laws x k left)) y p (to_l l))
      by (inr l) = l

  pub one-first : (x y z : ℕ) → T (begins W G K k x) → T (begins W G K k y) → InList W G k x z → InList W G k y z → x ≡ y
  one-first x y z s t p q =
      let m = begins-member W G K k x s in
      let n = begins-member W G K k y t in
      let r = list-trans p (list-sym n q) in
      let a = first-least x y s r in
      let b = first-least y x t (list-sym m r) in
      laws.differ x y m n (omega arith)

  -- z is in a list of level k that comes after that of a
  later : (a : Option ℕ) (z : ℕ) → Bool
  later a z = any N (λ x. (begins W G K k x && comes_after W G k a x) && in_list W G k x z)

  later-in : (a : Option ℕ) (z x : ℕ) → Listed W G K k a x → InList W G k x z → T (later a z)
  unfolding later
  later-in a z x i p =
      any-in N _ x (laws.seat x (begins-member W G K k x i.starts))
      (and_T (begins W G K k x && comes_after W G k a x) (in_list W G k x z) (and_T (begins W G K k x) (comes_after W G k a x) i.starts i.follows)
      (list-test p))

  record Later (a : Option ℕ) (z : ℕ) : Type 0 where
    first : ℕ
    listed : Listed W G K k a first
    list : InList W G k first z

  later-out : (a : Option ℕ) (z : ℕ) → T (later a z) → Later a z
  unfolding later
  later-out a z t =
      let r = any_out N _ t in
      let x = r.0 in
      let b = begins W G K k x && comes_after W G k a x in
      let i = and-fst b (in_list W G k x z) r.2 in
      record {
        first = x;
        listed = record { starts = and-fst (begins W G K k x) (comes_after W G k a x) i; follows = and-snd (begins W G K k x) (comes_after W G k a x) i };
        list = test-list (and-snd b (in_list W G k x z) r.2);
      }

  -- how many lots the lists have that begin with these
  unfoldable pub lots_in : List ℕ → ℕ
  lots_in [] = 0
  lots_in (x ∷ xs) = length (right_from K N k (some x)) + lots_in xs

  pub follows_on : (a : Option ℕ) (x y : ℕ) → T (comes_after W G k a x) → T (comes_before W G k x y) → T (comes_after W G k a y)
  unfolding comes_after
  follows_on none x y t u = tt
  follows_on (some a) x y t u = before-trans W G k a x y t u

  after-few : (n : ℕ) (a : Option ℕ) → lots_in (firsts_after W G K N n k a) ≤ count N (later a)
  unfolding firsts_after onward lots_in comes_after
  after-few zero a = omega arith
  after-few (suc n) a = by (next_first W G K N k a) refl (λ x. after-few n (some x))
    where
      by : (o : Option ℕ) → next_first W G K N k a ≡ o → ((x : ℕ) → lots_in (firsts_after W G K N n k (some x)) ≤ count N (later (some x)))
          → lots_in (onward (next_first W G K N k a) (λ x. x ∷ firsts_after W G K N n k (some x))) ≤ count N (later a)
      by none e ih = rw e (omega arith)
      by (some x) e ih =
          let i = (next-listed W G K k N a x e).0 in
          let m = begins-member W G K k x i.starts in
          let l = count-apart N (from x) (later (some x)) (later a)
          (λ z t. later-in a z x i (from_list x z t).0)
          (λ z t. let r = later-out (some x) z t in
          later-in a z r.first (record { starts = r.listed.starts; follows = onward-from r.first r.listed.follows i.follows }) r.list)
          (λ z t u. let r = later-out (some x) z u in apart z r.first i r.listed (from_list x z t).0 r.list) in
          rw e (omega (arith, l, run-few N x m, ih x))
        where
          onward-from : (y : ℕ) → T (comes_after W G k (some x) y) → T (comes_after W G k a x) → T (comes_after W G k a y)
          onward-from y u t = follows_on a x y t u

          apart : (z y : ℕ) → Listed W G K k a x → Listed W G K k (some x) y → InList W G k x z → InList W G k y z → ⊥
          apart z y i j p q = let e = one-first x y z i.starts j.starts p q in
              before-irr W G k x (subst (λ (u : ℕ). T (comes_before W G k x u)) (sym e) j.follows)

  -- THE LOTS OF A LEVEL ARE AT MOST THE SEATS
  pub level-few : lots_in (firsts_after W G K N N k none) ≤ N
  level-few = omega (arith, after-few N none, count-le N (later none))
