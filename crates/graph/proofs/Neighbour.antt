-- A link of the graph as a relation: the nearest lot of a list on a side, or nobody. The graph has just these links.
-- Assumes the laws of the lots.
use Prim.Native.Nat.{ℕ, zero, suc, ◌≤◌, ◌<◌}
use mathlib.Core.Path.{◌≡◌, refl, sym, ◌∙◌, ap}
use mathlib.Core.Logic.{◌⊎◌, inl, inr}
use mathlib.Core.Option.{Option, none, some}
use mathlib.Core.Bool.{Bool, true, false, cond, ◌&&◌}
use native.Mathlib.Omega.{arith}
use lib.Dec.{T, eqb, leb, eqb→eq, eqb_refl, leb→le, le→leb}
use Rattle.graph.specs.Side.{Side, on_side}
use Rattle.graph.specs.Vector.{shared}
use Rattle.graph.specs.Graph.{Lots, in_list, beside, nearer, nearest as scan, graph, Laws}
use Rattle.base.proofs.Tests.{true-T, false-T, and_T, and-fst, and-snd}
use Rattle.graph.proofs.Below.{below_suc}
use Rattle.graph.specs.inner.Order.{Lt}
use Rattle.graph.proofs.Order.{lt_trans, lt-asym, lt-eq, on-lt, lt-on}
use Rattle.graph.proofs.Shared.{shared-refl, shared-sym, shared-trans}
use Rattle.graph.proofs.Laws.{member-compare}

-- z is in x's list of level k
pub record InList (W : ℕ) (G : Lots) (k x z : ℕ) : Type 0 where
  pub member : T (G.member z)
  pub same : G.component x ≡ G.component z
  pub bits : k ≤ shared W (G.vector x) (G.vector z)

module _ {W : ℕ} {G : Lots} where
  pub list-refl : {k x : ℕ} → T (G.member x) → k ≤ W → InList W G k x x
  list-refl {x = x} m l = record { member = m; same = refl; bits = shared-refl W (G.vector x) l }

  pub list-sym : {k x y : ℕ} → T (G.member x) → InList W G k x y → InList W G k y x
  list-sym {k} {x} {y} m p = record { member = m; same = sym p.same; bits = rw (shared-sym W (G.vector y) (G.vector x)) p.bits }

  pub list-trans : {k x y z : ℕ} → InList W G k x y → InList W G k y z → InList W G k x z
  list-trans {k} {x} {y} {z} p q = record {
    member = q.member;
    same = p.same ∙ q.same;
    bits = shared-trans W k (G.vector x) (G.vector y) (G.vector z) p.bits q.bits;
  }

  pub list-lower : {k x y : ℕ} → InList W G (suc k) x y → InList W G k x y
  list-lower p = record { member = p.member; same = p.same; bits = omega (arith, p.bits) }

-- the link of x at level k on side d: nobody of its list lies there, or y does, and everybody else of the list there lies beyond y
pub data Nearest (W : ℕ) (G : Lots) (k x : ℕ) (d : Side) : Option ℕ → Type 0 where
  nobody : ((z : ℕ) → InList W G k x z → Lt G.number d x z → ⊥) → Nearest W G k x d none
  nearest : {y : ℕ} → InList W G k x y → Lt G.number d x y
      → ((z : ℕ) → InList W G k x z → Lt G.number d x z → (z ≡ y) ⊎ Lt G.number d y z) → Nearest W G k x d (some y)

module _ {W : ℕ} {G : Lots} {k x : ℕ} {d : Side} where
  pub nobody_there : Nearest W G k x d none → (z : ℕ) → InList W G k x z → Lt G.number d x z → ⊥
  nobody_there (nobody f) = f

  pub nearest-list : {y : ℕ} → Nearest W G k x d (some y) → InList W G k x y
  nearest-list (nearest p l f) = p

  pub nearest-side : {y : ℕ} → Nearest W G k x d (some y) → Lt G.number d x y
  nearest-side (nearest p l f) = l

  pub nearest-first : {y : ℕ} → Nearest W G k x d (some y)
      → (z : ℕ) → InList W G k x z → Lt G.number d x z → (z ≡ y) ⊎ Lt G.number d y z
  nearest-first (nearest p l f) = f

  -- there is one such link
  pub nearest-unique : {a b : Option ℕ} → Nearest W G k x d a → Nearest W G k x d b → a ≡ b
  nearest-unique (nobody f) (nobody g) = refl
  nearest-unique (nobody f) (nearest {y = y} p l g) = absurd (f y p l)
  nearest-unique (nearest {y = y} p l g) (nobody f) = absurd (f y p l)
  nearest-unique (nearest {y = y} p l f) (nearest {y = z} q r g) = by (f z q r) (g y p l)
    where
      by : (z ≡ y) ⊎ Lt G.number d y z → (y ≡ z) ⊎ Lt G.number d z y → some y ≡ some z
      by (inl e) b = ap some (sym e)
      by (inr a) (inl e) = ap some e
      by (inr a) (inr b) = absurd (lt-asym a b)

-- the tests of specs/ say the same
module _ {W : ℕ} {G : Lots} {k x z : ℕ} where
  pub test-list : T (in_list W G k x z) → InList W G k x z
  unfolding in_list
  test-list t =
      let c = eqb (G.component x) (G.component z) in
      let b = leb k (shared W (G.vector x) (G.vector z)) in
      let u = and-snd (G.member z) (c && b) t in
      record {
        member = and-fst (G.member z) (c && b) t;
        same = eqb→eq (G.component x) (G.component z) (and-fst c b u);
        bits = leb→le k (shared W (G.vector x) (G.vector z)) (and-snd c b u);
      }

  pub list-test : InList W G k x z → T (in_list W G k x z)
  unfolding in_list
  list-test p =
      let c = eqb (G.component x) (G.component z) in
      let b = leb k (shared W (G.vector x) (G.vector z)) in
      let t : T c = rw p.same (eqb_refl (G.component z)) in
      and_T (G.member z) (c && b) p.member (and_T c b t (le→leb k (shared W (G.vector x) (G.vector z)) p.bits))

  beside-near : (d : Side) → T (beside W G k x d z) → InList W G k x z × Lt G.number d x z
  unfolding beside
  beside-near d t =
      let o = on_side d (G.number x) (G.number z) in
      (test-list (and-fst (in_list W G k x z) o t), on-lt G.number d x z (and-snd (in_list W G k x z) o t))

  list-beside : {d : Side} → InList W G k x z → Lt G.number d x z → T (beside W G k x d z)
  unfolding beside
  list-beside {d} p l = and_T (in_list W G k x z) (on_side d (G.number x) (G.number z)) (list-test p) (lt-on G.number l)

-- the scan of the seats below n has found the nearest of them
data Best (W : ℕ) (G : Lots) (k x : ℕ) (d : Side) (n : ℕ) : Option ℕ → Type 0 where
  no_one : ((z : ℕ) → z < n → T (beside W G k x d z) → ⊥) → Best W G k x d n none
  best : {y : ℕ} → T (beside W G k x d y)
      → ((z : ℕ) → z < n → T (beside W G k x d z) → (z ≡ y) ⊎ Lt G.number d y z) → Best W G k x d n (some y)

module _ {N W : ℕ} {G : Lots} (laws : Laws N G) {k x : ℕ} {d : Side} where
  pass-by : {n : ℕ} {o : Option ℕ} → ¬ (T (beside W G k x d n)) → Best W G k x d n o → Best W G k x d (suc n) o
  pass-by a (no_one f) = no_one (below_suc f a)
  pass-by a (best b f) = best b (below_suc f (λ t. absurd (a t)))

  take-up : {n : ℕ} {o : Option ℕ} → T (beside W G k x d n) → Best W G k x d n o → Best W G k x d (suc n) (nearer W G d n o)
  unfolding nearer
  take-up t (no_one f) = best t (below_suc (λ z l u. absurd (f z l u)) (λ u. inl refl))
  take-up {n} t (best {y = y} u f) = by (on_side d (G.number n) (G.number y)) refl
    where
      beyond : Lt G.number d n y → (z : ℕ) → (z ≡ y) ⊎ Lt G.number d y z → (z ≡ n) ⊎ Lt G.number d n z
      beyond l z (inl e) = inr (lt-eq l (sym e))
      beyond l z (inr m) = inr (lt_trans l m)

      behind : ¬ (Lt G.number d n y) → (n ≡ y) ⊎ (Lt G.number d n y ⊎ Lt G.number d y n) → (n ≡ y) ⊎ Lt G.number d y n
      behind a (inl e) = inl e
      behind a (inr (inl l)) = absurd (a l)
      behind a (inr (inr l)) = inr l

      by : (b : Bool) → on_side d (G.number n) (G.number y) ≡ b → Best W G k x d (suc n) (cond b (some n) (some y))
      by true e = best t (below_suc (λ z l v. beyond (on-lt G.number d n y (true-T e)) z (f z l v)) (λ v. inl refl))
      by false e = let c = member-compare laws d n y (beside-near d t).0.member (beside-near d u).0.member in
          best u (below_suc f (λ v. behind (λ l. false-T e (lt-on G.number l)) c))

  scan-best : (n : ℕ) → Best W G k x d n (scan W G n k x d)
  unfolding scan
  scan-best zero = no_one (λ z l. absurd (omega arith))
  scan-best (suc n) = by (beside W G k x d n) refl (scan-best n)
    where
      by : (b : Bool) → beside W G k x d n ≡ b → Best W G k x d n (scan W G n k x d)
          → Best W G k x d (suc n) (cond b (nearer W G d n (scan W G n k x d)) (scan W G n k x d))
      by true e b = take-up (true-T e) b
      by false e b = pass-by (λ t. false-T e t) b

  best-nearest : {o : Option ℕ} → Best W G k x d N o → Nearest W G k x d o
  best-nearest (no_one f) = nobody (λ z p l. f z (laws.seat z p.member) (list-beside p l))
  best-nearest (best t f) = nearest (beside-near d t).0 (beside-near d t).1 (λ z p l. f z (laws.seat z p.member) (list-beside p l))

-- the graph's link is the nearest, of a member and of any other seat
pub graph-nearest : {N W : ℕ} {G : Lots} → Laws N G → (x k : ℕ) (d : Side) → Nearest W G k x d (graph N W G x k d)
unfolding graph
graph-nearest {N} laws x k d = best-nearest laws (scan-best laws N)

-- and the nearest is the graph's link
pub nearest-graph : {N W : ℕ} {G : Lots} {k x : ℕ} {d : Side} {o : Option ℕ} → Laws N G → Nearest W G k x d o → o ≡ graph N W G x k d
nearest-graph {k = k} {x = x} {d = d} laws n = nearest-unique n (graph-nearest laws x k d)
