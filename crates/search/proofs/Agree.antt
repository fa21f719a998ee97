-- Lots that agree on their members have the same graph: what is said of a seat that is no member does not matter, nor by which labels components are
-- told apart. A link of the graph names a member. And the right answers to a search are the same. Assumes the laws of the lots.
use Prim.Native.Nat.{ℕ}
use mathlib.Core.Path.{◌≡◌, sym, ◌∙◌, subst}
use mathlib.Core.Logic.{◌↔◌, ◌⊎◌, inl, inr}
use mathlib.Core.Option.{Option, some}
use mathlib.Core.Bool.{Bool}
use lib.Dec.{T}
use Rattle.graph.specs.Side.{Side}
use Rattle.graph.specs.Graph.{Lots, Laws, graph}
use Rattle.graph.specs.inner.Order.{Lt, to_l, to_r}
use Rattle.graph.proofs.Neighbour.{InList, Nearest, nobody as nobody-near, nearest, nearest-list, graph-nearest, nearest-graph}
use Rattle.search.specs.Right.{RightHolder, holds, nobody}

-- the same members, of each the same number and vector, and the same components
pub record Agree (G H : Lots) : Type 0 where
  pub member : (z : ℕ) → G.member z ≡ H.member z
  pub number : (z : ℕ) → T (G.member z) → G.number z ≡ H.number z
  pub vector : (z : ℕ) → T (G.member z) → G.vector z ≡ H.vector z
  pub component : (y z : ℕ) → T (G.member y) → T (G.member z) → (G.component y ≡ G.component z) ↔ (H.component y ≡ H.component z)

module _ {G H : Lots} (a : Agree G H) where
  pub member-there : (z : ℕ) → T (G.member z) → T (H.member z)
  member-there z m = subst (λ (t : Bool). T t) (a.member z) m

  pub member_back : (z : ℕ) → T (H.member z) → T (G.member z)
  member_back z m = subst (λ (t : Bool). T t) (sym (a.member z)) m

pub agree-sym : {G H : Lots} → Agree G H → Agree H G
agree-sym {G} {H} a = record {
  member = λ z. sym (a.member z);
  number = λ z m. sym (a.number z (member_back a z m));
  vector = λ z m. sym (a.vector z (member_back a z m));
  component = λ y z m n. let (to, from) = a.component y z (member_back a y m) (member_back a z n) in (from, to);
}

pub agree-laws : {N : ℕ} {G H : Lots} → Agree G H → Laws N G → Laws N H
agree-laws a laws = record {
  seat = λ x m. laws.seat x (member_back a x m);
  differ = λ x y m n e.
      laws.differ x y (member_back a x m) (member_back a y n) (a.number x (member_back a x m) ∙ e ∙ sym (a.number y (member_back a y n)));
}

module _ {G H : Lots} (a : Agree G H) {x : ℕ} (m : T (G.member x)) where
  list-agrees : {W k z : ℕ} → InList W G k x z → InList W H k x z
  list-agrees {z = z} p = record {
    member = member-there a z p.member;
    same = (a.component x z m p.member).0 p.same;
    bits = rw (← a.vector x m, ← a.vector z p.member) p.bits;
  }

  side-agrees : {z : ℕ} {d : Side} → T (G.member z) → Lt G.number d x z → Lt H.number d x z
  side-agrees {z} n (to_l l) = to_l {x = x} {y = z} (rw (← a.number x m, ← a.number z n) l)
  side-agrees {z} n (to_r l) = to_r {x = x} {y = z} (rw (← a.number x m, ← a.number z n) l)

module _ {G H : Lots} (a : Agree G H) {x : ℕ} (m : T (G.member x)) where
  -- a lot of the other's list, here
  list_back : {W k z : ℕ} → InList W H k x z → InList W G k x z
  list_back p = list-agrees (agree-sym a) (member-there a x m) p

  side-back : {z : ℕ} {d : Side} → T (H.member z) → Lt H.number d x z → Lt G.number d x z
  side-back n l = side-agrees (agree-sym a) (member-there a x m) n l

  nearest-agrees : {W k : ℕ} {d : Side} {o : Option ℕ} → Nearest W G k x d o → Nearest W H k x d o
  nearest-agrees (nobody-near f) = nobody-near (λ z p l. f z (list_back p) (side-back p.member l))
  nearest-agrees {d = d} (nearest {y = y} p l f) = nearest (list-agrees a m p) (side-agrees a m p.member l) (λ z q r.
      by z q.member (f z (list_back q) (side-back q.member r)))
    where
      by : (z : ℕ) → T (H.member z) → (z ≡ y) ⊎ Lt G.number d y z → (z ≡ y) ⊎ Lt H.number d y z
      by z n (inl e) = inl e
      by z n (inr u) = inr (side-agrees a p.member (member_back a z n) u)

-- a member's links are the same in both graphs
pub graph-agrees : {N : ℕ} (W : ℕ) {G H : Lots} → Laws N G → Agree G H → (x k : ℕ) (d : Side) → T (G.member x)
    → graph N W G x k d ≡ graph N W H x k d
graph-agrees W laws a x k d m = nearest-graph (agree-laws a laws) (nearest-agrees a m (graph-nearest laws x k d))

-- a link of the graph names a member
pub graph-member : {N : ℕ} (W : ℕ) {G : Lots} → Laws N G → (x k y : ℕ) (d : Side) → graph N W G x k d ≡ some y → T (G.member y)
graph-member W {G} laws x k y d e = (nearest-list (subst (Nearest W G k x d) e (graph-nearest laws x k d))).member

-- tests and numbers that agree have the same right answers
pub holder-agrees : {m n : ℕ → Bool} {f g : ℕ → ℕ} {x : ℕ} {o : Option ℕ}
    → ((z : ℕ) → m z ≡ n z) → ((z : ℕ) → T (m z) → f z ≡ g z)
    → RightHolder m f x o → RightHolder n g x o
holder-agrees {m} {n} {f} {g} {x} e h (holds {h = y} r) = holds (record {
  found = subst (λ (t : Bool). T t) (e y) r.found;
  below = rw (← h y r.found) r.below;
  largest = λ z t l. let u : T (m z) = subst (λ (v : Bool). T v) (sym (e z)) t in
      rw (← h y r.found, ← h z u) (r.largest z u (rw (h z u) l));
})
holder-agrees {m} {n} {f} {g} {x} e h (nobody no_one) = nobody (λ z t l. let u : T (m z) = subst (λ (v : Bool). T v) (sym (e z)) t in
    no_one z u (rw (h z u) l))
