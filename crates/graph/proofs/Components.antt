-- Theorem 5 of document 000: every connected component is a skip graph exactly if Constraints 1 to 6 hold.
-- Assumes the laws of the lots, and that their labels are the connected components, as the labels of every graph are.
use Prim.Native.Nat.{ℕ, ◌+◌, ◌≤◌}
use mathlib.Core.Path.{◌≡◌, refl, sym, ◌∙◌, subst}
use mathlib.Core.Logic.{◌↔◌, ◌⊎◌, inl, inr}
use native.Mathlib.Omega.{arith}
use native.Mathlib.Decide.{dec_le}
use lib.Dec.{T}
use Rattle.graph.specs.Side.{Side, left, opp}
use Rattle.graph.specs.Graph.{Lots, Links, graph, IsGraph, Laws}
use Rattle.graph.specs.Constraints.{Constraints, OneList, Joined, same, linked, turned, through, Labels}
use Rattle.graph.proofs.Order.{side-or-opp}
use Rattle.graph.proofs.Laws.{two_seated, laws-two}
use Rattle.graph.proofs.Walk.{Walk, here, there, walk-iterate, iterate-walk, walk-append, walk-rest}
use Rattle.graph.proofs.Walk.{constraints-sorted, walk-member, walk-reverse}
use Rattle.graph.proofs.Levels.{link-ground}
use Rattle.graph.proofs.SkipGraph.{skip-graph, walk-list, graph-constraints, graph-one-list}

-- x and z lie in one level-0 list
record Listed (L : Links) (x z : ℕ) : Type 0 where
  side : Side
  steps : ℕ
  walk : Walk L 0 side steps x z

-- what is joined to a node is a node
pub joined-member : {W : ℕ} {G : Lots} {L : Links} {x y : ℕ} → Joined W G L x y → T (G.member x) ↔ T (G.member y)
joined-member same = (λ m. m, λ m. m)
joined-member (linked mx my l e) = (λ m. my, λ m. mx)
joined-member (turned j) = ((joined-member j).1, (joined-member j).0)
joined-member (through i j) = (λ m. (joined-member j).0 ((joined-member i).0 m), λ m. (joined-member i).1 ((joined-member j).1 m))

module _ {W : ℕ} {G : Lots} {L : Links} (c : Constraints W G L) where
  walk-joined : {d : Side} {j x z : ℕ} → T (G.member x) → Walk L 0 d j x z → Joined W G L x z
  walk-joined m here = same
  walk-joined {d = d} m (there {x = x} {y = y} e w) = let n = c.within x 0 y d m (omega arith) e in
      through (linked {k = 0} m n (omega arith) e) (walk-joined n w)

  listed-turn : {x z : ℕ} → T (G.member x) → Listed L x z → Listed L z x
  listed-turn m p = record { side = opp p.side; steps = p.steps; walk = walk-reverse c (omega arith) m p.walk }

  listed-through : {x y z : ℕ} → T (G.member x) → T (G.member y) → Listed L x y → Listed L y z → Listed L x z
  listed-through {x} {y} {z} mx my p q = by (side-or-opp p.side q.side)
    where
      -- back to x, and from y on the same side to z: the longer walk passes the end of the shorter
      meet : Walk L 0 (opp p.side) p.steps y x → Walk L 0 (opp p.side) q.steps y z → Dec (p.steps ≤ q.steps) → Listed L x z
      meet v w (yes l) = let r = walk-rest l v w in record { side = opp p.side; steps = r.0; walk = r.2 }
      meet v w (no l) = let r = walk-rest (omega arith) w v in
          listed-turn (walk-member (constraints-sorted c) (omega arith) my w) (record { side = opp p.side; steps = r.0; walk = r.2 })

      by : (p.side ≡ q.side) ⊎ (opp p.side ≡ q.side) → Listed L x z
      by (inl e) = let v = subst (λ (s : Side). Walk L 0 s p.steps x y) e p.walk in
          record { side = q.side; steps = p.steps + q.steps; walk = walk-append v q.walk }
      by (inr e) = let w = subst (λ (s : Side). Walk L 0 s q.steps y z) (sym e) q.walk in
          meet (walk-reverse c (omega arith) mx p.walk) w (dec_le p.steps q.steps)

  joined-listed : {x y : ℕ} → T (G.member x) → Joined W G L x y → Listed L x y
  joined-listed m same = record { side = left; steps = 0; walk = here }
  joined-listed m (linked {k = k} {d = d} mx my l e) = let w = link-ground c k mx l e in record { side = d; steps = w.0; walk = w.1 }
  joined-listed m (turned j) = let n = (joined-member j).1 m in listed-turn n (joined-listed n j)
  joined-listed m (through i j) = let n = (joined-member i).0 m in listed-through m n (joined-listed m i) (joined-listed n j)

  -- each connected component has one level-0 list
  pub labels-one-list : Labels W G L → OneList W G L
  labels-one-list labels = record {
    joined = λ x y mx my e. let p = joined-listed mx ((labels.label x y mx my).0 e) in (p.side, p.steps, walk-iterate p.walk);
    apart = λ x y j d m e. let w = iterate-walk j e in
        (labels.label x y m (walk-member (constraints-sorted c) (omega arith) m w)).1 (walk-joined m w);
  }

-- Theorem 5
pub theorem-5 : {N W : ℕ} {G : Lots} {L : Links} → Laws N G → Labels W G L → Constraints W G L ↔ IsGraph N W G L
theorem-5 laws labels = (λ c. (skip-graph laws).0 (c, labels-one-list c labels), λ g. ((skip-graph laws).1 g).0)

-- the labels of a graph are its connected components
pub graph-labels : {N W : ℕ} {G : Lots} {L : Links} → Laws N G → IsGraph N W G L → Labels W G L
graph-labels {W = W} {G = G} {L = L} laws g = record {
  label = λ x y mx my. (
    (λ e. let (d, j, f) = (graph-one-list laws g).joined x y mx my e in walk-joined (graph-constraints laws g) mx (iterate-walk j f)),
    (λ j. one_label j),
  );
}
  where
    one_label : {x y : ℕ} → Joined W G L x y → G.component x ≡ G.component y
    one_label same = refl
    one_label (linked mx my l e) = (walk-list laws g mx l (there e here)).same
    one_label (turned j) = sym (one_label j)
    one_label (through i j) = one_label i ∙ one_label j

pub labels-two : (W : ℕ) → Labels W two_seated (graph 2 W two_seated)
labels-two W = graph-labels laws-two (record { link = λ x k d m l. refl })
