-- What the search needs of a record, and every sound record has: links that keep to their side. Each link lowers the rank of a lot. Assumes
-- nothing.
use Prim.Native.Nat.{ℕ, ◌≤◌, ◌<◌}
use mathlib.Core.Path.{refl}
use mathlib.Core.Bool.{Bool, ◌&&◌}
use lib.Dec.{T}
use Rattle.graph.specs.Side.{Side, on_side}
use Rattle.graph.specs.Graph.{Lots, Links, Laws, graph, IsGraph}
use Rattle.base.proofs.Tests.{and_T, and-fst, and-snd}
use Rattle.graph.specs.inner.Order.{Lt}
use Rattle.graph.proofs.Order.{lt_trans, lt-irr, on-lt, lt-on}
use Rattle.graph.proofs.Laws.{two_seated, laws-two}
use Rattle.graph.proofs.Walk.{Sorted, constraints-sorted}
use Rattle.graph.proofs.SkipGraph.{graph-constraints}
use Rattle.search.specs.inner.Ordered.{Ordered, rank}
use Rattle.base.specs.Loops.{count}
use Rattle.base.proofs.Count.{count-le}
use Rattle.search.proofs.Count.{count_less}

pub sorted-ordered : {N W : ℕ} {G : Lots} {L : Links} → Laws N G → Sorted W G L → Ordered N W G.member G.number L
sorted-ordered laws s = record { seat = laws.seat; differ = laws.differ; within = s.within; order = s.order }

pub graph-ordered : {N W : ℕ} {G : Lots} {L : Links} → Laws N G → IsGraph N W G L → Ordered N W G.member G.number L
graph-ordered laws g = sorted-ordered laws (constraints-sorted (graph-constraints laws g))

-- an instance
pub ordered-two : (W : ℕ) → Ordered 2 W two_seated.member two_seated.number (graph 2 W two_seated)
ordered-two W = graph-ordered laws-two (record { link = λ x k d m l. refl })

pub rank-bound : (N : ℕ) (seated : ℕ → Bool) (number : ℕ → ℕ) (d : Side) (x : ℕ) → rank N seated number d x ≤ N
unfolding rank
rank-bound N seated number d x = count-le N (λ z. seated z && on_side d (number x) (number z))

module _ {N W : ℕ} {seated : ℕ → Bool} {number : ℕ → ℕ} {L : Links} (o : Ordered N W seated number L) where
  pub rank_less : {d : Side} {x y : ℕ} → T (seated y) → Lt number d x y → rank N seated number d y < rank N seated number d x
  unfolding rank
  rank_less {d} {x} {y} m l = count_less N (beyond y) (beyond x) y (o.seat y m)
      (and_T (seated y) (on_side d (number x) (number y)) m (lt-on number l))
      (λ t. lt-irr (on-lt number d y y (and-snd (seated y) (on_side d (number y) (number y)) t)))
      (λ z t. and_T (seated z) (on_side d (number x) (number z)) (and-fst (seated z) (on_side d (number y) (number z)) t)
      (lt-on number (lt_trans l (on-lt number d y z (and-snd (seated z) (on_side d (number y) (number z)) t)))))
    where
      beyond : ℕ → ℕ → Bool
      beyond u z = seated z && on_side d (number u) (number z)

  pub rank_most : (d : Side) (x : ℕ) → T (seated x) → rank N seated number d x < count N seated
  unfolding rank
  rank_most d x m = count_less N (λ z. seated z && on_side d (number x) (number z)) seated x (o.seat x m) m
      (λ t. lt-irr (on-lt number d x x (and-snd (seated x) (on_side d (number x) (number x)) t)))
      (λ z t. and-fst (seated z) (on_side d (number x) (number z)) t)
