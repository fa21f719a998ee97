-- Links that are the graph's give the text of the graph. Assumes the laws of the lots.
use Prim.Native.Nat.{ℕ, zero, suc, ◌≤◌, ◌<◌}
use mathlib.Core.Path.{◌≡◌, refl, sym, ◌∙◌}
use mathlib.Core.Option.{Option, none, some}
use mathlib.Core.Bool.{Bool, true, false, not, ◌&&◌}
use mathlib.Core.List.{List}
use native.Mathlib.Omega.{arith}
use lib.Dec.{T}
use Rattle.base.proofs.Tests.{true-T, and-fst, some_inj}
use Rattle.graph.specs.Side.{left, right}
use Rattle.graph.specs.Graph.{Lots, Links, Laws, graph, IsGraph}
use Rattle.graph.proofs.Neighbour.{nearest-list, graph-nearest}
use Rattle.listing.specs.Lists.{is_there, onward, right_from, begins, first_of, next_first}
use Rattle.listing.specs.Text.{text_below, list_text, level_text, lists_text, graph_text}
use Rattle.listing.proofs.Steps.{lists_after, lists-zero, lists-none, lists-more}
use Rattle.listing.proofs.Firsts.{next-listed}

-- a list begins with a member
pub begins-member : (W : ℕ) (G : Lots) (L : Links) (k x : ℕ) → T (begins W G L k x) → T (G.member x)
unfolding begins
begins-member W G L k x t = and-fst (G.member x) (not (is_there (L x k left)) && is_there (L x k right)) t

-- a neighbour is a member
pub neighbour-member : {N : ℕ} (W : ℕ) {G : Lots} → Laws N G → (x k y : ℕ) → graph N W G x k right ≡ some y → T (G.member y)
neighbour-member W laws x k y e = (nearest-list (rw e at (graph-nearest {W = W} laws x k right))).member

module _ {N W : ℕ} {G : Lots} {L : Links} (laws : Laws N G) (g : IsGraph N W G L) (k : ℕ) (h : k ≤ W) where
  begins-same : (x : ℕ) → begins W G L k x ≡ begins W G (graph N W G) k x
  unfolding begins
  begins-same x = by (G.member x) refl
    where
      by : (b : Bool) → G.member x ≡ b → b && (not (is_there (L x k left)) && is_there (L x k right))
          ≡ b && (not (is_there (graph N W G x k left)) && is_there (graph N W G x k right))
      by true e = rw (g.link x k left (true-T e) h, g.link x k right (true-T e) h)
      by false e = refl

  next-same : (n : ℕ) (a : Option ℕ) → next_first W G L n k a ≡ next_first W G (graph N W G) n k a
  unfolding next_first first_of
  next-same zero a = refl
  next-same (suc n) a = rw (begins-same n, next-same n a)

  right-same : (n : ℕ) (o : Option ℕ) → ((y : ℕ) → o ≡ some y → T (G.member y)) → right_from L n k o ≡ right_from (graph N W G) n k o
  unfolding right_from onward
  right-same zero o m = refl
  right-same (suc n) none m = refl
  right-same (suc n) (some x) m =
      rw (g.link x k right (m x refl) h, right-same n (graph N W G x k right) (λ y e. neighbour-member W laws x k y e))

  list_same : (x : ℕ) → T (G.member x) → list_text N W G L k x ≡ list_text N W G (graph N W G) k x
  unfolding list_text
  list_same x m = rw (right-same N (some x) (λ y e. rw (← some_inj e) m))

  after_same : (n : ℕ) (a : Option ℕ) → lists_after N W G L k n a ≡ lists_after N W G (graph N W G) k n a
  after_same zero a = lists-zero N W G L k a ∙ sym (lists-zero N W G (graph N W G) k a)
  after_same (suc n) a = by (next_first W G L N k a) refl (λ x. after_same n (some x))
    where
      by : (o : Option ℕ) → next_first W G L N k a ≡ o
          → ((x : ℕ) → lists_after N W G L k n (some x) ≡ lists_after N W G (graph N W G) k n (some x))
          → lists_after N W G L k (suc n) a ≡ lists_after N W G (graph N W G) k (suc n) a
      by none e ih = lists-none N W G L k (suc n) a e ∙ sym (lists-none N W G (graph N W G) k (suc n) a (sym (next-same N a) ∙ e))
      by (some x) e ih =
          lists-more N W G L k n a x e
          ∙ rw (list_same x (begins-member W G L k x (next-listed W G L k N a x e).0.starts), ih x)
          (sym (lists-more N W G (graph N W G) k n a x (sym (next-same N a) ∙ e)))

  level-same : level_text N W G L k ≡ level_text N W G (graph N W G) k
  unfolding level_text
  level-same = after_same N none

below-same : (n : ℕ) (f g : ℕ → List ℕ) → ((k : ℕ) → k < n → f k ≡ g k) → text_below n f ≡ text_below n g
unfolding text_below
below-same zero f g h = refl
below-same (suc n) f g h = rw (below-same n f g (λ k l. h k (omega arith)), h n (omega arith))

-- THE LISTS BY THE LINKS ARE THOSE OF THE GRAPH
pub lists-graph : {N W : ℕ} {G : Lots} {L : Links} → Laws N G → IsGraph N W G L → lists_text N W G L ≡ graph_text N W G
unfolding lists_text
lists-graph {N} {W} {G} {L} laws g =
    below-same (suc W) (level_text N W G L) (level_text N W G (graph N W G)) (λ k l. level-same laws g k (omega arith))
