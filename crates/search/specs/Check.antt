-- The check: every link of every member is its link in the graph of the members, made within each component. Assumes nothing.
use Rattle.std.specs.Prelude.{ℕ, suc, Bool, true, false, not, ◌&&◌, ◌||◌, eqb}
use Rattle.std.proofs.Math.Option.{Option, none, some}
use Rattle.base.specs.Loops.{all}
use Rattle.graph.specs.Side.{left, right}
use Rattle.graph.specs.Graph.{Lots, Links, graph}

-- two links are the same
unfoldable pub same_link : Option ℕ → Option ℕ → Bool
same_link none none = true
same_link none (some y) = false
same_link (some x) none = false
same_link (some x) (some y) = eqb x y

module _ (N W : ℕ) (G : Lots) (L : Links) where
  -- both links of x at level k are the graph's
  unfoldable pub level_right : (x k : ℕ) → Bool
  level_right x k = same_link (L x k left) (graph N W G x k left) && same_link (L x k right) (graph N W G x k right)

  unfoldable pub check : Bool
  check = all N (λ x. not (G.member x) || all (suc W) (λ k. level_right x k))
