-- The check of the links as the code makes it, without a table. At every level each link of a member names a member that links back; and above
-- level 0 its right link is the first lot to the right on the level below that has its next bit. Assumes nothing.
use Rattle.std.specs.Prelude.{ℕ, zero, suc, Bool, true, not, cond, ◌&&◌, ◌||◌}
use Rattle.std.proofs.Math.Option.{Option, none, some}
use Rattle.base.specs.Loops.{all}
use Rattle.graph.specs.Side.{Side, left, right, opp}
use Rattle.graph.specs.Vector.{same_bit, bit}
use Rattle.graph.specs.Graph.{Lots, Links}
use Rattle.search.specs.Check.{same_link}

module _ (G : Lots) (L : Links) where
  -- the link o of x at level k on side d is none, or a member whose link back is x
  unfoldable pub back_of : (x k : ℕ) (d : Side) → Option ℕ → Bool
  back_of x k d none = true
  back_of x k d (some y) = G.member y && same_link (L y k (opp d)) (some x)

  -- both links of x at level k
  unfoldable pub backs_ok : (x k : ℕ) → Bool
  backs_ok x k = back_of x k left (L x k left) && back_of x k right (L x k right)

-- x is no member, or both its links at every level link back
unfoldable pub lot_backs : (W : ℕ) → Lots → Links → ℕ → Bool
lot_backs W G L x = not (G.member x) || all (suc W) (backs_ok G L x)

-- from o on to the right at level k, the first of n lots that has bit k as b, or where the n end
unfoldable pub ahead : (W : ℕ) → Lots → Links → (n k : ℕ) (b : Bool) → Option ℕ → Option ℕ
ahead W G L zero k b o = o
ahead W G L (suc n) k b none = none
ahead W G L (suc n) k b (some y) = cond (same_bit b (bit W k (G.vector y))) (some y) (ahead W G L n k b (L y k right))

module _ (N W : ℕ) (G : Lots) (L : Links) where
  -- the first lot to the right of x at level k that has bit k as x, of N that are looked at
  abbrev pub ahead_of : (x k : ℕ) → Option ℕ
  ahead_of x k = ahead W G L N k (bit W k (G.vector x)) (L x k right)

  -- the right link of x one level above k is that lot
  unfoldable pub above_ok : (x k : ℕ) → Bool
  above_ok x k = same_link (L x (suc k) right) (ahead_of x k)

  -- x is no member, or its right links above level 0 are as the level below says
  unfoldable pub lot_aboves : ℕ → Bool
  lot_aboves x = not (G.member x) || all W (above_ok x)

  -- every lot passes: Constraints 1 to 6, with any number of components
  unfoldable pub constraints_ok : Bool
  constraints_ok = all N (lot_backs W G L) && all N lot_aboves
