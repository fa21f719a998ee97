-- Connected components (document 000, Theorem 5; document 02, #106): nodes joined by links among them, directly or through others. The label
-- of a node's component is its lowest seat. Assumes nothing.
use Rattle.std.specs.Prelude.{ℕ, zero, suc, Bool, false, ◌&&◌, ◌||◌, eqb}
use Rattle.std.proofs.Math.Option.{Option, none, some}
use Rattle.base.specs.Loops.{any, first_from}
use Rattle.graph.specs.Side.{left, right}
use Rattle.graph.specs.Graph.{Lots, Links}

-- a link names y
unfoldable pub names : Option ℕ → ℕ → Bool
names none y = false
names (some z) y = eqb z y

module _ (W : ℕ) (member : ℕ → Bool) (L : Links) where
  -- a link of x, at any level and on either side, names y
  unfoldable pub links_to : (x y : ℕ) → Bool
  links_to x y = any (suc W) (λ k. names (L x k left) y || names (L x k right) y)

  -- x and y are nodes, and a link of one of them names the other
  unfoldable pub linked_with : (x y : ℕ) → Bool
  linked_with x y = (member x && member y) && (links_to x y || links_to y x)

  -- x is y, or joined to it by links among the nodes, directly or through nodes on seats below n
  unfoldable pub joined_below : (n x y : ℕ) → Bool
  joined_below zero x y = eqb x y || linked_with x y
  joined_below (suc n) x y = joined_below n x y || (joined_below n x n && joined_below n n y)

  -- the component of x on N seats: the lowest seat that x is joined to
  unfoldable pub component_of : (N x : ℕ) → ℕ
  component_of N x = first_from N 0 (joined_below N x)

-- the lots, each with its component by the links
abbrev pub by_links : (N W : ℕ) → Lots → Links → Lots
by_links N W G L = record { member = G.member; number = G.number; vector = G.vector; component = component_of W G.member L N }
