-- Lots, the lists of a level, and the skip graph of a set of members: document 000, section 2, cut at W bits. Assumes nothing.
use Rattle.std.specs.Prelude.{ℕ, zero, suc, ◌≤◌, ◌<◌, ◌≡◌, Bool, cond, ◌&&◌, T, eqb, leb}
use Rattle.std.proofs.Math.Option.{Option, none, some}
use Rattle.graph.specs.Side.{Side, on_side}
use Rattle.graph.specs.Vector.{shared}

-- the lots by seat: which are members, their numbers and vectors, and the component of each
pub record Lots : Type 0 where
  pub member : ℕ → Bool
  pub number : ℕ → ℕ
  pub vector : ℕ → ℕ
  pub component : ℕ → ℕ

-- what is assumed of lots on N seats: members sit below N, and their numbers differ
pub record Laws (N : ℕ) (G : Lots) : Type 0 where
  pub seat : (x : ℕ) → T (G.member x) → x < N
  pub differ : (x y : ℕ) → T (G.member x) → T (G.member y) → G.number x ≡ G.number y → x ≡ y

-- links by lot, level and side: a seat or none
abbrev pub Links : Type 0
Links = ℕ → ℕ → Side → Option ℕ

module _ (W : ℕ) (G : Lots) where
  -- the list of level k that x is in: the members of x's component that share k bits with x
  unfoldable pub in_list : (k x z : ℕ) → Bool
  in_list k x z = G.member z && (eqb (G.component x) (G.component z) && leb k (shared W (G.vector x) (G.vector z)))

  -- z is in x's list of level k, on side d of x
  unfoldable pub beside : (k x : ℕ) (d : Side) (z : ℕ) → Bool
  beside k x d z = in_list k x z && on_side d (G.number x) (G.number z)

  -- z, or the lot y that was found before if z lies beyond it on side d
  unfoldable pub nearer : (d : Side) (z : ℕ) → Option ℕ → Option ℕ
  nearer d z none = some z
  nearer d z (some y) = cond (on_side d (G.number z) (G.number y)) (some z) (some y)

  -- the nearest lot on side d in x's list of level k, of the seats below n
  unfoldable pub nearest : (n k x : ℕ) (d : Side) → Option ℕ
  nearest zero k x d = none
  nearest (suc n) k x d = cond (beside k x d n) (nearer d n (nearest n k x d)) (nearest n k x d)

-- the graph of the members on N seats: x's neighbour at level k on side d in its list, or none
unfoldable pub graph : (N W : ℕ) → Lots → Links
graph N W G x k d = nearest W G N k x d

-- the links are the graph's, for every member, level 0 to W and side
pub record IsGraph (N W : ℕ) (G : Lots) (L : Links) : Type 0 where
  pub link : (x k : ℕ) (d : Side) → T (G.member x) → k ≤ W → L x k d ≡ graph N W G x k d
