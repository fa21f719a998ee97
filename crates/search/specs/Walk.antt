-- The search of document 000 (section 3.1) from the top level, with document 01's comparisons ("Find"), and after it the left steps to a
-- staying holder (document 02, #104): the lots that are stepped onto as lists, the holder and the hops. Assumes nothing.
use Rattle.std.specs.Prelude.{ℕ, zero, suc, ◌+◌, List, [], ◌∷◌, ◌++◌, Bool, cond, ◌&&◌, eqb, leb, length}
use Rattle.std.proofs.Math.Option.{Option, none, some}
use Rattle.graph.specs.Side.{Side, left, on_side, side_of}
use Rattle.graph.specs.Graph.{Links}

-- what the walk does at a lot and a level: it ends, moves to a lot, or drops a level
pub data Step : Type 0 where
  stop : Step
  move : ℕ → Step
  drop : Step

-- the lot that the walk ends at
abbrev pub last_of : ℕ → List ℕ → ℕ
last_of s [] = s
last_of s (y ∷ p) = last_of y p

-- the answer of a search
pub record Found : Type 0 where
  pub holder : Option ℕ
  pub hops : ℕ

module _ (number : ℕ → ℕ) (L : Links) (x : ℕ) where
  -- along the link on side d unless it lies beyond the scanned number x, else a level down
  unfoldable pub along : Side → Option ℕ → Step
  along d none = drop
  along d (some y) = cond (on_side d x (number y)) drop (move y)

  -- at lot s and level k: equality ends the walk, otherwise it goes toward x
  unfoldable pub step_at : (s k : ℕ) → Step
  step_at s k = cond (eqb (number s) x) stop (let d = side_of (number s) x in along d (L s k d))

  -- the lots that the walk moves to from s at level k, in at most f moves and drops; below level 0 it ends
  unfoldable pub walk : (f s k : ℕ) → List ℕ
  walk zero s k = []
  walk (suc f) s k = elim (step_at s k) as (λ t. List ℕ)
      [ stop ↦ [] | move y ↦ y ∷ walk f y k | drop ↦ elim k as (λ j. List ℕ) [ zero ↦ [] | suc j ↦ walk f s j ] ]

  -- from the top level W; on N seats there are at most N moves and W + 1 drops
  unfoldable pub path : (N W s : ℕ) → List ℕ
  path N W s = walk (N + W + 1) s W

-- lot s may be printed on a label for x (document 02, #104): it stays, and its number is not above x
unfoldable pub printable : (staying : ℕ → Bool) (number : ℕ → ℕ) (x s : ℕ) → Bool
printable staying number x s = staying s && leb (number s) x

-- onto lot o, if there is one, and on along level-0 left links to the first staying lot: the lots that are stepped onto, at most f
unfoldable pub to_staying : (staying : ℕ → Bool) → Links → (f : ℕ) → Option ℕ → List ℕ
to_staying staying L zero o = []
to_staying staying L (suc f) none = []
to_staying staying L (suc f) (some y) = y ∷ cond (staying y) [] (to_staying staying L f (L y 0 left))

module _ (staying : ℕ → Bool) (number : ℕ → ℕ) (L : Links) (x : ℕ) where
  -- the left steps from the end e of the walk: none if e is not above x and stays; else to its level-0 left link, which is the holder if e is
  -- above x, and from a leaving holder on to the first staying lot
  unfoldable pub left_steps : (N e : ℕ) → List ℕ
  left_steps N e = cond (printable staying number x e) [] (to_staying staying L N (L e 0 left))

  -- all lots that are stepped onto: those that the walk moves to, then the left steps
  unfoldable pub route : (N W s : ℕ) → List ℕ
  route N W s = let p = path number L x N W s in p ++ left_steps N (last_of s p)

  -- the lot where that ends is the holder if it may be printed, else there is none; each step onto a lot is a hop
  unfoldable pub find : (N W s : ℕ) → Found
  find N W s =
      let p = route N W s in
      let h = last_of s p in
      record { holder = cond (printable staying number x h) (some h) none; hops = length p }
