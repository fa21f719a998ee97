-- The search and the left steps after it as relations, step by step as code takes them. Assumes nothing.
use Rattle.std.specs.Prelude.{ℕ, suc, ◌+◌, ◌-◌, ◌≡◌, Bool, true, false, List, [], ◌∷◌}
use Rattle.std.proofs.Math.Option.{Option, none, some}
use Rattle.graph.specs.Side.{left}
use Rattle.graph.specs.Graph.{Links}
use Rattle.search.specs.Walk.{stop, move, drop, step_at}

-- how far two numbers are apart
abbrev pub gap : ℕ → ℕ → ℕ
gap a b = (a - b) + (b - a)

-- from lot s at level k the walk moves to the lots of a list
pub data Search (number : ℕ → ℕ) (L : Links) (x : ℕ) : (s k : ℕ) → List ℕ → Type 0 where
  found : {s k : ℕ} → step_at number L x s k ≡ stop → Search number L x s k []
  moves : {s k y : ℕ} {p : List ℕ} → step_at number L x s k ≡ move y → Search number L x y k p → Search number L x s k (y ∷ p)
  drops : {s k : ℕ} {p : List ℕ} → step_at number L x s (suc k) ≡ drop → Search number L x s k p → Search number L x s (suc k) p
  ends : {s : ℕ} → step_at number L x s 0 ≡ drop → Search number L x s 0 []

-- onto lot o, if there is one, and on along level-0 left links to the first staying lot, or as far as they lead
pub data Leftward (staying : ℕ → Bool) (L : Links) : Option ℕ → List ℕ → Type 0 where
  nowhere : Leftward staying L none []
  arrives : {y : ℕ} → staying y ≡ true → Leftward staying L (some y) (y ∷ [])
  passes : {y : ℕ} {p : List ℕ} → staying y ≡ false → Leftward staying L (L y 0 left) p → Leftward staying L (some y) (y ∷ p)
