-- The order of lots along a side, as a relation that fixes the side. Assumes nothing.
use Rattle.std.specs.Prelude.{ℕ, ◌<◌}
use Rattle.graph.specs.Side.{Side, left, right}

-- y lies on side d of x
pub data Lt (num : ℕ → ℕ) : Side → ℕ → ℕ → Type 0 where
  to_l : {x y : ℕ} → num y < num x → Lt num left x y
  to_r : {x y : ℕ} → num x < num y → Lt num right x y
