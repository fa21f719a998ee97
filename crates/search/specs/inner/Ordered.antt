-- What a search needs of links so that it ends, and every sound record has; and the rank of a lot, which each link lowers. Assumes nothing.
use Rattle.std.specs.Prelude.{ℕ, ◌≤◌, ◌<◌, ◌≡◌, Bool, ◌&&◌, T}
use Rattle.std.proofs.Math.Option.{some}
use Rattle.base.specs.Loops.{count}
use Rattle.graph.specs.Side.{Side, on_side}
use Rattle.graph.specs.Graph.{Links}
use Rattle.graph.specs.inner.Order.{Lt}

-- seated lots sit below N, their numbers differ, and a link of a seated lot names a seated lot on its own side
pub record Ordered (N W : ℕ) (seated : ℕ → Bool) (number : ℕ → ℕ) (L : Links) : Type 0 where
  pub seat : (x : ℕ) → T (seated x) → x < N
  pub differ : (x y : ℕ) → T (seated x) → T (seated y) → number x ≡ number y → x ≡ y
  pub within : {x k y : ℕ} {d : Side} → T (seated x) → k ≤ W → L x k d ≡ some y → T (seated y)
  pub order : {x k y : ℕ} {d : Side} → T (seated x) → k ≤ W → L x k d ≡ some y → Lt number d x y

-- how many seated lots lie on side d of x
unfoldable pub rank : (N : ℕ) (seated : ℕ → Bool) (number : ℕ → ℕ) (d : Side) (x : ℕ) → ℕ
rank N seated number d x = count N (λ z. seated z && on_side d (number x) (number z))
