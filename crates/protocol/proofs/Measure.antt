-- The number that every accepted delivery lowers: how far links still are, and a rank for each pending message. It is made of the
-- numbers of the lots alone. Assumes nothing.
use Prim.Native.Nat.{ℕ, suc, ◌+◌, ◌-◌, ◌*◌, ◌^◌, ◌≤◌, ◌<◌}
use mathlib.Core.Option.{Option, none, some}
use mathlib.Core.Bool.{Bool}
use native.Mathlib.Omega.{arith}
use Rattle.graph.specs.Side.{Side, left, right, side_of}
use Rattle.graph.specs.Graph.{Links}
use Rattle.graph.specs.inner.Order.{Lt, to_l, to_r}
use Rattle.protocol.specs.Message.{Msg, meet, probe, pull, going, seek, found, none_found}
use Rattle.protocol.specs.Sound.{number_bits}
use Rattle.protocol.specs.State.{Phase, open_phase, clearing, Meaning}
use Rattle.protocol.proofs.Exact.{dist}
use Rattle.protocol.proofs.Sum.{sum, mass}

abbrev pub numbers : ℕ
numbers = 2 ^ number_bits

module _ (num : ℕ → ℕ) where
  -- how much room there is beyond x on side d
  unfoldable pub room : Side → ℕ → ℕ
  room left x = num x
  room right x = numbers - suc (num x)

  unfoldable pub rank : Msg → ℕ
  rank (meet x y k) = dist (num x) (num y)
  rank (probe x y k) = numbers + 1 + room (side_of (num y) (num x)) x
  rank (pull x b k d) = 3 * numbers + room d x
  rank (going x k d) = numbers + 3
  rank (seek z x k) = 2 + room (side_of (num x) (num z)) z
  rank (found x z k) = 1
  rank (none_found x k d) = 1

  -- how far the link of x is
  unfoldable pub reach : ℕ → Option ℕ → ℕ
  reach x none = numbers
  reach x (some y) = dist (num x) (num y)

  -- of all links on N seats at levels 0 to W
  unfoldable pub reaches : (N W : ℕ) → Links → ℕ
  reaches N W L = sum N (λ x. sum (suc W) (λ k. reach x (L x k left) + reach x (L x k right)))

-- the bound: in phase open a link that gets nearer pays for the messages it sends
unfoldable pub weight : (N W : ℕ) → Phase → Meaning → ℕ
weight N W open_phase M = 8 * numbers * reaches M.seats.number N W M.link + mass N W (rank M.seats.number) M.pending
weight N W clearing M = mass N W (rank M.seats.number) M.pending

unfoldable pub bound : (N W : ℕ) → Meaning → ℕ
bound N W M = weight N W M.seats.phase M

module _ (num : ℕ → ℕ) (small : (x : ℕ) → num x < numbers) where
  pub room_most : (d : Side) (x : ℕ) → room num d x < numbers
  unfolding room
  room_most left x = small x
  room_most right x = omega (arith, small x)

  pub room-less : {d : Side} {x z : ℕ} → Lt num d x z → room num d z < room num d x
  unfolding room
  room-less (to_l p) = p
  room-less {x = x} {z = z} (to_r p) = omega (arith, small z)

  pub dist-most : (x y : ℕ) → dist (num x) (num y) < numbers
  unfolding dist
  dist-most x y = omega (arith, small x, small y)

  pub dist-pos : {d : Side} {x y : ℕ} → Lt num d x y → 0 < dist (num x) (num y)
  unfolding dist
  dist-pos (to_l p) = omega arith
  dist-pos (to_r p) = omega arith

  pub dist-on : {d : Side} {x o y : ℕ} → Lt num d x o → Lt num d o y → dist (num o) (num y) < dist (num x) (num y)
  unfolding dist
  dist-on (to_l p) (to_l q) = omega arith
  dist-on (to_r p) (to_r q) = omega arith

  pub dist-in : {d : Side} {x y o : ℕ} → Lt num d x y → Lt num d y o → dist (num x) (num y) < dist (num x) (num o)
  unfolding dist
  dist-in (to_l p) (to_l q) = omega arith
  dist-in (to_r p) (to_r q) = omega arith

  pub rank-meet : (x y k : ℕ) → rank num (meet x y k) < numbers
  unfolding rank
  rank-meet x y k = dist-most x y

  pub rank-probe : (x y k : ℕ) → rank num (probe x y k) ≤ 2 * numbers
  unfolding rank
  rank-probe x y k = omega (arith, room_most (side_of (num y) (num x)) x)

  pub rank-pull : (x : ℕ) (b : Bool) (k : ℕ) (d : Side) → rank num (pull x b k d) < 4 * numbers
  unfolding rank
  rank-pull x b k d = omega (arith, room_most d x)
