-- The bound on deliveries is at most a number that depends on the seats and the width alone. Assumes nothing.
use Prim.Native.Nat.{ℕ, zero, suc, ◌+◌, ◌*◌, ◌≤◌, ◌<◌}
use mathlib.Core.Option.{Option, none, some}
use mathlib.Core.Bool.{Bool, true, false}
use native.Mathlib.Nat.{mul-le-mul_left}
use native.Mathlib.Omega.{arith}
use Rattle.graph.specs.Side.{left, right, side_of}
use Rattle.protocol.specs.Message.{Msg, meet, probe, pull, going, seek, found, none_found}
use Rattle.protocol.specs.Numbering.{count, message_at}
use Rattle.protocol.specs.State.{Phase, open_phase, clearing, Meaning}
use Rattle.protocol.specs.Sound.{Sound}
use Rattle.protocol.proofs.Sum.{sum, weigh, mass}
use Rattle.protocol.proofs.Measure.{numbers, rank, reach, reaches, weight, bound, room_most, dist-most}

sum-most : (n : ℕ) (f : ℕ → ℕ) (c : ℕ) → ((i : ℕ) → f i ≤ c) → sum n f ≤ n * c
unfolding sum
sum-most zero f c h = omega arith
sum-most (suc n) f c h = omega (arith, sum-most n f c h, h n)

weigh-most : (b : Bool) (r c : ℕ) → r ≤ c → weigh b r ≤ c
weigh-most true r c h = h
weigh-most false r c h = omega arith

module _ (num : ℕ → ℕ) (small : (x : ℕ) → num x < numbers) where
  reach-most : (x : ℕ) (o : Option ℕ) → reach num x o ≤ numbers
  unfolding reach
  reach-most x none = omega arith
  reach-most x (some y) = omega (arith, dist-most num small x y)

  rank_most : (m : Msg) → rank num m ≤ 4 * numbers
  unfolding rank
  rank_most (meet x y k) = omega (arith, dist-most num small x y)
  rank_most (probe x y k) = omega (arith, room_most num small (side_of (num y) (num x)) x)
  rank_most (pull x b k d) = omega (arith, room_most num small d x)
  rank_most (going x k d) = omega arith
  rank_most (seek z x k) = omega (arith, room_most num small (side_of (num x) (num z)) z)
  rank_most (found x z k) = omega arith
  rank_most (none_found x k d) = omega arith

-- of all links and all messages
unfoldable pub most_deliveries : (N W : ℕ) → ℕ
most_deliveries N W = 8 * numbers * (N * (suc W * (2 * numbers))) + count N W * (4 * numbers)

module _ {N W : ℕ} {M : Meaning} (h : Sound N W M) where
  abbrev num : ℕ → ℕ
  num = M.seats.number

  reaches-most : reaches num N W M.link ≤ N * (suc W * (2 * numbers))
  unfolding reaches
  reaches-most = sum-most N _ _ (λ x. sum-most (suc W) _ _ (λ k.
      omega (arith, reach-most num h.numbers x (M.link x k left), reach-most num h.numbers x (M.link x k right))))

  mass-most : mass N W (rank num) M.pending ≤ count N W * (4 * numbers)
  unfolding mass
  mass-most = sum-most (count N W) _ _ (λ i. weigh-most (M.pending (message_at N W i)) _ _ (rank_most num h.numbers (message_at N W i)))

  pub bound-most : bound N W M ≤ most_deliveries N W
  unfolding bound weight most_deliveries
  bound-most = by M.seats.phase
    where
      by : (p : Phase) → weight N W p M ≤ most_deliveries N W
      by open_phase = omega (arith, mul-le-mul_left (8 * numbers) reaches-most, mass-most)
      by clearing = omega (arith, mass-most)
