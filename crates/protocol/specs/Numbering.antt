-- All messages among N seats at width W in ascending order of their names: which exist, how many, and the place of each. Assumes nothing.
use Rattle.std.specs.Prelude.{ℕ, suc, ◌+◌, ◌-◌, ◌*◌, ◌/◌, ◌%◌, Bool, cond, ◌&&◌, eqb, ltb}
use Rattle.base.specs.Loops.{any}
use Rattle.graph.specs.Side.{Side, left, right, side_number}
use Rattle.protocol.specs.Message.{Msg, meet, probe, pull, going, seek, found, none_found, bit_number}

module _ (N W : ℕ) where
  -- how many messages name two lots and a level of L, a lot, a bit, a level and a side, or a lot, a level and a side
  abbrev pub pairs : ℕ → ℕ
  pairs L = N * N * L

  abbrev pub pulls : ℕ
  pulls = N * 2 * W * 2

  abbrev pub sides : ℕ
  sides = N * suc W * 2

  -- seats and level are in the kind's range
  unfoldable pub exists : Msg → Bool
  exists (meet t a l) = ltb t N && (ltb a N && ltb l (suc W))
  exists (probe t a l) = ltb t N && (ltb a N && ltb l W)
  exists (pull t b l d) = ltb t N && ltb l W
  exists (going t l d) = ltb t N && ltb l (suc W)
  exists (seek t a l) = ltb t N && (ltb a N && ltb l (suc W))
  exists (found t a l) = ltb t N && (ltb a N && ltb l (suc W))
  exists (none_found t l d) = ltb t N && ltb l (suc W)

  -- the count of messages that exist
  abbrev pub count : ℕ
  count = pairs (suc W) + (pairs W + (pulls + (sides + (pairs (suc W) + (pairs (suc W) + sides)))))

  -- the place of a message: how many are smaller by their five numbers in order
  unfoldable pub place : Msg → ℕ
  place (meet t a l) = (t * N + a) * suc W + l
  place (probe t a l) = pairs (suc W) + ((t * N + a) * W + l)
  place (pull t b l d) = pairs (suc W) + (pairs W + (((t * 2 + bit_number b) * W + l) * 2 + side_number d))
  place (going t l d) = pairs (suc W) + (pairs W + (pulls + ((t * suc W + l) * 2 + side_number d)))
  place (seek t a l) = pairs (suc W) + (pairs W + (pulls + (sides + ((t * N + a) * suc W + l))))
  place (found t a l) = pairs (suc W) + (pairs W + (pulls + (sides + (pairs (suc W) + ((t * N + a) * suc W + l)))))
  place (none_found t l d) = pairs (suc W) + (pairs W + (pulls + (sides + (pairs (suc W) + (pairs (suc W) + ((t * suc W + l) * 2 + side_number d))))))

  -- a place's message, by the digits of its place among those of its kind
  unfoldable pub pair_at : (ℕ → ℕ → ℕ → Msg) → (L i : ℕ) → Msg
  pair_at f L i = f (i / L / N) (i / L % N) (i % L)

  unfoldable pub pull_at : ℕ → Msg
  pull_at i = pull (i / 2 / W / 2) (eqb (i / 2 / W % 2) 1) (i / 2 % W) (cond (eqb (i % 2) 1) right left)

  unfoldable pub side_at : (ℕ → ℕ → Side → Msg) → ℕ → Msg
  side_at f i = f (i / 2 / suc W) (i / 2 % suc W) (cond (eqb (i % 2) 1) right left)

  -- the first n places by f, the places after them by g
  unfoldable pub split : (n : ℕ) → (ℕ → Msg) → (ℕ → Msg) → ℕ → Msg
  split n f g i = cond (ltb i n) (f i) (g (i - n))

  -- the message at a place
  unfoldable pub message_at : ℕ → Msg
  message_at =
      split (pairs (suc W)) (pair_at meet (suc W))
      (split (pairs W) (pair_at probe W)
      (split pulls pull_at
      (split sides (side_at going)
      (split (pairs (suc W)) (pair_at seek (suc W))
      (split (pairs (suc W)) (pair_at found (suc W))
      (side_at none_found))))))

  -- some message that exists is pending
  unfoldable pub some_pending : (Msg → Bool) → Bool
  some_pending p = any count (λ i. p (message_at i))
