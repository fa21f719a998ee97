-- Soundness of a meaning (document 01, "Sound"), a clause for each sentence. Phase and states are in range by their types. Assumes nothing.
use Rattle.std.specs.Prelude.{ℕ, ◌^◌, ◌<◌, ◌≡◌, Bool, not, ◌&&◌, T, eqb, ltb, leb}
use Rattle.std.proofs.Math.Option.{none, some}
use Rattle.graph.specs.Side.{Side, on_side}
use Rattle.graph.specs.Vector.{shared}
use Rattle.protocol.specs.Message.{Msg, meet, probe, pull, going, seek, found, none_found}
use Rattle.protocol.specs.State.{Seats, Meaning, is_clearing, is_free, taken, seated, stays}

-- lot numbers have 64 bits
abbrev pub number_bits : ℕ
number_bits = 64

module _ (W : ℕ) (r : Seats) where
  -- two different seated lots that share at least k bits
  unfoldable pub pair_ok : (k x y : ℕ) → Bool
  pair_ok k x y = seated r x && (seated r y && (not (eqb x y) && leb k (shared W (r.vector x) (r.vector y))))

  -- a link is of a seated lot, and names another on its own side sharing the level's bits: a free or a reserved seat has none
  unfoldable pub link_ok : (x k : ℕ) (d : Side) (y : ℕ) → Bool
  link_ok x k d y = pair_ok k x y && on_side d (r.number x) (r.number y)

  -- a pending message names seated lots and fits its kind; kinds 1 to 3 stand only in phase open, 4 to 7 only in clearing
  unfoldable pub message_ok : Msg → Bool
  message_ok (meet t a l) = not (is_clearing r.phase) && pair_ok l t a
  message_ok (probe t a l) = not (is_clearing r.phase) && (pair_ok l t a && ltb l W)
  message_ok (pull t b l d) = not (is_clearing r.phase) && (seated r t && ltb l W)
  message_ok (going t l d) = is_clearing r.phase && (seated r t && leb l W)
  message_ok (seek t a l) = is_clearing r.phase && (pair_ok l t a && stays r a)
  message_ok (found t a l) = is_clearing r.phase && (pair_ok l t a && (stays r t && stays r a))
  message_ok (none_found t l d) = is_clearing r.phase && (stays r t && leb l W)

pub record Sound (N W : ℕ) (M : Meaning) : Type 0 where
  -- lots sit on the N seats, and numbers and vectors have their bits
  pub seats : (x : ℕ) → T (taken M.seats x) → x < N
  pub numbers : (x : ℕ) → M.seats.number x < 2 ^ number_bits
  pub vectors : (x : ℕ) → M.seats.vector x < 2 ^ W
  -- a free seat's entry is as opened
  pub unused : (x : ℕ) → T (is_free (M.seats.state x))
      → (M.seats.number x ≡ 0) × (M.seats.vector x ≡ 0) × ((k : ℕ) (d : Side) → M.link x k d ≡ none)
  -- numbers differ, of lots and of reservations together
  pub differ : (x y : ℕ) → T (taken M.seats x) → T (taken M.seats y) → M.seats.number x ≡ M.seats.number y → x ≡ y
  pub links : (x k y : ℕ) (d : Side) → M.link x k d ≡ some y → T (link_ok W M.seats x k d y)
  pub messages : (m : Msg) → T (M.pending m) → T (message_ok W M.seats m)
