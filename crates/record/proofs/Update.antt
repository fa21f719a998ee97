-- Changed meanings, and what a change of the phase, or of a seat's state, number, vector or link, is in the bytes, for any meaning: its cell
-- is put. Assumes nothing.
use Prim.Native.Nat.{ℕ, ◌<◌}
use mathlib.Core.Path.{◌≡◌, refl, ap, ◌∙◌}
use mathlib.Core.Logic.{⊎_elim, ◌≢◌}
use mathlib.Core.Option.{Option, none, some}
use mathlib.Core.Bool.{Bool}
use mathlib.Core.List.{[], ◌∷◌}
use native.Mathlib.Omega.{arith}
use lib.ListN.{set}
use Rattle.memory.specs.Bytes.{put_number}
use Rattle.memory.proofs.Bytes.{put_number-one}
use Rattle.graph.specs.Side.{Side}
use Rattle.graph.specs.Graph.{Links}
use Rattle.protocol.specs.Message.{Msg}
use Rattle.protocol.specs.Rules.{SeatState, Change, keep, set as put}
use Rattle.protocol.specs.State.{Phase, Seats, Meaning}
use Rattle.protocol.specs.Page.{at, marking, pending_after}
use Rattle.protocol.specs.pages.Deliver.{applied}
use Rattle.protocol.proofs.Calls.{at_same, at_other, applied-at, applied-frame}
use Rattle.record.specs.Layout.{seats, levels, number_size, vector_size, phase_at, state_at, number_from, vector_from, link_at}
use Rattle.record.specs.Cell.{Cell, phase_cell, state_cell, number_cell, vector_cell, link_cell, pending_cell}
use Rattle.record.specs.inner.Cell.{InRecord, put_cell}
use Rattle.record.specs.Meaning.{phase_byte, state_byte, link_byte, value_of, bytes_of}
use Rattle.record.proofs.Values.{NamesSeat, phase_byte-lt, state_byte-lt, link_byte-byte}
use Rattle.record.proofs.Frame.{bytes-put}

-- the changed meanings
abbrev pub with_seats : Meaning → Seats → Meaning
with_seats M r = record { seats = r; link = M.link; pending = M.pending }

abbrev pub with_phase : Meaning → Phase → Meaning
with_phase M p = with_seats M (record { phase = p; state = M.seats.state; number = M.seats.number; vector = M.seats.vector })

abbrev pub with_state : Meaning → (s : ℕ) → SeatState → Meaning
with_state M s v = with_seats M (marking s v M.seats)

abbrev pub with_number : Meaning → (s n : ℕ) → Meaning
with_number M s n =
    with_seats M (record { phase = M.seats.phase; state = M.seats.state; number = at s n M.seats.number; vector = M.seats.vector })

abbrev pub with_vector : Meaning → (s v : ℕ) → Meaning
with_vector M s v =
    with_seats M (record { phase = M.seats.phase; state = M.seats.state; number = M.seats.number; vector = at s v M.seats.vector })

abbrev pub with_links : Meaning → Links → Meaning
with_links M L = record { seats = M.seats; link = L; pending = M.pending }

-- a rule's change of the links of seat x
abbrev pub with_change : Meaning → (x : ℕ) → Change → Meaning
with_change M x c = with_links M (applied x c M.link)

abbrev pub with_link : Meaning → (x k : ℕ) → Side → Option ℕ → Meaning
with_link M x k d o = with_change M x (put k d o)

abbrev pub with_pending : Meaning → (Msg → Bool) → Meaning
with_pending M p = record { seats = M.seats; link = M.link; pending = p }

-- a message sent, a message taken
abbrev pub with_message : Meaning → Msg → Meaning
with_message M m = with_pending M (pending_after (m ∷ []) none M.pending)

abbrev pub without_message : Meaning → Msg → Meaning
without_message M m = with_pending M (pending_after [] (some m) M.pending)

module _ (M : Meaning) where
  pub bytes-with_phase : (p : Phase) → bytes_of (with_phase M p) ≡ set (bytes_of M) phase_at (phase_byte p)
  bytes-with_phase p =
      bytes-put M (with_phase M p) phase_cell tt other ∙ put_number-one (bytes_of M) phase_at (phase_byte p) (omega (arith, phase_byte-lt p))
    where
      other : (c : Cell) → InRecord c → c ≢ phase_cell → value_of (with_phase M p) c ≡ value_of M c
      other phase_cell q ne = absurd (ne refl)
      other (state_cell x) q ne = refl
      other (number_cell x) q ne = refl
      other (vector_cell x) q ne = refl
      other (link_cell x j e) q ne = refl
      other (pending_cell b) q ne = refl

  pub bytes-with_state : (s : ℕ) (v : SeatState) → s < seats → bytes_of (with_state M s v) ≡ set (bytes_of M) (state_at s) (state_byte v)
  bytes-with_state s v h =
      bytes-put M (with_state M s v) (state_cell s) h other
      ∙ ap (λ (w : SeatState). put_cell (bytes_of M) (state_cell s) (state_byte w)) (at_same s v M.seats.state s refl)
      ∙ put_number-one (bytes_of M) (state_at s) (state_byte v) (omega (arith, state_byte-lt v))
    where
      other : (c : Cell) → InRecord c → c ≢ state_cell s → value_of (with_state M s v) c ≡ value_of M c
      other phase_cell q ne = refl
      other (state_cell x) q ne = ap state_byte (at_other s v M.seats.state x (λ e. ne (ap state_cell e)))
      other (number_cell x) q ne = refl
      other (vector_cell x) q ne = refl
      other (link_cell x j e) q ne = refl
      other (pending_cell b) q ne = refl

  pub bytes-with_number : (s n : ℕ) → s < seats → bytes_of (with_number M s n) ≡ put_number (bytes_of M) (number_from s) number_size n
  bytes-with_number s n h =
      bytes-put M (with_number M s n) (number_cell s) h other ∙ ap (put_cell (bytes_of M) (number_cell s)) (at_same s n M.seats.number s refl)
    where
      other : (c : Cell) → InRecord c → c ≢ number_cell s → value_of (with_number M s n) c ≡ value_of M c
      other phase_cell q ne = refl
      other (state_cell x) q ne = refl
      other (number_cell x) q ne = at_other s n M.seats.number x (λ e. ne (ap number_cell e))
      other (vector_cell x) q ne = refl
      other (link_cell x j e) q ne = refl
      other (pending_cell b) q ne = refl

  pub bytes-with_vector : (s v : ℕ) → s < seats → bytes_of (with_vector M s v) ≡ put_number (bytes_of M) (vector_from s) vector_size v
  bytes-with_vector s v h =
      bytes-put M (with_vector M s v) (vector_cell s) h other ∙ ap (put_cell (bytes_of M) (vector_cell s)) (at_same s v M.seats.vector s refl)
    where
      other : (c : Cell) → InRecord c → c ≢ vector_cell s → value_of (with_vector M s v) c ≡ value_of M c
      other phase_cell q ne = refl
      other (state_cell x) q ne = refl
      other (number_cell x) q ne = refl
      other (vector_cell x) q ne = at_other s v M.seats.vector x (λ e. ne (ap vector_cell e))
      other (link_cell x j e) q ne = refl
      other (pending_cell b) q ne = refl

  pub bytes-with_link : (s k : ℕ) (d : Side) (o : Option ℕ) → s < seats → k < levels → NamesSeat o
      → bytes_of (with_link M s k d o) ≡ set (bytes_of M) (link_at s k d) (link_byte o)
  bytes-with_link s k d o h g n =
      bytes-put M (with_link M s k d o) (link_cell s k d) (h, g) other
      ∙ ap (λ (w : Option ℕ). put_cell (bytes_of M) (link_cell s k d) (link_byte w)) (applied-at s k d o M.link)
      ∙ put_number-one (bytes_of M) (link_at s k d) (link_byte o) (link_byte-byte o n)
    where
      same : (x j : ℕ) (e : Side) (w : Option ℕ) → x ≡ s → put k d o ≡ put j e w → link_cell x j e ≡ link_cell s k d
      same x j e w a b = cc

      other : (c : Cell) → InRecord c → c ≢ link_cell s k d → value_of (with_link M s k d o) c ≡ value_of M c
      other phase_cell q ne = refl
      other (state_cell x) q ne = refl
      other (number_cell x) q ne = refl
      other (vector_cell x) q ne = refl
      other (link_cell x j e) q ne =
          ap link_byte (⊎_elim (λ f. f) (λ f. absurd (ne (same x j e f.0 f.1 f.2))) (applied-frame s (put k d o) M.link x j e))
      other (pending_cell b) q ne = refl

  -- a rule that changes nothing
  pub bytes-keep : (x : ℕ) → bytes_of (with_change M x keep) ≡ bytes_of M
  unfolding applied
  bytes-keep x = refl
