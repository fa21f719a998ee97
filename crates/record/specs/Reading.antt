-- What open and the readings answer (document 01, "Calls"): the refusal number or 0, then the values; a refused answer's values are 0.
-- Assumes nothing.
use Rattle.std.specs.Prelude.{ℕ, not, cond, ◌||◌, List, [], ◌∷◌, eqb, ltb, length}
use Rattle.base.specs.Loops.{one_if, count}
use Rattle.memory.specs.Bits.{bit_set}
use Rattle.graph.specs.Side.{side_of_number}
use Rattle.graph.specs.Vector.{width}
use Rattle.protocol.specs.Message.{Name, name, named}
use Rattle.protocol.specs.Order.{smallest_from, name_or_zeros}
use Rattle.protocol.specs.State.{opened, taken, seated, empty, no_seat, is_pending}
use Rattle.protocol.specs.Refusals.{wrong_size, unsound, no_such_seat, empty_seat, no_such_level, Row, row, first}
use Rattle.record.specs.Layout.{seats, levels, messages, pending_from, size}
use Rattle.record.specs.Meaning.{seats_in, meaning, bytes_of, phase_byte, state_byte, link_byte}
use Rattle.record.specs.Sound.{sound}

-- the rows that a record meets in every call; open meets the first alone
abbrev pub size_row : List ℕ → Row
size_row l = row wrong_size (not (eqb (length l) size))

abbrev pub sound_row : List ℕ → Row
sound_row l = row unsound (not (sound l))

-- a seat that does not exist
abbrev pub seat_row : ℕ → Row
seat_row s = row no_such_seat (no_seat seats s)

-- a seat without a lot of the graph; of reading a lot: a free seat
abbrev pub empty_row : List ℕ → ℕ → Row
empty_row l s = row empty_seat (empty (seats_in l) s)

abbrev pub free_row : List ℕ → ℕ → Row
free_row l s = row empty_seat (not (taken (seats_in l) s))

-- the bytes after open: the empty record, or as before
unfoldable pub open_bytes : List ℕ → List ℕ
open_bytes l = cond (eqb (length l) size) (bytes_of opened) l

unfoldable pub open_refusal : List ℕ → ℕ
open_refusal l = first (size_row l ∷ [])

-- reading a lot
pub record LotAnswer : Type 0 where
  pub refused : ℕ
  pub state : ℕ
  pub number : ℕ
  pub vector : ℕ

unfoldable pub lot_refusal : List ℕ → (s : ℕ) → ℕ
lot_refusal l s = first (size_row l ∷ sound_row l ∷ seat_row s ∷ free_row l s ∷ [])

unfoldable pub read_lot : List ℕ → (s : ℕ) → LotAnswer
read_lot l s = let n = lot_refusal l s in
    cond (eqb n 0) (record { refused = 0; state = state_byte ((seats_in l).state s); number = (seats_in l).number s; vector = (seats_in l).vector s })
    (record { refused = n; state = 0; number = 0; vector = 0 })

-- reading a link: its seat or 255
pub record LinkAnswer : Type 0 where
  pub refused : ℕ
  pub seat : ℕ

abbrev pub level_row : (k d : ℕ) → Row
level_row k d = row no_such_level (not (ltb k levels) || not (ltb d 2))

unfoldable pub link_refusal : List ℕ → (s k d : ℕ) → ℕ
link_refusal l s k d = first (size_row l ∷ sound_row l ∷ seat_row s ∷ level_row k d ∷ empty_row l s ∷ [])

unfoldable pub read_link : List ℕ → (s k d : ℕ) → LinkAnswer
read_link l s k d = let n = link_refusal l s k d in
    cond (eqb n 0) (record { refused = 0; seat = link_byte ((meaning l).link s k (side_of_number d)) }) (record { refused = n; seat = 0 })

-- whether five numbers are a pending message: 1 or 0
pub record MessageAnswer : Type 0 where
  pub refused : ℕ
  pub pending : ℕ

unfoldable pub record_refusal : List ℕ → ℕ
record_refusal l = first (size_row l ∷ sound_row l ∷ [])

unfoldable pub read_message : List ℕ → Name → MessageAnswer
read_message l n = let r = record_refusal l in
    cond (eqb r 0) (record { refused = 0; pending = one_if (is_pending (meaning l).pending (named n)) }) (record { refused = r; pending = 0 })

-- seated lots, phase, pending count
pub record CountAnswer : Type 0 where
  pub refused : ℕ
  pub lots : ℕ
  pub phase : ℕ
  pub pending : ℕ

unfoldable pub read_counts : List ℕ → CountAnswer
read_counts l = let r = record_refusal l in
    cond (eqb r 0) (record {
      refused = 0;
      lots = count seats (seated (seats_in l));
      phase = phase_byte (seats_in l).phase;
      pending = count messages (λ i. bit_set l pending_from i);
    })
    (record { refused = r; lots = 0; phase = 0; pending = 0 })

-- the smallest pending message at or after five given numbers; kind 0 if there is none
pub record NextAnswer : Type 0 where
  pub refused : ℕ
  pub kind : ℕ
  pub to : ℕ
  pub about : ℕ
  pub level : ℕ
  pub side : ℕ

abbrev pub next_answer : (refused : ℕ) → Name → NextAnswer
next_answer r n = record { refused = r; kind = n.kind; to = n.to; about = n.about; level = n.level; side = n.side }

unfoldable pub read_next : List ℕ → Name → NextAnswer
read_next l n = let r = record_refusal l in
    cond (eqb r 0) (next_answer 0 (name_or_zeros (smallest_from seats width (meaning l).pending n))) (next_answer r (name 0 0 0 0 0))
