-- What the readings of sound bytes give, in terms of their meaning: refusals 1 and 2 do not apply, a lot, a link, a message and the
-- counts; nothing is pending exactly if the pending count is 0; and counts that are read are of sound bytes. Assumes nothing.
use Prim.Native.Nat.{ℕ, ◌<◌}
use mathlib.Core.Path.{◌≡◌, refl, sym, ap, ◌∙◌}
use mathlib.Core.Logic.{◌↔◌}
use mathlib.Core.Bool.{Bool, true, false, cond}
use mathlib.Core.List.{List, [], ◌∷◌}
use lib.Dec.{T, eqb}
use lib.ListN.{length}
use borrow.Author.Tests.{lt-ltb, eqb-true}
use Rattle.base.specs.Loops.{one_if, count as how_many}
use Rattle.memory.specs.Bits.{bit_set}
use Rattle.base.proofs.Count.{count_same, count-zero}
use Rattle.graph.specs.Side.{Side, side_number}
use Rattle.graph.specs.Vector.{width}
use Rattle.base.proofs.Tests.{T_true}
use Rattle.protocol.specs.Message.{Msg, Name, name_of, named}
use Rattle.protocol.specs.Numbering.{place, message_at, some_pending}
use Rattle.protocol.specs.State.{Meaning, is_free, taken, seated, is_pending}
use Rattle.protocol.specs.Refusals.{first}
use Rattle.protocol.proofs.Message.{named-name}
use Rattle.protocol.proofs.Numbering.{side_number-lt, message_at-place, none-pending, pending-none}
use Rattle.record.specs.Layout.{seats, levels, messages, pending_from, size}
use Rattle.record.specs.Meaning.{meaning, seats_in, phase_byte, state_byte, link_byte}
use Rattle.record.specs.Sound.{sound}
use Rattle.record.specs.Reading.{seat_row, empty_row, free_row, level_row}
use Rattle.record.specs.Reading.{lot_refusal, link_refusal, record_refusal, read_lot, read_link, read_message, CountAnswer, read_counts}
use Rattle.record.proofs.Places.{place-within, exists-at, side-side_number}
use Rattle.record.proofs.Form.{meaning-bit}
use Rattle.record.proofs.Refused.{Passed, record-goes, record-passed}

-- how many messages are pending
abbrev pub pending_count : Meaning → ℕ
pending_count M = how_many messages (λ i. M.pending (message_at seats width i))

-- none exactly if the count is 0
pub pending_count-zero : (M : Meaning) → (pending_count M ≡ 0) ↔ (some_pending seats width M.pending ≡ false)
pending_count-zero M = (to, from)
  where
    to : pending_count M ≡ 0 → some_pending seats width M.pending ≡ false
    to e = pending-none seats width M.pending (λ m x.
        ap M.pending (sym (message_at-place seats width m x))
        ∙ (count-zero messages (λ i. M.pending (message_at seats width i))).0 e (place seats width m) (place-within m x))

    from : some_pending seats width M.pending ≡ false → pending_count M ≡ 0
    from e = (count-zero messages (λ i. M.pending (message_at seats width i))).1 (λ i h.
        none-pending seats width M.pending e (message_at seats width i) (exists-at i h))

module _ (l : List ℕ) where
  pub count_bits : how_many messages (bit_set l pending_from) ≡ pending_count (meaning l)
  count_bits = count_same messages (bit_set l pending_from) (λ i. (meaning l).pending (message_at seats width i)) (λ i h. sym (meaning-bit l i h))

module _ (l : List ℕ) (e : length l ≡ size) (s : sound l ≡ true) where
  passed : Passed l
  passed = record { sized = e; fine = s }

  -- refusals 1 and 2 do not apply
  pub record-accepted : record_refusal l ≡ 0
  unfolding record_refusal first
  record-accepted = record-goes l [] (refl, refl) passed

  pub lot_refusal-is : (x : ℕ) → lot_refusal l x ≡ first (seat_row x ∷ free_row l x ∷ [])
  unfolding lot_refusal
  lot_refusal-is x = record-goes l (seat_row x ∷ free_row l x ∷ []) (refl, refl) passed

  pub link_refusal-is : (x k d : ℕ) → link_refusal l x k d ≡ first (seat_row x ∷ level_row k d ∷ empty_row l x ∷ [])
  unfolding link_refusal
  link_refusal-is x k d = record-goes l (seat_row x ∷ level_row k d ∷ empty_row l x ∷ []) (refl, refl) passed

  -- a taken seat
  module _ (x : ℕ) (h : x < seats) (t : T (taken (meaning l).seats x)) where
    held : taken (seats_in l) x ≡ true
    unfolding meaning
    held = T_true t

    pub lot-accepted : lot_refusal l x ≡ 0
    unfolding first
    lot-accepted = lot_refusal-is x ∙ rw (lt-ltb x seats h, held)

    pub lot-read : read_lot l x ≡ record {
      refused = 0;
      state = state_byte ((meaning l).seats.state x);
      number = (meaning l).seats.number x;
      vector = (meaning l).seats.vector x;
    }
    unfolding read_lot meaning
    lot-read = rw lot-accepted

  -- a seated lot
  module _ (x : ℕ) (h : x < seats) (t : T (seated (meaning l).seats x)) where
    here : seated (seats_in l) x ≡ true
    unfolding meaning
    here = T_true t

    pub link-accepted : (k d : ℕ) → k < levels → d < 2 → link_refusal l x k d ≡ 0
    unfolding first
    link-accepted k d g q = link_refusal-is x k d ∙ rw (lt-ltb x seats h, lt-ltb k levels g, lt-ltb d 2 q, here)

    pub link-read : (k : ℕ) (d : Side) → k < levels
        → read_link l x k (side_number d) ≡ record { refused = 0; seat = link_byte ((meaning l).link x k d) }
    unfolding read_link
    link-read k d g = rw (link-accepted k (side_number d) g (side_number-lt d), side-side_number d)

  -- a free seat
  pub free-read : (x : ℕ) → x < seats → T (is_free ((meaning l).seats.state x))
      → read_lot l x ≡ record { refused = 8; state = 0; number = 0; vector = 0 }
  unfolding read_lot first meaning
  free-read x h t = rw (lot_refusal-is x, lt-ltb x seats h, T_true {b = is_free ((seats_in l).state x)} t)

  pub message-read : (n : Name) → read_message l n ≡ record { refused = 0; pending = one_if (is_pending (meaning l).pending (named n)) }
  unfolding read_message
  message-read n = rw record-accepted

  pub message-named : (m : Msg) → read_message l (name_of m) ≡ record { refused = 0; pending = one_if ((meaning l).pending m) }
  unfolding is_pending
  message-named m = message-read (name_of m) ∙ rw (named-name m)

  pub counts-read : read_counts l ≡ record {
    refused = 0;
    lots = how_many seats (seated (meaning l).seats);
    phase = phase_byte (meaning l).seats.phase;
    pending = pending_count (meaning l);
  }
  unfolding read_counts meaning
  counts-read = rw (record-accepted, count_bits l)

-- counts that are not refused: the record is not
not-refused : (n : ℕ) (a b : CountAnswer) → b.refused ≡ n → (t : Bool) → eqb n 0 ≡ t → (cond t a b).refused ≡ 0 → n ≡ 0
not-refused n a b e true f z = eqb-true n 0 f
not-refused n a b e false f z = sym e ∙ z

pub counts-passed : (l : List ℕ) → (read_counts l).refused ≡ 0 → Passed l
unfolding read_counts
counts-passed l e = record-passed l refl (not-refused (record_refusal l) _ _ refl (eqb (record_refusal l) 0) refl e)
