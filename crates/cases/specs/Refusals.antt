-- Examples of the table (document 01, "Refused calls"): for each number of each call one that meets it, beside it one that just does not,
-- and two at once in their order. Assumes nothing.
use Rattle.std.specs.Prelude.{ℕ, ◌+◌, ◌-◌, ◌≡◌, ◌⊎◌, Bool, true, false, List, [], ◌∷◌, T, length, set}
use Rattle.graph.specs.Vector.{width}
use Rattle.protocol.specs.Message.{Msg, Name, name, meet, probe, among}
use Rattle.protocol.specs.Numbering.{exists}
use Rattle.protocol.specs.Rules.{leaving}
use Rattle.protocol.specs.State.{open_phase, clearing, Seats, nobody}
use Rattle.protocol.specs.Calls.{Call, join, leave, deliver, turn, refusal}
use Rattle.record.specs.Layout.{seats, size, phase_at}
use Rattle.record.specs.Meaning.{meaning}
use Rattle.record.specs.Sound.{sound}
use Rattle.record.specs.Reading.{open_refusal, lot_refusal, link_refusal, record_refusal, read_lot, read_link, read_message, read_counts}
use Rattle.record.specs.Call.{call_refusal, called}
use Rattle.record.specs.Bundle.{bundled}
use Rattle.find.specs.Find.{find_refusal, find_in}
use Rattle.check_links.specs.Check.{check_in}
use Rattle.cases.specs.Small.{holds, seats_of, small_bytes, three, last, twins}
use Rattle.cases.specs.SoundExamples.{three_in}

-- the refusal number of a call where nothing is pending
abbrev pub refused : Seats → Call → ℕ
refused r c = refusal seats width r (among []) c

-- the lots 100 staying, 200 leaving, 300 staying on seats 0, 1, 2, in phase open and in phase clearing; a lot on seat 63; a sole lot that is leaving
abbrev pub open_three : Seats
open_three = seats_of open_phase three

abbrev pub clearing_three : Seats
clearing_three = seats_of clearing three

abbrev pub far : Seats
far = seats_of open_phase last

abbrev pub sole_leaver : Seats
sole_leaver = seats_of open_phase (holds 0 leaving 100 0 ∷ [])

pub record JoinExamples : Type 0 where
  -- 3: seat 64; 63
  pub seat : (refused open_three (join 64 400 0 0) ≡ 3) × (refused open_three (join 63 400 0 0) ≡ 0)
  -- contact 64, and 254; 63, and 255 in a record without lots
  pub contact_seat : (refused far (join 3 400 0 64) ≡ 3)
      × (refused far (join 3 400 0 254) ≡ 3)
      × (refused far (join 3 400 0 63) ≡ 0)
      × (refused nobody (join 3 400 0 255) ≡ 0)
  -- 7: in phase clearing; in phase open
  pub phase : (refused clearing_three (join 3 400 0 0) ≡ 7) × (refused open_three (join 3 400 0 0) ≡ 0)
  -- 4: the seat of a staying lot, and of a leaving one; a free seat
  pub taken : (refused open_three (join 0 400 0 2) ≡ 4) × (refused open_three (join 1 400 0 0) ≡ 4) × (refused open_three (join 3 400 0 0) ≡ 0)
  -- 5: the number of a staying lot, of a leaving one, and of one on the last seat; the next number, and 0, which free seats read
  pub number : (refused open_three (join 3 100 0 0) ≡ 5)
      × (refused open_three (join 3 200 0 0) ≡ 5)
      × (refused far (join 3 100 0 63) ≡ 5)
      × (refused open_three (join 3 201 0 0) ≡ 0)
      × (refused open_three (join 3 0 0 0) ≡ 0)
  -- 6: a free seat as contact, and the newcomer's own; 255 while lots are seated, also if all are leaving, also on the last seat; a seat while none is
  pub contact : (refused open_three (join 3 400 0 4) ≡ 6)
      × (refused open_three (join 3 400 0 3) ≡ 6)
      × (refused open_three (join 3 400 0 255) ≡ 6)
      × (refused sole_leaver (join 3 400 0 255) ≡ 6)
      × (refused far (join 3 400 0 255) ≡ 6)
      × (refused nobody (join 3 400 0 0) ≡ 6)
  -- a leaving lot is a contact
  pub leaver : (refused open_three (join 3 400 0 1) ≡ 0) × (refused sole_leaver (join 3 400 0 0) ≡ 0)
  -- 3 before 7, 7 before 4, 3 of the contact before 4, 4 before 5, 5 before 6
  pub order : (refused clearing_three (join 64 400 0 0) ≡ 3)
      × (refused clearing_three (join 0 400 0 2) ≡ 7)
      × (refused open_three (join 0 400 0 64) ≡ 3)
      × (refused open_three (join 0 200 0 2) ≡ 4)
      × (refused open_three (join 3 100 0 4) ≡ 5)

pub record LeaveExamples : Type 0 where
  -- 3: seat 64; 63
  pub seat : (refused far (leave 64) ≡ 3) × (refused far (leave 63) ≡ 0)
  -- 7: in phase clearing; in phase open
  pub phase : (refused clearing_three (leave 0) ≡ 7) × (refused open_three (leave 0) ≡ 0)
  -- 8: a free seat; 9: a leaving lot; a staying one
  pub empty : (refused open_three (leave 3) ≡ 8) × (refused open_three (leave 1) ≡ 9) × (refused open_three (leave 2) ≡ 0)
  -- 3 before 7, 3 before 8, 7 before 8, 7 before 9
  pub order : (refused clearing_three (leave 64) ≡ 3)
      × (refused open_three (leave 64) ≡ 3)
      × (refused clearing_three (leave 3) ≡ 7)
      × (refused clearing_three (leave 1) ≡ 7)

-- a delivery of five numbers, where p are pending
abbrev pub delivering : Seats → (Msg → Bool) → Name → ℕ
delivering r p n = refusal seats width r p (deliver n)

pub record DeliveryExamples : Type 0 where
  -- 10: not pending; another level, the two lots exchanged, another kind
  pub pending : (delivering open_three (among (meet 0 2 1 ∷ [])) (name 1 0 2 1 0) ≡ 0)
      × (delivering open_three (among (meet 0 2 1 ∷ [])) (name 1 0 2 0 0) ≡ 10)
      × (delivering open_three (among (meet 0 2 1 ∷ [])) (name 1 2 0 1 0) ≡ 10)
      × (delivering open_three (among (meet 0 2 1 ∷ [])) (name 2 0 2 1 0) ≡ 10)
  -- no message at all, whatever is pending: kinds 0 and 8, a side on a MEET and a SEEK, a PULL about 2, side 2, a GOING and a NONE about a lot
  pub no_message : (r : Seats) (p : Msg → Bool)
      → (delivering r p (name 0 0 2 0 0) ≡ 10)
      × (delivering r p (name 8 0 2 0 0) ≡ 10)
      × (delivering r p (name 1 0 2 0 1) ≡ 10)
      × (delivering r p (name 5 0 2 0 1) ≡ 10)
      × (delivering r p (name 3 0 2 0 1) ≡ 10)
      × (delivering r p (name 3 0 1 0 2) ≡ 10)
      × (delivering r p (name 4 0 1 0 1) ≡ 10)
      × (delivering r p (name 7 0 1 0 1) ≡ 10)
  -- beside these, where every message is pending
  pub a_message : (r : Seats)
      → (delivering r (λ m. true) (name 1 0 2 0 0) ≡ 0)
      × (delivering r (λ m. true) (name 7 0 0 0 1) ≡ 0)
      × (delivering r (λ m. true) (name 5 0 2 0 0) ≡ 0)
      × (delivering r (λ m. true) (name 3 0 1 0 1) ≡ 0)
      × (delivering r (λ m. true) (name 4 0 0 0 1) ≡ 0)
  -- a level or a seat that is none, whatever the bytes: MEET at level 9, PROBE and PULL at level 8, GOING at level 9, seat 64
  pub no_level : (r : Seats) (b : List ℕ)
      → (delivering r (meaning b).pending (name 1 0 1 9 0) ≡ 10)
      × (delivering r (meaning b).pending (name 2 0 1 8 0) ≡ 10)
      × (delivering r (meaning b).pending (name 3 0 1 8 0) ≡ 10)
      × (delivering r (meaning b).pending (name 4 0 0 9 0) ≡ 10)
      × (delivering r (meaning b).pending (name 1 0 64 0 0) ≡ 10)
      × (delivering r (meaning b).pending (name 1 64 0 0 0) ≡ 10)
  -- beside these: MEET pending at level 8, PROBE at level 7
  pub a_level : (call_refusal (small_bytes open_phase twins [] (meet 0 1 8 ∷ [])) (deliver (name 1 0 1 8 0)) ≡ 0)
      × (call_refusal (small_bytes open_phase twins [] (probe 0 1 7 ∷ [])) (deliver (name 2 0 1 7 0)) ≡ 0)

-- whatever the seats hold: in either phase, with or without leavers
pub record TurnExamples : Type 0 where
  -- 11: a single message is pending; none is
  pub one_left : (r : Seats) (m : Msg) → T (exists seats width m) → refusal seats width r (among (m ∷ [])) turn ≡ 11
  pub none_left : (r : Seats) → refusal seats width r (among []) turn ≡ 0

-- every call but open answers n on the bytes l, whatever its arguments
pub record EveryCall (l : List ℕ) (n : ℕ) : Type 0 where
  pub calls : (c : Call) → call_refusal l c ≡ n
  pub lot : (s : ℕ) → lot_refusal l s ≡ n
  pub link : (s k d : ℕ) → link_refusal l s k d ≡ n
  pub scan : (s : ℕ) → find_refusal l s ≡ n
  pub others : record_refusal l ≡ n

-- the bytes of the record with a lot on seat 63
abbrev pub far_bytes : List ℕ
far_bytes = small_bytes open_phase last [] []

pub record BytesExamples : Type 0 where
  -- the answers carry these numbers
  pub carried : (l : List ℕ)
      → ((c : Call) → (called l c).refused ≡ call_refusal l c)
      × ((s : ℕ) → (read_lot l s).refused ≡ lot_refusal l s)
      × ((s k d : ℕ) → (read_link l s k d).refused ≡ link_refusal l s k d)
      × ((s x : ℕ) → (find_in l s x).refused ≡ find_refusal l s)
      × ((n : Name) → (read_message l n).refused ≡ record_refusal l)
      × ((read_counts l).refused ≡ record_refusal l)
      × ((check_in l).refused ≡ record_refusal l)
      × ((limit : ℕ) → (bundled l limit).refused ≡ record_refusal l)
  -- the calls on the bytes of the small records are refused as on their seats
  pub on_bytes : (c : Call) → (call_refusal (three_in open_phase) c ≡ refused open_three c)
      × (call_refusal (three_in clearing) c ≡ refused clearing_three c)
      × (call_refusal far_bytes c ≡ refused far c)
  -- 1: a byte less or more, sound or not, in every call, open too; the size
  pub size_1 : (l : List ℕ) → (length l ≡ size - 1) ⊎ (length l ≡ size + 1) → EveryCall l 1 × (open_refusal l ≡ 1)
  pub size_fits : (l : List ℕ) → length l ≡ size → open_refusal l ≡ 0
  -- 2: bytes that are not sound, in every call whatever its arguments, so before 3 and the rest; but not in open
  pub sound_2 : (l : List ℕ) → length l ≡ size → sound l ≡ false → EveryCall l 2
  pub phase_2 : EveryCall (set (three_in clearing) phase_at 2) 2 × (open_refusal (set (three_in clearing) phase_at 2) ≡ 0)
  pub sound_fits : (record_refusal (three_in open_phase) ≡ 0) × (record_refusal (three_in clearing) ≡ 0)
  -- reading a lot. 3: seat 64; 63. 8: a free seat; a leaving lot
  pub lot : (lot_refusal far_bytes 64 ≡ 3)
      × (lot_refusal far_bytes 63 ≡ 0)
      × (lot_refusal (three_in clearing) 3 ≡ 8)
      × (lot_refusal (three_in clearing) 1 ≡ 0)
  -- find. 3: seat 64, before 13. 8: a free seat, before 13. 13: clearing; beside these specs/Scans.antt
  pub scan : (find_refusal (three_in clearing) 64 ≡ 3) × (find_refusal (three_in clearing) 3 ≡ 8) × (find_refusal (three_in clearing) 1 ≡ 13)
  -- reading a link. 3: seat 64; 63. 12: level 9, side 2; level 8 and side 1. 8: a free seat; a leaving lot
  pub link_3 : (link_refusal far_bytes 64 8 1 ≡ 3) × (link_refusal far_bytes 63 8 1 ≡ 0)
  pub link_12 : (link_refusal (three_in open_phase) 0 9 1 ≡ 12)
      × (link_refusal (three_in open_phase) 0 8 2 ≡ 12)
      × (link_refusal (three_in open_phase) 0 8 1 ≡ 0)
  pub link_8 : (link_refusal (three_in open_phase) 3 8 1 ≡ 8) × (link_refusal (three_in open_phase) 1 8 1 ≡ 0)
  -- 3 before 12, 12 before 8
  pub link_order : (link_refusal (three_in open_phase) 64 9 1 ≡ 3)
      × (link_refusal (three_in open_phase) 3 9 1 ≡ 12)
      × (link_refusal (three_in open_phase) 3 8 2 ≡ 12)
