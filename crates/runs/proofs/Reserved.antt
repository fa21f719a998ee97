-- A reserved seat in the bytes of a sound record (document 02, #105): reading the lot shows it, every other call meets 8 there, it is no contact and no
-- member, it has no links, and a turn leaves it alone. And from demand 3 alone: a reservation of the roster reads as the roster has it. Assumes only that
-- bytes are bytes.
use Prim.Native.Nat.{ℕ, ◌<◌}
use mathlib.Core.Path.{◌≡◌, refl, sym, ap, ◌∙◌}
use mathlib.Core.Logic.{⊎_elim}
use mathlib.Core.Bool.{Bool, true, false, not, cond}
use mathlib.Core.List.{List}
use lib.Dec.{T}
use lib.ListN.{get_or}
use borrow.Author.Tests.{lt-ltb}
use Rattle.base.proofs.Tests.{true-T, false-T}
use Rattle.memory.specs.Bytes.{AreBytes}
use Rattle.graph.specs.Side.{Side}
use Rattle.graph.specs.Vector.{width}
use Rattle.protocol.specs.Rules.{SeatState, free, staying, leaving, reserved}
use Rattle.protocol.specs.State.{Phase, open_phase, clearing, Seats, is_clearing, is_leaving, is_reserved, taken, seated, stays, leaves, held, no_seat, member}
use Rattle.protocol.specs.Refusals.{no_such_seat, in_clearing, seat_taken, number_in_use, no_contact, empty_seat, not_reserved, first}
use Rattle.protocol.specs.pages.Join.{in_use}
use Rattle.protocol.specs.pages.Turn.{after_turn}
use Rattle.protocol.specs.Calls.{join, reserve, confirm, give_back, leave, turn, rows, refusal, seats_after, unless_refused, accept}
use Rattle.protocol.specs.Run.{Standing}
use Rattle.protocol.proofs.Calls.{no_row}
use Rattle.protocol.proofs.SoundFacts.{held-taken, held-empty, empty-stays, ok-linked}
use Rattle.protocol.proofs.KeepSound.{accept-sound}
use Rattle.record.specs.Layout.{seats, levels, no_link, link_at}
use Rattle.record.specs.Meaning.{seats_in, meaning, state_byte}
use Rattle.record.specs.Reading.{read_lot, link_refusal}
use Rattle.record.specs.Call.{call_refusal, called}
use Rattle.record.proofs.Refused.{Passed}
use Rattle.record.proofs.Reading.{lot-read, link_refusal-is}
use Rattle.record.proofs.Round.{bytes-meaning}
use Rattle.record.proofs.Clauses.{sound_fits}
use Rattle.record.proofs.Call.{record-accepted}
use Rattle.record.proofs.Accepted.{accepted}
use Rattle.find.specs.Find.{find_refusal}
use Rattle.find.proofs.Refused.{no-lot}
use Rattle.runs.specs.Run.{roster, lot_of, Demand3}
use Rattle.runs.proofs.Readings.{read-lot}
use Rattle.runs.proofs.SameLots.{below}

-- a reserved seat by its state
is-reserved : (t : SeatState) → T (is_reserved t) → t ≡ reserved
is-reserved free h = absurd h
is-reserved staying h = absurd h
is-reserved leaving h = absurd h
is-reserved reserved h = refl

held_stays : (t : SeatState) → T (is_reserved t) → is_leaving t ≡ false
held_stays free h = absurd h
held_stays staying h = absurd h
held_stays leaving h = absurd h
held_stays reserved h = refl

module _ (r : Seats) (x : ℕ) (h : held r x ≡ true) where
  -- what reading it answers
  pub held_reads : lot_of r x ≡ record { refused = 0; state = state_byte reserved; number = r.number x; vector = r.vector x }
  unfolding lot_of
  held_reads =
      let e : r.state x ≡ reserved = is-reserved (r.state x) (true-T h) in
      rw e

  -- a turn leaves it
  turn-held : (f : Phase) → lot_of (after_turn seats f r) x ≡ lot_of r x
  unfolding lot_of after_turn
  turn-held open_phase = refl
  turn-held clearing = let e : leaves r x ≡ false = held_stays (r.state x) (true-T h) in rw e

module _ (l : List ℕ) (p : Passed l) (x : ℕ) (q : x < seats) (h : held (seats_in l) x ≡ true) where
  empty : seated (seats_in l) x ≡ false
  empty = held-empty (seats_in l) x h

  -- reading the lot
  pub lot-reads : read_lot l x ≡ record { refused = 0; state = state_byte reserved; number = (seats_in l).number x; vector = (seats_in l).vector x }
  unfolding meaning
  lot-reads =
      lot-read l p.sized p.fine x q (true-T (held-taken (seats_in l) x h))
      ∙ ap (λ (t : SeatState). record { refused = 0; state = state_byte t; number = (seats_in l).number x; vector = (seats_in l).vector x })
      (is-reserved ((seats_in l).state x) (true-T h))

  -- reading a link, a scan from it, a leave
  pub link-empty : (k d : ℕ) → k < levels → d < 2 → link_refusal l x k d ≡ empty_seat
  unfolding first
  link-empty k d g w = link_refusal-is l p.sized p.fine x k d ∙ rw (lt-ltb x seats q, lt-ltb k levels g, lt-ltb d 2 w, empty)

  pub scan-empty : find_refusal l x ≡ empty_seat
  scan-empty = sym (no-lot l x p q empty)

  pub leave-empty : (seats_in l).phase ≡ open_phase → call_refusal l (leave x) ≡ empty_seat
  unfolding refusal rows first meaning
  leave-empty o = record-accepted l p.sized p.fine (leave x) ∙ rw (lt-ltb x seats q, o, empty)

  -- as contact, where nothing else stands in the way of a join or of a confirmation, its own too
  pub join-contact : (t n v : ℕ) → call_refusal l (reserve t n v) ≡ 0 → call_refusal l (join t n v x) ≡ no_contact
  unfolding refusal rows first meaning
  join-contact t n v e =
      let rs = rows seats width (seats_in l) (meaning l).pending (reserve t n v) in
      let z = sym (record-accepted l p.sized p.fine (reserve t n v)) ∙ e in
      let seat : no_seat seats t ≡ false = no_row rs no_such_seat tt z in
      let opens : is_clearing (seats_in l).phase ≡ false = no_row rs in_clearing tt z in
      let free : taken (seats_in l) t ≡ false = no_row rs seat_taken tt z in
      let unused : in_use seats (seats_in l) n ≡ false = no_row rs number_in_use tt z in
      record-accepted l p.sized p.fine (join t n v x) ∙ rw (lt-ltb x seats q, seat, opens, free, unused, empty)

  pub confirm-contact : (t : ℕ) → (seats_in l).phase ≡ open_phase → call_refusal l (give_back t) ≡ 0 → call_refusal l (confirm t x) ≡ no_contact
  unfolding refusal rows first meaning
  confirm-contact t o e =
      let rs = rows seats width (seats_in l) (meaning l).pending (give_back t) in
      let z = sym (record-accepted l p.sized p.fine (give_back t)) ∙ e in
      let seat : no_seat seats t ≡ false = no_row rs no_such_seat tt z in
      let is : not (held (seats_in l) t) ≡ false = no_row rs not_reserved tt z in
      record-accepted l p.sized p.fine (confirm t x) ∙ rw (lt-ltb x seats q, seat, o, is, empty)

  -- it is no member, in either phase
  pub no_member : member (seats_in l) x ≡ false
  unfolding member
  no_member = by (is_clearing (seats_in l).phase)
    where
      by : (b : Bool) → cond b (stays (seats_in l) x) (seated (seats_in l) x) ≡ false
      by true = empty-stays (seats_in l) x empty
      by false = empty

  -- its links are none
  pub no-link : (k : ℕ) (d : Side) → k < levels → get_or l (link_at x k d) 0 ≡ no_link
  no-link k d g = ⊎_elim (λ e. e) (λ (a, t). absurd (false-T empty (ok-linked width (seats_in l) x k d (get_or l (link_at x k d) 0) t).0.one))
      (((sound_fits l).0 p.fine).links x k d q g)

  -- an accepted turn leaves it
  pub turn-leaves : AreBytes l → (called l turn).refused ≡ 0 → read_lot (called l turn).after x ≡ read_lot l x
  unfolding called unless_refused accept seats_after meaning
  turn-leaves b e =
      let a = accepted l turn b e in
      let M = meaning l in
      let s = accept-sound seats width M a.fine turn tt a.row in
      rw e (read-lot (accept seats width M turn) s x q ∙ turn-held M.seats x h M.seats.phase ∙ sym (read-lot M a.fine x q)
      ∙ ap (λ (m : List ℕ). read_lot m x) (bytes-meaning a.form))

-- `lots`: a reservation of the roster, with its number and vector
pub reservation-reads : {bound : List ℕ → ℕ} {s : Standing (List ℕ)} → Demand3 bound s → (x : ℕ) → held (roster s.history).seats x ≡ true
    → read_lot s.now x
    ≡ record { refused = 0; state = state_byte reserved; number = (roster s.history).seats.number x; vector = (roster s.history).seats.vector x }
reservation-reads {s = s} D x h =
    let R = (roster s.history).seats in
    D.lots x (below D x (true-T (held-taken R x h))) ∙ held_reads R x h
