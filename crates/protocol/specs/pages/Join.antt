-- Join (document 01, "Calls"): names a free seat, number, vector and contact. The newcomer is staying, without links; the contact gets MEET
-- about it at level 0. In a record without seated lots the contact is 255 and nothing is sent. The newcomer's component is its contact's, a first
-- lot's its own (document 02, #106). Reserving and confirming (document 02, #105) meet the rows of a join that concern them. Assumes nothing.
use Rattle.std.specs.Prelude.{ℕ, ◌^◌, ◌<◌, Bool, not, cond, ◌&&◌, ◌||◌, List, [], ◌∷◌, eqb, ltb}
use Rattle.std.proofs.Math.Option.{none}
use Rattle.base.specs.Loops.{any}
use Rattle.protocol.specs.Message.{Msg, meet}
use Rattle.protocol.specs.Rules.{staying}
use Rattle.protocol.specs.State.{Seats, is_clearing, taken, seated, empty, no_seat}
use Rattle.protocol.specs.Refusals.{no_such_seat, in_clearing, seat_taken, number_in_use, no_contact, row}
use Rattle.protocol.specs.Page.{Page, at, seating, without_links}
use Rattle.protocol.specs.Sound.{number_bits}

-- the contact that names no seat
abbrev pub nobody_to_contact : ℕ
nobody_to_contact = 255

-- neither a seat nor 255
abbrev pub no_such_contact : (N c : ℕ) → Bool
no_such_contact N c = no_seat N c && not (eqb c nobody_to_contact)

-- some taken seat has the number n
abbrev pub in_use : (N : ℕ) → Seats → (n : ℕ) → Bool
in_use N r n = any N (λ x. taken r x && eqb (r.number x) n)

-- the contact is a seat without a lot, or 255 while lots are seated
abbrev pub lacks_contact : (N : ℕ) → Seats → (c : ℕ) → Bool
lacks_contact N r c = cond (no_seat N c) (any N (seated r)) (empty r c)

-- the contact hears of the newcomer on seat s
abbrev pub greeting : (N s c : ℕ) → List Msg
greeting N s c = cond (ltb c N) (meet c s 0 ∷ []) []

-- the newcomer on seat s is in the component of its contact, a first lot in its own
abbrev pub admitted : (N s contact : ℕ) → (ℕ → ℕ) → ℕ → ℕ
admitted N s k c = at s (cond (ltb k N) (c k) s) c

abbrev pub join_page : (N W s n v c : ℕ) → Page
join_page N W s n v c = record {
  rows = λ r p.
      row no_such_seat (no_seat N s || no_such_contact N c)
      ∷ row in_clearing (is_clearing r.phase)
      ∷ row seat_taken (taken r s)
      ∷ row number_in_use (in_use N r n)
      ∷ row no_contact (lacks_contact N r c)
      ∷ [];
  seats = seating s staying n v;
  links = λ M. without_links s M.link;
  sends = λ M. greeting N s c;
  takes = none;
  component = λ r. admitted N s c;
  fits = (n < 2 ^ number_bits) × (v < 2 ^ W);
}
