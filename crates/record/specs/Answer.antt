-- The answer of a call in document 01's numbers, by its cases: what the promises of the calls cite. Assumes nothing.
use Rattle.std.specs.Prelude.{ℕ, List, Result, Ok, Err}
use Rattle.protocol.specs.Calls.{Outcome}
use Rattle.protocol.specs.Refusals.{wrong_size, unsound, no_such_seat, seat_taken, number_in_use, no_contact, in_clearing, empty_seat}
use Rattle.protocol.specs.Refusals.{already_leaving, no_such_message, messages_left, no_such_level, unsettled, not_reserved, same_lot}
use Rattle.record.specs.declared.refusals.Refusal.{Refusal}
use Rattle.record.specs.declared.refusals.Refusal.TheVariants as refused

-- document 01's number of a refusal
abbrev pub refusal_number : Refusal → ℕ
refusal_number refused.WrongSize = wrong_size
refusal_number refused.Unsound = unsound
refusal_number refused.NoSuchSeat = no_such_seat
refusal_number refused.SeatTaken = seat_taken
refusal_number refused.NumberInUse = number_in_use
refusal_number refused.NoContact = no_contact
refusal_number refused.InClearing = in_clearing
refusal_number refused.EmptySeat = empty_seat
refusal_number refused.AlreadyLeaving = already_leaving
refusal_number refused.NoSuchMessage = no_such_message
refusal_number refused.MessagesLeft = messages_left
refusal_number refused.NoSuchLevel = no_such_level
refusal_number refused.Unsettled = unsettled
refusal_number refused.NotReserved = not_reserved
refusal_number refused.SameLot = same_lot

-- the number of an answer: 0 if the call is done, else the refusal's
unfoldable pub number_of : {A : Type 0} → Result A Refusal → ℕ
number_of (Ok x) = 0
number_of (Err r) = refusal_number r

-- what a call came to that answered a and left the bytes l
abbrev pub outcome : {A : Type 0} → Result A Refusal → List ℕ → Outcome (List ℕ)
outcome a l = record { refused = number_of a; after = l }
