-- The answers of the readings in document 01's numbers, by their cases: the refusal number, 0 if the reading is accepted, then the values,
-- which are 0 if it is refused. Assumes nothing.
use Rattle.std.specs.Prelude.{ℕ, ◌<◌, Bool, Result, Ok, Err, Option, None, Some}
use Rattle.base.specs.Loops.{one_if}
use Rattle.protocol.specs.Message.{name}
use Rattle.record.specs.Layout.{no_link, seats}
use Rattle.record.specs.Meaning.{phase_byte, state_byte}
use Rattle.record.specs.Answer.{refusal_number}
use Rattle.record.specs.Reading.{LotAnswer, LinkAnswer, MessageAnswer, CountAnswer, NextAnswer, next_answer}
use Rattle.record.specs.Code.{as_phase, as_state}
use Rattle.record.specs.declared.refusals.Refusal.{Refusal}
use Rattle.messages.specs.declared.Message.{Message}
use Rattle.messages.specs.Numbers.{numbers}
use Rattle.reading.specs.declared.Lot.{Lot}
use Rattle.reading.specs.declared.Counts.{Counts}

-- a lot: state, number and vector
abbrev pub lot_numbers : Result Lot Refusal → LotAnswer
lot_numbers (Err r) = record { refused = refusal_number r; state = 0; number = 0; vector = 0 }
lot_numbers (Ok lot) = record { refused = 0; state = state_byte (as_state lot.state); number = lot.number; vector = lot.vector }

-- a link: a seat or 255
abbrev pub link_numbers : Result (Option ℕ) Refusal → LinkAnswer
link_numbers (Err r) = record { refused = refusal_number r; seat = 0 }
link_numbers (Ok None) = record { refused = 0; seat = no_link }
link_numbers (Ok (Some s)) = record { refused = 0; seat = s }

-- a link that is not none names a seat, which is below 255
abbrev pub LinkNumbered : Result (Option ℕ) Refusal → Type 0
LinkNumbered (Err r) = Unit {0}
LinkNumbered (Ok None) = Unit {0}
LinkNumbered (Ok (Some s)) = s < seats

-- a message: 1 if it is pending, else 0
abbrev pub message_numbers : Result Bool Refusal → MessageAnswer
message_numbers (Err r) = record { refused = refusal_number r; pending = 0 }
message_numbers (Ok b) = record { refused = 0; pending = one_if b }

-- seated lots, phase and pending messages
abbrev pub count_numbers : Result Counts Refusal → CountAnswer
count_numbers (Err r) = record { refused = refusal_number r; lots = 0; phase = 0; pending = 0 }
count_numbers (Ok c) = record { refused = 0; lots = c.lots; phase = phase_byte (as_phase c.phase); pending = c.pending }

-- the smallest pending message at or after five numbers: kind 0 if there is none, so a message has another
abbrev pub next_numbers : Result (Option Message) Refusal → NextAnswer
next_numbers (Err r) = next_answer (refusal_number r) (name 0 0 0 0 0)
next_numbers (Ok None) = next_answer 0 (name 0 0 0 0 0)
next_numbers (Ok (Some m)) = next_answer 0 (numbers m)

abbrev pub NextNumbered : Result (Option Message) Refusal → Type 0
NextNumbered (Err r) = Unit {0}
NextNumbered (Ok None) = Unit {0}
NextNumbered (Ok (Some m)) = 0 < m.kind
