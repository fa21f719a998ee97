-- `reading::seat_record` meets its contract: each return is the first row that applies. Assumes nothing.
use borrow.Author.Tests.{lt-ltb, le-ltb}
use Rattle.protocol.specs.Refusals.{first}
use Rattle.record.specs.Layout.{seats}
use Rattle.record.specs.Answer.{number_of}
use Rattle.record.proofs.Answered.{refusal-on}
use Rattle.reading.proofs.Refusals.{record-refused, sound-passed, seat-rest}
use Rattle.reading.proofs.seat_record.Goals as goal

pub returns-in_err-rec-clause-refused : goal.returns-in_err-rec-clause-refused
unfolding number_of
returns-in_err-rec-clause-refused c =
    refusal-on (Unit {0}) c.from_residual.result _ c.from_residual.ensures.1 (record-refused _ _ _ c.in_err-rec.ensures.refused)

pub returns-then-seat-lt-SEATS-clause-refused : goal.returns-then-seat-lt-SEATS-clause-refused
unfolding first number_of
returns-then-seat-lt-SEATS-clause-refused c = rw (seat-rest _ _ (sound-passed _ c.in_ok-rec.ensures.refused), lt-ltb _ seats c.if-seat-lt-SEATS.true)

pub returns-else-seat-lt-SEATS-clause-refused : goal.returns-else-seat-lt-SEATS-clause-refused
unfolding first number_of
returns-else-seat-lt-SEATS-clause-refused c = rw (seat-rest _ _ (sound-passed _ c.in_ok-rec.ensures.refused), le-ltb _ seats c.if-seat-lt-SEATS.false)
