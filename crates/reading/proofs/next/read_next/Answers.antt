-- `reading::next::read_next` meets its contract. Assumes nothing.
use Rattle.record.specs.Answer.{number_of}
use Rattle.reading.proofs.Values.{next-refused, next-value}
use Rattle.reading.proofs.next.read_next.Goals as goal

pub returns-in_err-rec : goal.returns-in_err-rec
unfolding number_of
returns-in_err-rec c = next-refused _ _ c.from_residual.result _ c.from_residual.ensures.1 c.in_err-rec.ensures.refused

pub returns : goal.returns
unfolding number_of
returns c = next-value _ _ _ c.in_ok-rec.ensures.refused (rw c.in_ok-rec.ensures.same at c.next_pending.ensures)
