-- `changed` meets its contract, case by case. Assumes nothing.
use Rattle.std.proofs.Common.{arith}
use Rattle.record.specs.Answer.{number_of}
use Rattle.record.proofs.Determined.{refusal_number-positive}
use Rattle.program.specs.Text.{done_text}
use Rattle.program.proofs.Long.{ok-length}
use Rattle.program.proofs.Texts.{done_refused}
use Rattle.answers.proofs.Words.{words}
use Rattle.answers.proofs.changed.Goals as goal
use Rattle.answers.proofs.changed.Goals.{in-Ok, in-Err}

pub returns : goal.returns
unfolding done_text number_of
returns c = elim c.match-answer.branch [
  | in-Ok w ↦ rw w.in-Ok.is (record { put = grind (arith, words); fits = ok-length })
  | in-Err w ↦
      rw (w.in-Err.is, done_refused _ (refusal_number-positive w.in-Err.refusal), ← w.from.ensures)
      (record { put = grind (arith, words); fits = w.refused.ensures.fits })
]
