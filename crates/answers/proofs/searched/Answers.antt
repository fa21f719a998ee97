-- `searched` meets its contract, case by case. Assumes nothing.
use Rattle.std.proofs.Common.{arith}
use Rattle.record.proofs.Determined.{refusal_number-positive}
use Rattle.program.proofs.Texts.{found-refused, found-hops}
use Rattle.answers.proofs.Words.{words}
use Rattle.answers.proofs.searched.Goals as goal
use Rattle.answers.proofs.searched.Goals.{in-Err, in-Ok+in-Some, in-Ok+in-None}

pub returns : goal.returns
returns c = elim c.match-answer.branch [
  | in-Err w ↦
      rw (w.in-Err.is, found-refused _ (refusal_number-positive w.in-Err.refusal), ← w.from.ensures)
      (record { put = grind (arith, words); fits = w.refused.ensures.fits })
  | in-Ok+in-Some w ↦ rw (w.in-Ok.is, found-hops, w.in-Some.is) (record { put = grind (arith, words); fits = w.holder.ensures.fits })
  | in-Ok+in-None w ↦ rw (w.in-Ok.is, found-hops, w.in-None.is) (record { put = grind (arith, words); fits = w.nobody.ensures.fits })
]
