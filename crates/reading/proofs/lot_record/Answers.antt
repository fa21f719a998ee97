-- `reading::lot_record` meets its contract: each return is the first row that applies. Assumes nothing.
use mathlib.Core.Path.{sym, ◌∙◌}
use mathlib.Core.List.{[], ◌∷◌}
use Rattle.protocol.specs.Refusals.{first}
use Rattle.record.specs.Reading.{lot_refusal, free_row}
use Rattle.record.specs.Answer.{number_of}
use Rattle.record.proofs.Answered.{refusal-on}
use Rattle.reading.proofs.Refusals.{There, seat-refused, seat-passed, lot-rest}
use Rattle.reading.proofs.lot_record.Goals as goal
use Rattle.reading.proofs.lot_record.Goals.{In_ok-rec}

-- past 1, 2 and 3
passed : (c : In_ok-rec) → There c.args.rec.now c.args.seat
unfolding number_of
passed c = seat-passed _ _ c.in_ok-rec.ensures.refused

pub returns-in_err-rec-clause-refused : goal.returns-in_err-rec-clause-refused
unfolding lot_refusal number_of
returns-in_err-rec-clause-refused c =
    let l = c.args.rec.now in
    refusal-on (Unit {0}) c.from_residual.result _ c.from_residual.ensures.1 (seat-refused _ _ _ (free_row l c.args.seat ∷ []) c.in_err-rec.ensures.refused)

pub is_taken-requires : goal.is_taken-requires
is_taken-requires c = (passed (goal.at.is_taken-requires c).In_ok-rec).seat

pub returns-then-not-is_taken-clause-refused : goal.returns-then-not-is_taken-clause-refused
unfolding first number_of
returns-then-not-is_taken-clause-refused c =
    let e = rw c.in_ok-rec.ensures.same at c.is_taken.ensures in
    lot-rest _ _ (passed (goal.at.returns-then-not-is_taken-clause-refused c).In_ok-rec) (rw (sym e ∙ c.if-not-is_taken.true))

pub returns-clause-refused : goal.returns-clause-refused
unfolding first number_of
returns-clause-refused c =
    let e = rw c.in_ok-rec.ensures.same at c.is_taken.ensures in
    lot-rest _ _ (passed (goal.at.returns-clause-refused c).In_ok-rec) (rw (sym e ∙ c.if-not-is_taken.false))
