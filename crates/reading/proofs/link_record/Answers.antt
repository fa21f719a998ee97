-- `reading::link_record` meets its contract: each return is the first row that applies. Assumes nothing.
use mathlib.Core.Path.{sym, ◌∙◌}
use mathlib.Core.List.{[], ◌∷◌}
use borrow.Author.Tests.{lt-ltb, le-ltb}
use Rattle.protocol.specs.Refusals.{first}
use Rattle.record.specs.Reading.{link_refusal, level_row, empty_row}
use Rattle.record.specs.Answer.{number_of}
use Rattle.record.specs.Layout.{levels}
use Rattle.record.proofs.Answered.{refusal-on}
use Rattle.reading.proofs.Refusals.{There, seat-refused, seat-passed, link-rest}
use Rattle.reading.proofs.link_record.Goals as goal
use Rattle.reading.proofs.link_record.Goals.{In_ok-rec}
use Rattle.reading.proofs.link_record.Goals.{then-level-ge-LEVELS-via-then-level-ge-LEVELS, then-level-ge-LEVELS-via-else-level-ge-LEVELS+then-side-ge2}

-- past 1, 2 and 3
passed : (c : In_ok-rec) → There c.args.rec.now c.args.seat
unfolding number_of
passed c = seat-passed _ _ c.in_ok-rec.ensures.refused

pub returns-in_err-rec-clause-refused : goal.returns-in_err-rec-clause-refused
unfolding link_refusal number_of
returns-in_err-rec-clause-refused c =
    let a = c.args in
    let rest = level_row a.level a.side ∷ empty_row a.rec.now a.seat ∷ [] in
    refusal-on (Unit {0}) c.from_residual.result _ c.from_residual.ensures.1 (seat-refused _ _ _ rest c.in_err-rec.ensures.refused)

pub returns-then-level-ge-LEVELS-clause-refused : goal.returns-then-level-ge-LEVELS-clause-refused
unfolding first number_of
returns-then-level-ge-LEVELS-clause-refused c =
    link-rest _ _ (passed (goal.at.returns-then-level-ge-LEVELS-clause-refused c).In_ok-rec) c.args.level c.args.side
    (elim c.then-level-ge-LEVELS.branch [
      | then-level-ge-LEVELS-via-then-level-ge-LEVELS w ↦ rw (le-ltb _ levels w.if-level-ge-LEVELS.true)
      | then-level-ge-LEVELS-via-else-level-ge-LEVELS+then-side-ge2 w ↦ rw (lt-ltb _ levels w.if-level-ge-LEVELS.false, le-ltb _ 2 w.if-side-ge2.true)
    ])

pub is_seated-requires : goal.is_seated-requires
is_seated-requires c = (passed (goal.at.is_seated-requires c).In_ok-rec).seat

pub returns-then-is_seated-clause-refused : goal.returns-then-is_seated-clause-refused
unfolding first number_of
returns-then-is_seated-clause-refused c =
    let e = rw c.in_ok-rec.ensures.same at c.is_seated.ensures in
    link-rest _ _ (passed (goal.at.returns-then-is_seated-clause-refused c).In_ok-rec) c.args.level c.args.side
    (rw (lt-ltb _ levels c.if-level-ge-LEVELS.false, lt-ltb _ 2 c.if-side-ge2.false, sym e ∙ c.if-is_seated.true))

pub returns-else-is_seated-clause-refused : goal.returns-else-is_seated-clause-refused
unfolding first number_of
returns-else-is_seated-clause-refused c =
    let e = rw c.in_ok-rec.ensures.same at c.is_seated.ensures in
    link-rest _ _ (passed (goal.at.returns-else-is_seated-clause-refused c).In_ok-rec) c.args.level c.args.side
    (rw (lt-ltb _ levels c.if-level-ge-LEVELS.false, lt-ltb _ 2 c.if-side-ge2.false, sym e ∙ c.if-is_seated.false))
