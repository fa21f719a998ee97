-- `find::find_refusal` meets its contract: each return is the first row that applies. Assumes nothing.
use mathlib.Core.Path.{sym, ◌∙◌}
use Rattle.record.specs.Answer.{number_of}
use Rattle.record.proofs.Refused.{Passed}
use Rattle.find.proofs.Refused.{stops-on, no-seat, no-lot, waits, answers, looked}
use Rattle.find.proofs.find_refusal.Goals as goal
use Rattle.find.proofs.find_refusal.Goals.{In_ok-first}

-- past 1 and 2
passed : (c : In_ok-first) → Passed c.args.rec.now
passed c = looked _ _ c.in_ok-first.ensures.refused

pub returns-in_err-first : goal.returns-in_err-first
returns-in_err-first c = stops-on _ _ _ c.from_residual.result _ c.from_residual.ensures.1 c.in_err-first.ensures.refused

pub returns-then-s-ge-SEATS : goal.returns-then-s-ge-SEATS
unfolding number_of
returns-then-s-ge-SEATS c = no-seat _ _ (passed (goal.at.returns-then-s-ge-SEATS c).In_ok-first) c.if-s-ge-SEATS.true

pub returns-then-not-is_seated : goal.returns-then-not-is_seated
unfolding number_of
returns-then-not-is_seated c =
    no-lot _ _ (passed (goal.at.returns-then-not-is_seated c).In_ok-first) c.if-s-ge-SEATS.false (sym c.is_seated.ensures ∙ c.if-not-is_seated.true)

pub is_settled-requires : goal.is_settled-requires
is_settled-requires c = ((passed (goal.at.is_settled-requires c).In_ok-first).fine, c.in_ok-first.ensures.first)

pub returns-then-not-is_settled : goal.returns-then-not-is_settled
unfolding number_of
returns-then-not-is_settled c =
    waits _ _ (passed (goal.at.returns-then-not-is_settled c).In_ok-first) c.if-s-ge-SEATS.false (sym c.is_seated.ensures ∙ c.if-not-is_seated.false)
    (sym c.is_settled.ensures ∙ c.if-not-is_settled.true)

pub returns : goal.returns
unfolding number_of
returns c =
    answers _ _ (passed (goal.at.returns c).In_ok-first) c.if-s-ge-SEATS.false (sym c.is_seated.ensures ∙ c.if-not-is_seated.false)
    (sym c.is_settled.ensures ∙ c.if-not-is_settled.false)
