-- `clearing::carry_out` meets its contract. Assumes nothing.
use mathlib.Core.Path.{sym, ◌∙◌}
use Rattle.clearing.proofs.Leaving.{any-bytes}
use Rattle.clearing.proofs.Accepted.{turn-ended, turn-begun, turn-nothing, phase-open, phase-clearing}
use Rattle.clearing.proofs.carry_out.Goals as goal

pub returns-then-is_clearing : goal.returns-then-is_clearing
returns-then-is_clearing c = λ M f e.
    c.end_clearing.ensures M f e ∙ turn-ended M (phase-clearing M e (sym c.is_clearing.ensures ∙ c.if-is_clearing.true))

pub returns-then-has_leaver : goal.returns-then-has_leaver
returns-then-has_leaver c = λ M f e.
    c.begin_clearing.ensures M f e
    ∙ turn-begun M (phase-open M e (sym c.is_clearing.ensures ∙ c.if-is_clearing.false))
    (sym (any-bytes M e) ∙ sym c.has_leaver.ensures ∙ c.if-has_leaver.true)

pub returns-else-has_leaver : goal.returns-else-has_leaver
returns-else-has_leaver c = λ M f e.
    e
    ∙ turn-nothing M (phase-open M e (sym c.is_clearing.ensures ∙ c.if-is_clearing.false))
    (sym (any-bytes M e) ∙ sym c.has_leaver.ensures ∙ c.if-has_leaver.false)
