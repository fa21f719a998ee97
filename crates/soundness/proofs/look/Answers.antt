-- `soundness::look` meets its contract. Assumes nothing.
use mathlib.Core.Path.{◌∙◌}
use Rattle.record.specs.Answer.{number_of}
use Rattle.record.proofs.Answered.{refusal-on}
use Rattle.record.proofs.Refused.{wrong_size_lem}
use Rattle.messages.proofs.First.{none-before-first, place-found}
use Rattle.soundness.proofs.look.Goals as goal

pub returns-in_default-clause-refused : goal.returns-in_default-clause-refused
unfolding number_of
returns-in_default-clause-refused c = wrong_size_lem _ c.in_default.ensures.cases

pub sized_refusal-requires : goal.sized_refusal-requires
sized_refusal-requires c = none-before-first _ (c.unwrap_or.ensures ∙ place-found _ c.first_pending-first.ensures)

pub returns-in_err-sized_refusal-clause-refused : goal.returns-in_err-sized_refusal-clause-refused
returns-in_err-sized_refusal-clause-refused c =
    rw (← c.in-Some.ensures.cases.same) (refusal-on _ c.from_residual.result _ c.from_residual.ensures.1 c.in_err-sized_refusal.ensures)

pub returns-clause-refused : goal.returns-clause-refused
unfolding number_of
returns-clause-refused c = rw (← c.in-Some.ensures.cases.same) c.in_ok-sized_refusal.ensures
