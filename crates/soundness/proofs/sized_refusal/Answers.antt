-- `soundness::sized_refusal` meets its contract. Assumes nothing.
use mathlib.Core.Path.{sym, ◌∙◌}
use borrow.Author.Rules.{rules}
use Rattle.record.specs.Answer.{number_of}
use Rattle.soundness.proofs.Refusal.{entries-fail, messages-fail, both-pass}
use Rattle.soundness.proofs.sized_refusal.Goals as goal
use Rattle.soundness.proofs.sized_refusal.Goals.{else-entries_fit-via-then-entries_fit+else-messages_fit, else-entries_fit-via-else-entries_fit}

pub returns-then-messages_fit : goal.returns-then-messages_fit
unfolding number_of
returns-then-messages_fit c =
    both-pass _ (search rules) (sym c.entries_fit.ensures ∙ c.if-entries_fit.true) (sym c.messages_fit.ensures ∙ c.if-messages_fit.true)

pub returns-else-entries_fit : goal.returns-else-entries_fit
unfolding number_of
returns-else-entries_fit c = elim c.else-entries_fit.branch [
  | else-entries_fit-via-then-entries_fit+else-messages_fit w ↦
      messages-fail _ (search rules) (sym c.entries_fit.ensures ∙ w.if-entries_fit.true) (sym w.messages_fit.ensures ∙ w.if-messages_fit.false)
  | else-entries_fit-via-else-entries_fit w ↦ entries-fail _ (search rules) (sym c.entries_fit.ensures ∙ w.if-entries_fit.false)
]
