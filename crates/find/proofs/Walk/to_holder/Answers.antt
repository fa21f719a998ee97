-- `Walk::to_holder` meets its contract. Assumes nothing.
use mathlib.Core.Path.{sym, ◌∙◌}
use Rattle.find.proofs.Leftward.{stays-there, goes_on}
use Rattle.find.proofs.Walk.to_holder.Goals as goal

pub returns-then-is_printable : goal.returns-then-is_printable
returns-then-is_printable c =
    stays-there c.requires _ (sym c.is_printable.ensures ∙ c.if-is_printable.true)

pub returns : goal.returns
returns c =
    goes_on c.requires _ (sym c.is_printable.ensures ∙ c.if-is_printable.false) c.leftward.result c.leftward.ensures
