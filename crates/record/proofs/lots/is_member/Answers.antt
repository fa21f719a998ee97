-- `record::lots::is_member` meets its contract. Assumes nothing.
use mathlib.Core.Path.{sym, ◌∙◌}
use Rattle.protocol.specs.State.{member}
use Rattle.record.proofs.lots.is_member.Goals as goal

pub returns-then-is_clearing : goal.returns-then-is_clearing
unfolding member
returns-then-is_clearing c = rw (sym c.is_clearing.ensures ∙ c.if-is_clearing.true) c.is_staying.ensures

pub returns-else-is_clearing : goal.returns-else-is_clearing
unfolding member
returns-else-is_clearing c = rw (sym c.is_clearing.ensures ∙ c.if-is_clearing.false) c.is_seated.ensures
