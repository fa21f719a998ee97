-- `check_links::seated_is_member` meets its contract. Assumes nothing.
use Rattle.check_links.proofs.Parts.{open-member, clearing-member}
use Rattle.check_links.proofs.seated_is_member.Goals as goal

pub returns-then-not-is_clearing : goal.returns-then-not-is_clearing
returns-then-not-is_clearing c = open-member _ _ c.requires.1 c.is_clearing.ensures c.if-not-is_clearing.true

pub returns-else-not-is_clearing : goal.returns-else-not-is_clearing
returns-else-not-is_clearing c = clearing-member _ _ c.is_clearing.ensures c.if-not-is_clearing.false c.is_staying.ensures
