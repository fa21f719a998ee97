-- `check_links::lot_backs_fit` meets its contract. Assumes nothing.
use borrow.Author.Rules.{rules}
use borrow.Author.Tests.{tests}
use Rattle.search.specs.inner.LinkCheck.{lot_backs}
use Rattle.base.proofs.Ranges.{all-over}
use Rattle.check_links.proofs.Parts.{when-out, when-in}
use Rattle.check_links.proofs.lot_backs_fit.Goals as goal

pub returns-then-not-is_member : goal.returns-then-not-is_member
unfolding lot_backs
returns-then-not-is_member c = when-out _ c.is_member.ensures c.if-not-is_member.true

pub returns-else-not-is_member : goal.returns-else-not-is_member
unfolding lot_backs
returns-else-not-is_member c =
    when-in c.is_member.ensures c.if-not-is_member.false (all-over _ _ _ _ c.all.result c.all.ensures.ran (λ k b q h. search (rules, tests)))
