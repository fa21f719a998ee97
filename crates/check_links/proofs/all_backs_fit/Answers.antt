-- `check_links::all_backs_fit` meets its contract. Assumes nothing.
use borrow.Author.Rules.{rules}
use borrow.Author.Tests.{tests}
use Rattle.base.proofs.Ranges.{all-over}
use Rattle.check_links.proofs.all_backs_fit.Goals as goal

pub returns : goal.returns
returns c = all-over _ _ _ _ c.all.result c.all.ensures.ran (λ x b q h. search (rules, tests))
