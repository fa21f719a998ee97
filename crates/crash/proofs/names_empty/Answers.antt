-- `crash::names_empty` meets its contract. Assumes nothing.
use borrow.Author.Rules.{rules}
use borrow.Author.Tests.{tests}
use Rattle.base.proofs.Ranges.{any-over}
use Rattle.crash.proofs.names_empty.Goals as goal

pub returns : goal.returns
returns c = any-over _ _ _ _ c.any.result c.any.ensures.ran (λ x b q k. search (rules, tests))
