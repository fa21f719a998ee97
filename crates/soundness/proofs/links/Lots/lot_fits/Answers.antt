-- `soundness::links::Lots::lot_fits` meets its contract. Assumes nothing.
use borrow.Author.Rules.{rules}
use borrow.Author.Tests.{tests}
use Rattle.base.proofs.Ranges.{all-over}
use Rattle.soundness.proofs.links.Lots.lot_fits.Goals as goal

pub returns : goal.returns
returns c = all-over _ _ _ _ c.all.result c.all.ensures.ran (λ x b q k. search (rules, tests))
