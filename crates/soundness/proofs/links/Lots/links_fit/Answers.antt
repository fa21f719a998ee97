-- `soundness::links::Lots::links_fit` meets its contract. Those above `top` are free seats, without links. Assumes nothing.
use mathlib.Core.Path.{sym, ◌∙◌}
use borrow.Author.Rules.{rules}
use borrow.Author.Tests.{tests}
use Rattle.base.proofs.All.{all-above}
use Rattle.base.proofs.Ranges.{all-over}
use Rattle.record.specs.Layout.{seats}
use Rattle.record.specs.Sound.{links_fit}
use Rattle.soundness.proofs.LinkByte.{free-links}
use Rattle.soundness.proofs.links.Lots.links_fit.Goals as goal

pub returns : goal.returns
unfolding links_fit
returns c =
    let l = c.args.self.now.rec.now in
    all-over _ _ _ _ c.all.result c.all.ensures.ran (λ x b q k. search (rules, tests))
    ∙ all-above seats c.args.top _ c.requires.1 (λ i h g. sym (free-links l i c.requires.0 h (c.requires.2 i h g)))
