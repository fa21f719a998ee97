-- `check_links::links_fit` meets its contract. Assumes nothing.
use mathlib.Core.Path.{◌∙◌}
use Rattle.base.proofs.Stops.{and-stop, and-go}
use Rattle.search.specs.inner.LinkCheck.{constraints_ok}
use Rattle.check_links.proofs.Whole.{links-say}
use borrow.Author.Rules.{rules}
use Rattle.check_links.proofs.links_fit.Goals as goal

pub returns-then-all_backs_fit : goal.returns-then-all_backs_fit
unfolding constraints_ok
returns-then-all_backs_fit c =
    and-go c.all_backs_fit.ensures c.if-all_backs_fit.true c.all_aboves_fit.ensures
    ∙ links-say c.args.rec.now (search rules) (λ j. search rules) c.requires

pub returns-else-all_backs_fit : goal.returns-else-all_backs_fit
unfolding constraints_ok
returns-else-all_backs_fit c =
    and-stop _ c.all_backs_fit.ensures c.if-all_backs_fit.false
    ∙ links-say c.args.rec.now (search rules) (λ j. search rules) c.requires
