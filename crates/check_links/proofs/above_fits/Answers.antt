-- `check_links::above_fits` meets its contract. Assumes nothing.
use mathlib.Core.Path.{sym, ap, ◌∙◌}
use borrow.Author.Rules.{rules}
use Rattle.graph.specs.Side.{right}
use Rattle.record.specs.Meaning.{link_of}
use Rattle.record.proofs.Links.{link-read}
use Rattle.check_links.proofs.Runs.{above-byte, above-none, above-some}
use Rattle.check_links.proofs.Whole.{above-near}
use Rattle.check_links.proofs.above_fits.Goals as goal

pub returns-then-link-y : goal.returns-then-link-y
returns-then-link-y c =
    let a = c.args in
    let up = above-byte a.rec.now a.x a.k c.link-y.result c.requires.1 c.requires.2 c.link-y.ensures in
    let near = link-read a.rec.now a.x a.k right c.link.result c.requires.1 (search rules) c.link.ensures ∙ ap link_of c.if-link-y.true in
    sym (above-near a.rec.now (search rules) (λ j. search rules) c.requires.0 a.x a.k _ up near)

pub returns-in-Some : goal.returns-in-Some
returns-in-Some c =
    above-some _ c.args.x c.args.k c.link-y.result c.requires.1 c.requires.2 c.link-y.ensures c.in-Some.z c.in-Some.ensures.seat c.in-Some.ensures.lot

pub returns-in-None : goal.returns-in-None
returns-in-None c = above-none _ c.args.x c.args.k c.link-y.result c.requires.1 c.requires.2 c.link-y.ensures c.in-None.ensures.lot
