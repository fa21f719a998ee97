-- `record::lots::no_links` meets its contract. Assumes nothing.
use mathlib.Core.Path.{◌∙◌}
use Rattle.record.proofs.Bare.{links-full}
use Rattle.record.proofs.lots.no_links.Goals as goal

pub returns : goal.returns
returns c = let s = c.args in
    c.full_run.ensures ∙ links-full s.rec.now s.s
