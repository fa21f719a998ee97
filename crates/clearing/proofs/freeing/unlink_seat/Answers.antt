-- `clearing::freeing::unlink_seat` meets its contract: a seat without links has none to make none. Assumes nothing.
use mathlib.Core.Path.{sym, ◌∙◌}
use Rattle.clearing.proofs.Unlinking.{unlinked-seat}
use Rattle.clearing.proofs.freeing.unlink_seat.Goals as goal

pub returns-else-not-no_links : goal.returns-else-not-no_links
returns-else-not-no_links c = λ M f e.
    let a = c.args in
    unlinked-seat a.set a.x c.requires M f a.rec.now (sym c.no_links.ensures ∙ c.if-not-no_links.false) e
