-- `crash::introduce_seat` meets its contract: a seat without links has nobody to introduce. Assumes nothing.
use mathlib.Core.Path.{sym, ◌∙◌}
use Rattle.crash.proofs.Introducing.{introduce-bare}
use Rattle.crash.proofs.introduce_seat.Goals as goal

pub returns-else-not-no_links : goal.returns-else-not-no_links
returns-else-not-no_links c = λ M f e. introduce-bare M f c.args.x c.requires e (sym c.no_links.ensures ∙ c.if-not-no_links.false)
