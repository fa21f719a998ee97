-- `check_links::check` meets its contract. Assumes nothing.
use Rattle.check_links.proofs.Whole.{refused-answer, answered-sound, answer}
use Rattle.check_links.proofs.check.Goals as goal

pub returns-in_err-rec : goal.returns-in_err-rec
returns-in_err-rec c = refused-answer _ _ c.from_residual.result _ c.from_residual.ensures.1 c.in_err-rec.ensures.refused

pub links_fit-requires : goal.links_fit-requires
links_fit-requires c = rw c.in_ok-rec.ensures.same (answered-sound _ _ c.in_ok-rec.ensures.refused)

pub returns : goal.returns
returns c = answer _ _ c.in_ok-rec.ensures.refused (rw c.in_ok-rec.ensures.same at c.links_fit.ensures)
