-- `check_links::back_fits` meets its contract. Assumes nothing.
use mathlib.Core.Path.{sym, ◌∙◌}
use borrow.Author.Rules.{rules}
use Rattle.base.proofs.Stops.{and-stop, and-go}
use Rattle.check_links.proofs.Parts.{back_none, back_some, back_same}
use Rattle.check_links.proofs.Whole.{link-seated}
use Rattle.check_links.proofs.back_fits.Goals as goal

pub seated_is_member-requires : goal.seated_is_member-requires
seated_is_member-requires c =
    (c.in-Some.ensures.seat, link-seated _ (search rules) (λ j. search rules) c.requires.0 _ _ _ _ c.in-Some.ensures.link)

pub returns-then-seated_is_member : goal.returns-then-seated_is_member
returns-then-seated_is_member c =
    let z = c.link-then-seated_is_member in
    and-go c.seated_is_member.ensures c.if-seated_is_member.true
    (back_same _ _ _ _ c.in-Some.y z.result c.requires.1 c.in-Some.ensures.seat c.requires.2 c.opposite.ensures z.ensures)
    ∙ sym (back_some _ _ _ _ c.in-Some.y c.in-Some.ensures.link)

pub returns-else-seated_is_member : goal.returns-else-seated_is_member
returns-else-seated_is_member c =
    and-stop _ c.seated_is_member.ensures c.if-seated_is_member.false ∙ sym (back_some _ _ _ _ c.in-Some.y c.in-Some.ensures.link)

pub returns-in-None : goal.returns-in-None
returns-in-None c = back_none _ _ _ _ c.in-None.ensures.link
