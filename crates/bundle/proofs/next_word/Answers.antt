-- `bundle::next_word` meets its contract. Assumes nothing.
use mathlib.Core.Path.{refl, sym}
use borrow.Author.Rules.{rules}
use Rattle.bundle.proofs.Ready.{noted-ready, none-below, none_left, extended, found-ready}
use Rattle.bundle.proofs.next_word.Goals as goal

pub returns-then-is_some_and : goal.returns-then-is_some_and
returns-then-is_some_and c = noted-ready _ c.requires _ c.first_by_top-noted.ensures (search rules) c.if-is_some_and.true

pub returns-in_err-i : goal.returns-in_err-i
returns-in_err-i c =
    let k = c.requires in
    let none = none-below _ k.within _ c.first_by_top-noted.ensures (search rules) c.if-is_some_and.false in
    rw c.from_residual.ensures (none_left k none (sym c.in_err-i.ensures) refl)

pub returns : goal.returns
returns c =
    let k = c.requires in
    let none = none-below _ k.within _ c.first_by_top-noted.ensures (search rules) c.if-is_some_and.false in
    let (e, h) = c.in_ok-i.ensures in
    rw (c.note.ensures.0, c.note.ensures.1) (extended k none e h, found-ready k none e h)
