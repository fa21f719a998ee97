-- `soundness::links::Lots::seat_fits` meets its contract. Assumes nothing.
use mathlib.Core.Path.{sym, ◌∙◌}
use Rattle.soundness.proofs.LinkByte.{empty-links}
use Rattle.soundness.proofs.links.Lots.seat_fits.Goals as goal

pub returns-then-not-is_seated : goal.returns-then-not-is_seated
returns-then-not-is_seated c =
    let none = sym c.is_seated.ensures ∙ c.if-not-is_seated.true in
    c.no_links.ensures ∙ sym (empty-links c.args.self.now.rec.now c.args.x none)

pub lot_fits-requires : goal.lot_fits-requires
lot_fits-requires c =
    (c.requires, sym c.is_seated.ensures ∙ c.if-not-is_seated.false)
