-- `soundness::links::Lots::link_fits` meets its contract. Assumes nothing.
use mathlib.Core.Path.{◌≡◌}
use mathlib.Core.Bool.{◌&&◌, ◌||◌}
use lib.Dec.{eqb, ltb}
use borrow.Author.Tests.{eq-eqb, ne_eqb, lt-ltb, le-ltb}
use Rattle.graph.specs.Vector.{width}
use Rattle.protocol.specs.Sound.{link_ok}
use Rattle.record.specs.Layout.{seats, no_link}
use Rattle.record.specs.Meaning.{seats_in}
use Rattle.graph.specs.inner.Code.{as_side}
use Rattle.record.specs.Sound.{link_fits}
use Rattle.soundness.proofs.LinkByte.{link-byte}
use Rattle.soundness.proofs.links.Lots.link_fits.Goals as goal
use Rattle.soundness.proofs.links.Lots.link_fits.Goals.{After-link-b}

-- the clause by the byte that was read
by_byte : (c : After-link-b) → let r = c.args in
    let b = c.link-b.result in
    let d = as_side r.d in
    link_fits r.self.now.rec.now r.x r.k d ≡ eqb b no_link || (ltb b seats && link_ok width (seats_in r.self.now.rec.now) r.x r.k d b)
by_byte c = let r = c.args in
    link-byte r.self.now.rec.now r.x r.k (as_side r.d) c.link-b.result c.link-b.ensures

pub returns-then-b : goal.returns-then-b
returns-then-b c = rw (by_byte (goal.at.returns-then-b c).After-link-b, eq-eqb _ _ c.if-b.true)

pub returns-then-y-lt-SEATS : goal.returns-then-y-lt-SEATS
returns-then-y-lt-SEATS c = rw (by_byte (goal.at.returns-then-y-lt-SEATS c).After-link-b, ne_eqb _ _ c.if-b.false, lt-ltb _ _ c.if-y-lt-SEATS.true)
    c.may_link.ensures

pub returns-else-y-lt-SEATS : goal.returns-else-y-lt-SEATS
returns-else-y-lt-SEATS c = rw (by_byte (goal.at.returns-else-y-lt-SEATS c).After-link-b, ne_eqb _ _ c.if-b.false, le-ltb _ _ c.if-y-lt-SEATS.false)
