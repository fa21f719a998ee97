-- `record::lots::pair_fits` meets its contract: a way through the test for each return. Assumes nothing.
use mathlib.Core.Path.{◌≡◌, refl, ap}
use mathlib.Core.Bool.{Bool, not, ◌&&◌}
use borrow.Author.Tests.{eq-eqb, ne_eqb}
use Rattle.protocol.specs.State.{seated}
use Rattle.protocol.specs.Sound.{pair_ok}
use Rattle.record.specs.Meaning.{seats_in}
use Rattle.base.proofs.Stops.{and-stop, and-go}
use Rattle.record.proofs.lots.pair_fits.Goals as goal
use Rattle.record.proofs.lots.pair_fits.Goals.{Then-is_seated-2}

-- both are seated, and the rest of the test answers s
seated-go : (c : Then-is_seated-2) {s b : Bool} → let r = c.args in
    s ≡ b → s ≡ seated (seats_in r.rec.now) r.x && (seated (seats_in r.rec.now) r.y && b)
seated-go c h = and-go c.is_seated.ensures c.if-is_seated.true
    (and-go c.is_seated-then-is_seated.ensures c.if-is_seated-2.true h)

pub returns-then-x-y : goal.returns-then-x-y
unfolding pair_ok
returns-then-x-y c = seated-go (goal.at.returns-then-x-y c).Then-is_seated-2 (and-go refl (ap not (ne_eqb _ _ c.if-x-y.true)) c.shares.ensures)

pub returns-else-x-y : goal.returns-else-x-y
unfolding pair_ok
returns-else-x-y c = seated-go (goal.at.returns-else-x-y c).Then-is_seated-2 (and-stop _ refl (ap not (eq-eqb _ _ c.if-x-y.false)))

pub returns-else-is_seated-2 : goal.returns-else-is_seated-2
unfolding pair_ok
returns-else-is_seated-2 c = and-go c.is_seated.ensures c.if-is_seated.true
    (and-stop _ c.is_seated-then-is_seated.ensures c.if-is_seated-2.false)

pub returns-else-is_seated : goal.returns-else-is_seated
unfolding pair_ok
returns-else-is_seated c = and-stop _ c.is_seated.ensures c.if-is_seated.false
