-- `bundle::carry_out` meets its contract: the message at a place by the block that holds it. Assumes nothing.
use mathlib.Core.Path.{refl}
use Rattle.protocol.specs.Rules.{effect}
use Rattle.protocol.specs.pages.Deliver.{rule}
use Rattle.messages.proofs.Blocks.{at_place, meet-at, probe-at, pull-at, going-at, seek-at, found_at, none-at}
use Rattle.rules.proofs.Sends.{carried-silent}
use Rattle.bundle.proofs.carry_out.Goals as goal

pub returns-then-i-lt-PROBES : goal.returns-then-i-lt-PROBES
returns-then-i-lt-PROBES c =
    rw (at_place (meet-at c.if-i-lt-PROBES.true)) c.meet.ensures

pub returns-then-i-lt-PULLS : goal.returns-then-i-lt-PULLS
returns-then-i-lt-PULLS c =
    rw (at_place (probe-at c.if-i-lt-PROBES.false c.if-i-lt-PULLS.true)) c.probe.ensures

pub returns-then-i-lt-GOINGS : goal.returns-then-i-lt-GOINGS
returns-then-i-lt-GOINGS c =
    rw (at_place (pull-at c.if-i-lt-PULLS.false c.if-i-lt-GOINGS.true)) (rw c.of_number.ensures at c.pull.ensures)

pub returns-then-i-lt-SEEKS : goal.returns-then-i-lt-SEEKS
returns-then-i-lt-SEEKS c =
    rw (at_place (going-at c.if-i-lt-GOINGS.false c.if-i-lt-SEEKS.true)) (rw c.of_number-then-i-lt-SEEKS.ensures at c.going.ensures)

pub returns-then-i-lt-FOUNDS : goal.returns-then-i-lt-FOUNDS
returns-then-i-lt-FOUNDS c =
    rw (at_place (seek-at c.if-i-lt-SEEKS.false c.if-i-lt-FOUNDS.true)) c.seek.ensures

pub returns-then-i-lt-NONES : goal.returns-then-i-lt-NONES
unfolding rule effect
returns-then-i-lt-NONES c =
    rw (at_place (found_at c.if-i-lt-FOUNDS.false c.if-i-lt-NONES.true)) (carried-silent _ _ _ _ _ refl c.found.ensures)

pub returns : goal.returns
unfolding rule effect
returns c =
    rw (at_place (none-at c.if-i-lt-NONES.false c.requires)) (carried-silent _ _ _ _ _ refl (rw c.of_number-2.ensures at c.none.ensures))
