-- `soundness::pending::pair_message_fits` meets its contract: the level of a PROBE is below the width. Assumes nothing.
use mathlib.Core.Path.{ap}
use mathlib.Core.Bool.{not}
use borrow.Author.Tests.{lt-ltb}
use Rattle.graph.specs.Vector.{width}
use Rattle.protocol.specs.Sound.{message_ok}
use Rattle.base.proofs.Stops.{and-stop, and-go, and_last}
use Rattle.soundness.proofs.pending.pair_message_fits.Goals as goal

pub returns-then-not-is_clearing : goal.returns-then-not-is_clearing
unfolding message_ok
returns-then-not-is_clearing c =
    let unturned = ap not c.is_clearing.ensures in
    let goes = ap not c.if-not-is_clearing.true in record {
      meet = and-go unturned goes c.pair_fits.ensures;
      probe = λ h. and-go unturned goes (and_last c.pair_fits.ensures (lt-ltb c.args.level width h));
    }

pub returns-else-not-is_clearing : goal.returns-else-not-is_clearing
unfolding message_ok
returns-else-not-is_clearing c =
    let clears = ap not c.is_clearing.ensures in
    let stops = ap not c.if-not-is_clearing.false in
    record { meet = and-stop _ clears stops; probe = λ h. and-stop _ clears stops }
