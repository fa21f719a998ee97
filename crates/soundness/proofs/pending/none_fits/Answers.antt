-- `soundness::pending::none_fits` meets its contract: its level is at most the width. Assumes nothing.
use borrow.Author.Rules.{rules}
use borrow.Author.Tests.{le-leb}
use Rattle.graph.specs.Vector.{width}
use Rattle.protocol.specs.Sound.{message_ok}
use Rattle.base.proofs.Stops.{and-stop, and-go, and_last}
use Rattle.soundness.proofs.pending.none_fits.Goals as goal

pub returns-then-is_clearing : goal.returns-then-is_clearing
unfolding message_ok
returns-then-is_clearing c = let s = c.args in
    λ d. and-go c.is_clearing.ensures c.if-is_clearing.true
    (and_last c.is_staying.ensures (le-leb s.level width (search rules)))

pub returns-else-is_clearing : goal.returns-else-is_clearing
unfolding message_ok
returns-else-is_clearing c = λ d. and-stop _ c.is_clearing.ensures c.if-is_clearing.false
