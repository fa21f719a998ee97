-- `soundness::pending::found_fits` meets its contract. Assumes nothing.
use Rattle.protocol.specs.Sound.{message_ok}
use Rattle.base.proofs.Stops.{and-stop, and-go}
use Rattle.soundness.proofs.pending.found_fits.Goals as goal

pub returns-then-is_staying : goal.returns-then-is_staying
unfolding message_ok
returns-then-is_staying c = and-go c.is_clearing.ensures c.if-is_clearing.true
    (and-go c.pair_fits.ensures c.if-pair_fits.true
    (and-go c.is_staying.ensures c.if-is_staying.true c.is_staying-then-is_staying.ensures))

pub returns-else-is_staying : goal.returns-else-is_staying
unfolding message_ok
returns-else-is_staying c = and-go c.is_clearing.ensures c.if-is_clearing.true
    (and-go c.pair_fits.ensures c.if-pair_fits.true
    (and-stop _ c.is_staying.ensures c.if-is_staying.false))

pub returns-else-pair_fits : goal.returns-else-pair_fits
unfolding message_ok
returns-else-pair_fits c = and-go c.is_clearing.ensures c.if-is_clearing.true
    (and-stop _ c.pair_fits.ensures c.if-pair_fits.false)

pub returns-else-is_clearing : goal.returns-else-is_clearing
unfolding message_ok
returns-else-is_clearing c = and-stop _ c.is_clearing.ensures c.if-is_clearing.false
