-- `messages::meet_place` meets its contract. Assumes nothing.
use native.Mathlib.Omega.{arith}
use Rattle.protocol.specs.Numbering.{place}
use Rattle.messages.proofs.meet_place.Goals as goal

pub returns : goal.returns
unfolding place
returns c = (omega (arith, c.pair_place.ensures), omega (arith, c.pair_place.ensures))
