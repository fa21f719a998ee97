-- `messages::none_place` meets its contract. Assumes nothing.
use native.Mathlib.Omega.{arith}
use Rattle.protocol.specs.Numbering.{place}
use Rattle.graph.specs.inner.Code.{as_side}
use Rattle.protocol.proofs.Numbering.{side_number-lt}
use Rattle.messages.proofs.none_place.Goals as goal

pub returns : goal.returns
unfolding place
returns c =
    let h = side_number-lt (as_side c.args.side) in
    (omega (arith, c.side_place.ensures), omega (arith, c.side_place.ensures, h))
