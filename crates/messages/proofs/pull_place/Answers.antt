-- `messages::pull_place` meets its contract. Assumes nothing.
use native.Mathlib.Omega.{arith}
use borrow.Author.Rules.{rules}
use Rattle.protocol.specs.Numbering.{place}
use Rattle.graph.specs.inner.Code.{as_side}
use Rattle.protocol.proofs.Numbering.{side_number-lt}
use Rattle.messages.proofs.Named.{bit_number-bit}
use Rattle.messages.proofs.pull_place.Goals as goal

pub returns : goal.returns
unfolding place
returns c =
    let h = side_number-lt (as_side c.args.side) in
    (rw (bit_number-bit c.args.want (search rules)) (omega (arith, c.from.ensures)), omega (arith, c.from.ensures, h))
