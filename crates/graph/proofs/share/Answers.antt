-- `graph::share` meets its contract: the leading zeros of the exclusive or are the shared bits, at most the width.
-- Assumes nothing.
use borrow.Author.Rules.{rules}
use native.Mathlib.Omega.{arith}
use lib.Bits.{bit_xor}
use lib.Count.{leading_le}
use Rattle.graph.specs.Vector.{width}
use Rattle.graph.proofs.Leading.{leading-shared}
use Rattle.graph.proofs.share.Goals as goal

pub returns : goal.returns
returns c =
    let a = c.args.a in
    let b = c.args.b in
    omega (arith, leading_le width (bit_xor a b), leading-shared width a b (search rules) (search rules))
