-- `graph::bit` meets its contract. Assumes nothing.
use Prim.Native.Nat.{◌-◌, suc}
use mathlib.Core.Path.{◌≡◌}
use native.Mathlib.Omega.{arith}
use Rattle.graph.specs.Vector.{bit, width}
use Rattle.graph.proofs.bit.Goals as goal

pub returns : goal.returns
unfolding bit
returns c = let e : width - 1 - c.args.k ≡ width - suc c.args.k = omega arith in
    (rw (c.from.ensures, e), omega arith)
