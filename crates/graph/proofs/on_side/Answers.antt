-- `graph::on_side` meets its contract. Assumes nothing.
use Rattle.graph.specs.Side.{on_side}
use Rattle.graph.proofs.on_side.Goals as goal

pub returns-in-Left : goal.returns-in-Left
unfolding on_side
returns-in-Left c = rw c.in-Left.is

pub returns-in-Right : goal.returns-in-Right
unfolding on_side
returns-in-Right c = rw c.in-Right.is
