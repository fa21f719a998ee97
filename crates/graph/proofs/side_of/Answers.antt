-- `graph::side_of` meets its contract. Assumes nothing.
use borrow.Author.Tests.{lt-ltb, le-ltb}
use Rattle.graph.specs.Side.{side_of}
use Rattle.graph.proofs.side_of.Goals as goal

pub returns-then-a-b : goal.returns-then-a-b
unfolding side_of
returns-then-a-b c = rw (lt-ltb c.args.a c.args.b c.if-a-b.true)

pub returns-else-a-b : goal.returns-else-a-b
unfolding side_of
returns-else-a-b c = rw (le-ltb c.args.a c.args.b c.if-a-b.false)
