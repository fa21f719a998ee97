-- `record::state` meets its contract. Assumes nothing.
use borrow.Author.Tests.{lt-ltb}
use Rattle.record.specs.Layout.{seats}
use Rattle.record.specs.Meaning.{seats_in}
use Rattle.record.proofs.state.Goals as goal

pub returns : goal.returns
unfolding seats_in
returns c = rw (lt-ltb c.args.s seats c.requires) c.of_byte.ensures
