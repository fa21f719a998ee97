-- `check_links::bit_of` meets its contract. Assumes nothing.
use mathlib.Core.Path.{ap, ◌∙◌}
use borrow.Author.Rules.{rules}
use Rattle.base.specs.Loops.{one_if}
use Rattle.base.proofs.Count.{one-if}
use Rattle.graph.specs.Vector.{width, bit}
use Rattle.record.proofs.SeatBytes.{vector-bytes}
use Rattle.check_links.proofs.bit_of.Goals as goal

pub returns : goal.returns
returns c = let s = c.args in
    one-if c.bit.result c.bit.ensures.1
    ∙ ap one_if (c.bit.ensures.0 ∙ ap (bit width s.k) c.vector.ensures)
    ∙ rw (vector-bytes s.rec.now s.s (search rules))
