-- `bits` meets its contract: before each turn the digits that are left. Assumes nothing.
use Rattle.std.proofs.Common.{◌≡◌, ◌-◌}
use Rattle.graph.specs.Vector.{width}
use Rattle.listing.proofs.Steps.{digits_from}
use Rattle.text.specs.inner.Written.{written}
use Rattle.answers.proofs.lists.bits.Given as goal

abbrev pub invariant-loop-j : goal.invariant-loop-j
invariant-loop-j l =
    written l.initial.w (digits_from width l.vector l.k 0) ≡ written l.w (digits_from width l.vector (l.k - l.j) l.j)
