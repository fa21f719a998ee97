-- `deliver_rest` meets its contract: before each turn what is left to deliver comes to the same bytes, and the messages that are left fall. Assumes
-- nothing.
use mathlib.Core.Path.{◌≡◌}
use lib.ListN.{length}
use Rattle.memory.specs.Bytes.{AreBytes}
use Rattle.program.specs.Line.{settled}
use Rattle.lines.proofs.settle.deliver_rest.Given as goal

abbrev pub invariant-loop : goal.invariant-loop
invariant-loop l = ((settled l.rec).after ≡ (settled l.initial.rec).after) × AreBytes l.rec × (length l.rec ≡ length l.initial.rec)

abbrev pub decreases-loop : goal.decreases-loop
decreases-loop l = (settled l.rec).delivered
