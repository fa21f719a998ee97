-- A settled record (document 01, "Find"): phase open, nothing pending, and the check says yes. The check says yes of no record that it
-- refuses, so a settled record has the stated size and is sound. Assumes nothing.
use Rattle.std.specs.Prelude.{ℕ, Bool, not, ◌&&◌, List}
use Rattle.graph.specs.Vector.{width}
use Rattle.protocol.specs.Numbering.{some_pending}
use Rattle.protocol.specs.State.{is_clearing}
use Rattle.record.specs.Layout.{seats}
use Rattle.record.specs.Meaning.{seats_in, meaning}
use Rattle.check_links.specs.Check.{check_in}

unfoldable pub settled : List ℕ → Bool
settled l = not (is_clearing (seats_in l).phase) && (not (some_pending seats width (meaning l).pending) && (check_in l).yes)
