-- `check_links::ahead` meets its contract. The loop's invariant: the run from y on, of the lots that are left, finds what the whole run finds.
-- Assumes nothing.
use Prim.Native.Nat.{◌-◌, ◌≤◌, ◌<◌}
use mathlib.Core.Path.{◌≡◌}
use mathlib.Core.Option.{some}
use Rattle.graph.specs.Vector.{width, bit}
use Rattle.record.specs.Layout.{seats}
use Rattle.record.specs.Meaning.{seats_in, meaning}
use Rattle.search.specs.inner.LinkCheck.{ahead_of}
use Rattle.check_links.proofs.Runs.{run_of}
use Rattle.check_links.specs.Check.{members_in}
use Rattle.check_links.proofs.ahead.Given as goal

abbrev pub invariant-loop : goal.invariant-loop
invariant-loop l = (l.counter ≤ seats)
    × (l.y < seats)
    × (run_of l.rec l.k (bit width l.k ((seats_in l.rec).vector l.x)) (seats - l.counter) (some l.y)
    ≡ ahead_of seats width (members_in l.rec) (meaning l.rec).link l.x l.k)

abbrev pub decreases-loop : goal.decreases-loop
decreases-loop l = seats - l.counter
