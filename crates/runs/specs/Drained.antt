-- What a crash comes to once it is drained by deliveries alone, in a record made by the calls (document 02, #106). Assumes nothing.
use Rattle.std.specs.Prelude.{ℕ, ◌≡◌, ◌↔◌, List, T}
use Rattle.graph.specs.Vector.{width}
use Rattle.graph.specs.Graph.{IsGraph}
use Rattle.graph.specs.Constraints.{Joined}
use Rattle.protocol.specs.Message.{Name}
use Rattle.protocol.specs.State.{member, members}
use Rattle.protocol.specs.Calls.{Call, crash}
use Rattle.protocol.specs.Bundle.{Item, left_by}
use Rattle.record.specs.Layout.{seats}
use Rattle.record.specs.Meaning.{seats_in, meaning}
use Rattle.record.specs.Reading.{open_refusal, read_counts}
use Rattle.record.specs.Call.{called}
use Rattle.check_links.specs.Check.{components_in, members_in}
use Rattle.runs.specs.Typed.{IsU64, AllTyped}
use Rattle.runs.specs.Run.{list_run}

-- the bytes l that a crash left, and the bytes m that are drained
pub record Drained (l m : List ℕ) : Type 0 where
  -- the lots are the same
  pub lots : seats_in m ≡ seats_in l
  -- each component that the call left is the skip graph of its own lots
  pub graph : IsGraph seats width (members (components_in l) (seats_in m)) (meaning m).link
  -- and the components by the links are exactly those that the call left
  pub components : (x y : ℕ) → T (member (seats_in m) x) → T (member (seats_in m) y)
      → Joined width (members_in m) (meaning m).link x y ↔ Joined width (members_in l) (meaning l).link x y

-- after every list of calls and bundles, a crash that is accepted, and any deliveries that leave nothing pending
pub record CrashDrains : Type 0 where
  pub after : (l : List ℕ) → open_refusal l ≡ 0 → (is : List (Item Call)) → AllTyped is → (set : ℕ) → IsU64 set
      → (called (list_run l is).now (crash set)).refused ≡ 0 → (ns : List Name)
      → let left = (called (list_run l is).now (crash set)).after in
      (read_counts (left_by called left ns)).pending ≡ 0 → Drained left (left_by called left ns)
