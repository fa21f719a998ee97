-- What a merge comes to once nothing is pending, in a record made by the calls (document 02, #107). Assumes nothing.
use Rattle.std.specs.Prelude.{ℕ, ◌≡◌, ◌↔◌, List, [], ◌∷◌, ◌++◌, T}
use Rattle.graph.specs.Vector.{width}
use Rattle.graph.specs.Graph.{IsGraph}
use Rattle.graph.specs.Constraints.{Joined}
use Rattle.protocol.specs.Message.{Name}
use Rattle.protocol.specs.State.{seated, member}
use Rattle.protocol.specs.Calls.{Call, join, reserve, confirm, give_back, leave, deliver, turn, crash, merge}
use Rattle.protocol.specs.Tied.{Uniting}
use Rattle.protocol.specs.Bundle.{Item, one, bundle, left_by}
use Rattle.record.specs.Layout.{seats}
use Rattle.record.specs.Meaning.{seats_in, meaning}
use Rattle.record.specs.Reading.{open_refusal, read_counts}
use Rattle.record.specs.Call.{called}
use Rattle.check_links.specs.Check.{members_in}
use Rattle.runs.specs.Typed.{IsU8, AllTyped}
use Rattle.runs.specs.Tied.{TiedIn}
use Rattle.runs.specs.Run.{list_run}

-- the bytes l before a merge of a and b, and the bytes m that are drained after it
pub record Merged (l m : List ℕ) (a b : ℕ) : Type 0 where
  -- the lots are the same
  pub lots : seats_in m ≡ seats_in l
  -- each component by the links is the skip graph of its own lots
  pub graph : IsGraph seats width (members_in m) (meaning m).link
  -- and the components are those that links and pending MEETs made before, but that the two are one
  pub components : (x y : ℕ) → T (member (seats_in m) x) → T (member (seats_in m) y)
      → Joined width (members_in m) (meaning m).link x y ↔ Uniting a b (TiedIn l) x y

-- the same with other calls between: what was in the two components is in one
pub record MergedAmong (l m : List ℕ) (a b : ℕ) : Type 0 where
  pub graph : IsGraph seats width (members_in m) (meaning m).link
  pub joined : (x y : ℕ) → T (seated (seats_in l) x) → T (seated (seats_in l) y) → Uniting a b (TiedIn l) x y
      → Joined width (members_in m) (meaning m).link x y

-- every call but those that free lots' seats: turn and crash, which are refused until nothing is pending
abbrev pub KeepsLots : Call → Type 0
KeepsLots (join s n v c) = Unit {0}
KeepsLots (reserve s n v) = Unit {0}
KeepsLots (confirm s c) = Unit {0}
KeepsLots (give_back s) = Unit {0}
KeepsLots (leave s) = Unit {0}
KeepsLots (deliver n) = Unit {0}
KeepsLots turn = ⊥
KeepsLots (crash set) = ⊥
KeepsLots (merge a b) = Unit {0}

abbrev pub AllKeepLots : List (Item Call) → Type 0
AllKeepLots [] = Unit {0}
AllKeepLots (one c ∷ is) = KeepsLots c × AllKeepLots is
AllKeepLots (bundle n ∷ is) = AllKeepLots is

-- after every list of calls and bundles, a merge that is accepted
module _ (l : List ℕ) (is : List (Item Call)) (a b : ℕ) where
  -- the bytes before it, and those that it leaves
  abbrev pub before : List ℕ
  before = (list_run l is).now

  abbrev pub sent : List ℕ
  sent = (called (list_run l is).now (merge a b)).after

  pub record MergeDrains : Type 0 where
    -- drained by deliveries alone
    pub drained : (ns : List Name) → (read_counts (left_by called sent ns)).pending ≡ 0 → Merged before (left_by called sent ns) a b
    -- and inside one component: every byte ends as it would have without the call
    pub within : TiedIn before a b → (ns ks : List Name) → (read_counts (left_by called sent ns)).pending ≡ 0
        → (read_counts (left_by called before ks)).pending ≡ 0 → left_by called sent ns ≡ left_by called before ks
    -- and with other calls and bundles between
    pub among : (js : List (Item Call)) → AllTyped js → AllKeepLots js → let m = (list_run l (is ++ one (merge a b) ∷ js)).now in
        (read_counts m).pending ≡ 0 → MergedAmong before m a b

pub record EveryMerge : Type 0 where
  pub after : (l : List ℕ) → open_refusal l ≡ 0 → (is : List (Item Call)) → AllTyped is → (a b : ℕ) → IsU8 a → IsU8 b
      → (called (list_run l is).now (merge a b)).refused ≡ 0 → MergeDrains l is a b
