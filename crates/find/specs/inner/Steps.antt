-- What the inner functions of find promise: a step of the walk, the walk from where it stands, and the left steps. Assumes nothing.
use Rattle.std.specs.Prelude.{ℕ, ◌+◌, ◌*◌, ◌^◌, ◌<◌, ◌≡◌, Bool, List, T, Option, None, Some, length}
use Rattle.graph.specs.Side.{left}
use Rattle.graph.specs.Vector.{width}
use Rattle.protocol.specs.State.{seated, stays}
use Rattle.record.specs.Layout.{seats, levels}
use Rattle.record.specs.Meaning.{seats_in, meaning}
use Rattle.search.specs.Walk.{Step, move, drop, last_of, printable}
use Rattle.search.specs.inner.Ordered.{Ordered, rank}
use Rattle.search.specs.inner.Search.{Search, gap, Leftward}
use Rattle.find.specs.declared.Walk.{Walk}

-- a seat to move to, or else a drop
abbrev pub as_step : Option ℕ → Step
as_step None = drop
as_step (Some y) = move y

-- bytes on which a walk ends: every sound record
abbrev pub Fit : List ℕ → Type 0
Fit l = Ordered seats width (seated (seats_in l)) (seats_in l).number (meaning l).link

-- how far the walk is from the scanned number x
abbrev pub far : List ℕ → ℕ → Walk → ℕ
far l x w = gap ((seats_in l).number w.seat) x

-- the falling number: the remaining distance and the level
abbrev pub remains : List ℕ → ℕ → Walk → ℕ
remains l x w = far l x w * levels + w.level

pub record Ready (l : List ℕ) (x : ℕ) (w : Walk) : Type 0 where
  pub fit : Fit l
  pub lot : T (seated (seats_in l) w.seat)
  pub level : w.level < levels
  pub room : w.hops + far l x w < 2 ^ 64

-- from w to r by the lots of a path, each one hop
pub record Went (path : List ℕ) (w r : Walk) : Type 0 where
  pub seat : r.seat ≡ last_of w.seat path
  pub hops : r.hops ≡ w.hops + length path

-- the walk from w ends at r
pub record Walked (l : List ℕ) (x : ℕ) (w r : Walk) : Type 0 where
  pub path : List ℕ
  pub search : Search (seats_in l).number (meaning l).link x w.seat w.level path
  pub went : Went path w r

-- how many seated lots lie left of where the walk stands
abbrev pub left_of : List ℕ → Walk → ℕ
left_of l w = rank seats (seated (seats_in l)) (seats_in l).number left w.seat

-- the walk can take left steps
pub record ReadyLeft (l : List ℕ) (w : Walk) : Type 0 where
  pub fit : Fit l
  pub lot : T (seated (seats_in l) w.seat)
  pub room : w.hops + left_of l w < 2 ^ 64

-- left steps from w to the first staying lot, or as far as they lead, end at r
pub record WentLeft (l : List ℕ) (w r : Walk) : Type 0 where
  pub path : List ℕ
  pub leftward : Leftward (stays (seats_in l)) (meaning l).link ((meaning l).link w.seat 0 left) path
  pub went : Went path w r

-- the lot on seat s may be printed on a label for x
abbrev pub prints : List ℕ → (x s : ℕ) → Bool
prints l x s = printable (stays (seats_in l)) (seats_in l).number x s
