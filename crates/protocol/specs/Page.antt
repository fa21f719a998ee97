-- What a call's page says (document 01, "Calls" and "Refused calls"): the rows of the table that it meets, what it makes of the seats and of
-- the links, what it sends and takes, what the roster's components are after it, and that its arguments fit their types. Assumes nothing.
use Rattle.std.specs.Prelude.{ℕ, zero, suc, Bool, false, not, cond, ◌&&◌, ◌||◌, List, [], ◌++◌, eqb}
use Rattle.std.proofs.Math.Option.{Option, none, some}
use Rattle.graph.specs.Graph.{Links}
use Rattle.protocol.specs.Message.{Msg, same_msg, among}
use Rattle.protocol.specs.Rules.{SeatState}
use Rattle.protocol.specs.State.{Seats, Meaning}
use Rattle.protocol.specs.Refusals.{Row}

pub record Page : Type 1 where
  -- the rows, from the seats and the pending messages before the call
  pub rows : Seats → (Msg → Bool) → List Row
  -- if it is accepted: the seats after it, the links after it, the messages that it sends and the one that it takes away
  pub seats : Seats → Seats
  pub links : Meaning → Links
  pub sends : Meaning → List Msg
  pub takes : Option Msg
  -- and, for the roster, the component of each lot after it, from the seats and the components before it; no record holds these
  pub component : Seats → (ℕ → ℕ) → ℕ → ℕ
  -- its arguments fit their types
  pub fits : Type 0

-- the components stay
abbrev pub same_components : Seats → (ℕ → ℕ) → ℕ → ℕ
same_components r c = c

-- the lists f 0, f 1, .. below n
unfoldable pub each : ℕ → (ℕ → List Msg) → List Msg
each zero f = []
each (suc n) f = each n f ++ f n

-- f with the value a at s
unfoldable pub at : {A : Type 0} → ℕ → A → (ℕ → A) → ℕ → A
at s a f x = cond (eqb x s) a (f x)

-- the seats with another state on seat s
abbrev pub marking : (s : ℕ) → SeatState → Seats → Seats
marking s t r = record { phase = r.phase; state = at s t r.state; number = r.number; vector = r.vector }

-- the seats with another state, number and vector on seat s
abbrev pub seating : (s : ℕ) → SeatState → (n v : ℕ) → Seats → Seats
seating s t n v r = record { phase = r.phase; state = at s t r.state; number = at s n r.number; vector = at s v r.vector }

-- the links, none of them on seat s
abbrev pub without_links : (s : ℕ) → Links → Links
without_links s L x k d = cond (eqb x s) none (L x k d)

unfoldable pub is_taken : Option Msg → Msg → Bool
is_taken none m = false
is_taken (some n) m = same_msg n m

-- the pending set after one message is taken away and others are sent: one sent twice is there once
unfoldable pub pending_after : List Msg → Option Msg → (Msg → Bool) → Msg → Bool
pending_after sent taken p m = among sent m || (p m && not (is_taken taken m))
