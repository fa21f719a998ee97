-- The meaning of a record: what its seats hold, links and pending messages; and the members of the graph. Assumes nothing.
use Rattle.std.specs.Prelude.{ℕ, Bool, true, false, not, cond, ltb}
use Rattle.std.proofs.Math.Option.{Option, none, some}
use Rattle.graph.specs.Graph.{Lots, Links}
use Rattle.protocol.specs.Message.{Msg}
use Rattle.protocol.specs.Rules.{SeatState, free, staying, leaving, reserved, is_staying, Entry}

pub data Phase : Type 0 where
  open_phase clearing : Phase

-- what a record holds beside links and messages: the phase, and of each seat state, number and vector
pub record Seats : Type 0 where
  pub phase : Phase
  pub state : ℕ → SeatState
  pub number : ℕ → ℕ
  pub vector : ℕ → ℕ

pub record Meaning : Type 0 where
  pub seats : Seats
  pub link : Links
  pub pending : Msg → Bool

abbrev pub is_clearing : Phase → Bool
is_clearing open_phase = false
is_clearing clearing = true

abbrev pub is_free : SeatState → Bool
is_free free = true
is_free staying = false
is_free leaving = false
is_free reserved = false

abbrev pub is_seated : SeatState → Bool
is_seated free = false
is_seated staying = true
is_seated leaving = true
is_seated reserved = false

abbrev pub is_leaving : SeatState → Bool
is_leaving free = false
is_leaving staying = false
is_leaving leaving = true
is_leaving reserved = false

abbrev pub is_reserved : SeatState → Bool
is_reserved free = false
is_reserved staying = false
is_reserved leaving = false
is_reserved reserved = true

-- seat x is not free, it has a lot or is reserved: nobody else can have it
abbrev pub taken : Seats → ℕ → Bool
taken r x = not (is_free (r.state x))

-- a lot of the graph sits on seat x: it is staying or leaving
abbrev pub seated : Seats → ℕ → Bool
seated r x = is_seated (r.state x)

-- no lot of the graph sits there: the seat is free or only reserved
abbrev pub empty : Seats → ℕ → Bool
empty r x = not (seated r x)

abbrev pub stays : Seats → ℕ → Bool
stays r x = is_staying (r.state x)

abbrev pub leaves : Seats → ℕ → Bool
leaves r x = is_leaving (r.state x)

-- seat x is held for a number and a vector, without a lot of the graph
abbrev pub held : Seats → ℕ → Bool
held r x = is_reserved (r.state x)

-- s is above the last of N seats
abbrev pub no_seat : (N s : ℕ) → Bool
no_seat N s = not (ltb s N)

-- the entry of seat x
abbrev pub entry : Meaning → ℕ → Entry
entry M x = record { state = M.seats.state x; number = M.seats.number x; vector = M.seats.vector x; link = M.link x }

-- pending, if it is a message at all
unfoldable pub is_pending : (Msg → Bool) → Option Msg → Bool
is_pending p none = false
is_pending p (some m) = p m

-- all lots in phase open, the staying ones in clearing
unfoldable pub member : Seats → ℕ → Bool
member r x = cond (is_clearing r.phase) (stays r x) (seated r x)

-- the members, with the component of each
abbrev pub members : (component : ℕ → ℕ) → Seats → Lots
members c r = record { member = member r; number = r.number; vector = r.vector; component = c }

-- no lots, phase open
unfoldable pub nobody : Seats
nobody = record { phase = open_phase; state = λ x. free; number = λ x. 0; vector = λ x. 0 }

-- what open writes
unfoldable pub opened : Meaning
opened = record { seats = nobody; link = λ x k d. none; pending = λ m. false }
