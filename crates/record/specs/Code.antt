-- A link, a phase and a state as the code has them. Assumes nothing.
use Rattle.std.specs.Prelude.{ℕ, None, Some}
use Rattle.std.specs.Prelude as code
use Rattle.std.proofs.Math.Option.{Option, none, some}
use Rattle.protocol.specs.Rules.{SeatState, free, staying, leaving, reserved}
use Rattle.protocol.specs.State as protocol
use Rattle.record.specs.declared.states.Phase.{Phase}
use Rattle.record.specs.declared.states.Phase.TheVariants.{Open, Clearing}
use Rattle.record.specs.declared.states.State.{State}
use Rattle.record.specs.declared.states.State.TheVariants.{Free, Staying, Leaving, Reserved}

-- the link that a value of the code is
abbrev pub as_link : code.Option ℕ → Option ℕ
as_link None = none
as_link (Some y) = some y

-- the phase
abbrev pub as_phase : Phase → protocol.Phase
as_phase Open = protocol.open_phase
as_phase Clearing = protocol.clearing

-- and the state of a seat
abbrev pub as_state : State → SeatState
as_state Free = free
as_state Staying = staying
as_state Leaving = leaving
as_state Reserved = reserved
