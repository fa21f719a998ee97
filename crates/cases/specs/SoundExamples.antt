-- Examples of soundness (document 01, "Sound"): for each clause records that break it and no other, and beside them records that just fit. Assumes nothing.
use Rattle.std.specs.Prelude.{ℕ, ◌≡◌, Bool, true, false, ◌&&◌, List, [], ◌∷◌, set}
use Rattle.graph.specs.Side.{left, right}
use Rattle.graph.specs.Vector.{width}
use Rattle.protocol.specs.Message.{Msg, meet, probe, pull, going, seek, found, none_found}
use Rattle.protocol.specs.Numbering.{exists}
use Rattle.protocol.specs.Rules.{SeatState, free, staying, leaving, reserved}
use Rattle.protocol.specs.State.{Phase, open_phase, clearing}
use Rattle.protocol.specs.Sound.{message_ok}
use Rattle.record.specs.Layout.{seats, phase_at, state_at}
use Rattle.record.specs.Meaning.{meaning}
use Rattle.record.specs.Sound.{phase_fits, states_fit, unused_fit, numbers_differ, links_fit, messages_fit, sound}
use Rattle.cases.specs.Small.{Held, holds, LinkOf, linked, seats_of, small_bytes, three, twins}

-- the clauses in their order
abbrev pub clauses : List ℕ → List Bool
clauses b = phase_fits b ∷ states_fit b ∷ unused_fit b ∷ numbers_differ b ∷ links_fit b ∷ messages_fit b ∷ []

unfoldable pub every : List Bool → Bool
every [] = true
every (c ∷ cs) = c && every cs

-- all hold; all but one
abbrev pub AllHold : List ℕ → Type 0
AllHold b = clauses b ≡ true ∷ true ∷ true ∷ true ∷ true ∷ true ∷ []

abbrev pub PhaseBroken : List ℕ → Type 0
PhaseBroken b = clauses b ≡ false ∷ true ∷ true ∷ true ∷ true ∷ true ∷ []

abbrev pub StatesBroken : List ℕ → Type 0
StatesBroken b = clauses b ≡ true ∷ false ∷ true ∷ true ∷ true ∷ true ∷ []

abbrev pub UnusedBroken : List ℕ → Type 0
UnusedBroken b = clauses b ≡ true ∷ true ∷ false ∷ true ∷ true ∷ true ∷ []

abbrev pub NumbersBroken : List ℕ → Type 0
NumbersBroken b = clauses b ≡ true ∷ true ∷ true ∷ false ∷ true ∷ true ∷ []

abbrev pub LinksBroken : List ℕ → Type 0
LinksBroken b = clauses b ≡ true ∷ true ∷ true ∷ true ∷ false ∷ true ∷ []

abbrev pub MessagesBroken : List ℕ → Type 0
MessagesBroken b = clauses b ≡ true ∷ true ∷ true ∷ true ∷ true ∷ false ∷ []

-- the bytes of the three lots: with what a seat holds before them, with a link, with a pending message
abbrev pub three_in : Phase → List ℕ
three_in p = small_bytes p three [] []

abbrev pub holding : Held → List ℕ
holding h = small_bytes open_phase (h ∷ three) [] []

abbrev pub linking : LinkOf → List ℕ
linking l = small_bytes open_phase three (l ∷ []) []

abbrev pub pending_in : Phase → Msg → List ℕ
pending_in p m = small_bytes p three [] (m ∷ [])

-- with a pending message, and in that state number 400 on the last seat
abbrev pub held_in : Phase → SeatState → Msg → List ℕ
held_in p t m = small_bytes p (holds 63 t 400 0 ∷ three) [] (m ∷ [])

-- phase, states, free seats, numbers, links
pub record RecordExamples : Type 0 where
  -- soundness is the clauses, and no more
  pub clauses_all : (b : List ℕ) → sound b ≡ every (clauses b)
  -- the three lots, in phase 0 and in phase 1; phase 2
  pub phase : AllHold (three_in open_phase) × AllHold (three_in clearing) × PhaseBroken (set (three_in clearing) phase_at 2)
  -- states 0, 1 and 2 are among those of the three lots; state 2 on the last seat, state 3 there, and state 4
  pub state : AllHold (holding (holds 63 leaving 400 0))
      × AllHold (holding (holds 63 reserved 400 0))
      × StatesBroken (set (holding (holds 63 reserved 400 0)) (state_at 63) 4)
  -- a free seat with a number; with a vector; as opened
  pub unused : UnusedBroken (holding (holds 3 free 1 0)) × UnusedBroken (holding (holds 63 free 0 1)) × AllHold (holding (holds 3 free 0 0))
  -- with a link: the clause of links breaks too, since only a lot has links
  pub unused_link : clauses (linking (linked 3 0 right 0)) ≡ true ∷ true ∷ false ∷ true ∷ false ∷ true ∷ []
  -- two lots with one number, one of them leaving; the next number; number 0, which free seats read too
  pub numbers : NumbersBroken (holding (holds 63 staying 200 0))
      × AllHold (holding (holds 63 staying 201 0))
      × AllHold (holding (holds 63 staying 0 0))
  -- a reservation with the number of a lot, of a leaving lot, and of another reservation; with the next number; as free seats read
  pub reserved_number : NumbersBroken (holding (holds 63 reserved 100 0))
      × NumbersBroken (holding (holds 63 reserved 200 0))
      × NumbersBroken (small_bytes open_phase (holds 3 reserved 400 0 ∷ holds 63 reserved 400 0 ∷ three) [] [])
      × AllHold (small_bytes open_phase (holds 3 reserved 400 0 ∷ holds 63 reserved 401 0 ∷ three) [] [])
      × AllHold (holding (holds 63 reserved 0 0))
  -- a reservation with a link, and a link to a reservation, on its own side and sharing all bits; the same to and from a lot
  pub reserved_link : LinksBroken (small_bytes open_phase (holds 63 reserved 400 0 ∷ three) (linked 63 0 left 0 ∷ []) [])
      × LinksBroken (small_bytes open_phase (holds 63 reserved 400 0 ∷ three) (linked 0 0 right 63 ∷ []) [])
      × AllHold (small_bytes open_phase (holds 63 staying 400 0 ∷ three) (linked 63 0 left 0 ∷ []) [])
      × AllHold (small_bytes open_phase (holds 63 staying 400 0 ∷ three) (linked 0 0 right 63 ∷ []) [])
  -- a link to the lot itself, which lies on no side of it; to a free seat, on its own side and sharing all bits; to a seat that is none
  pub link_seat : LinksBroken (linking (linked 0 0 right 0)) × LinksBroken (linking (linked 0 0 left 3)) × LinksBroken (linking (linked 0 0 right 64))
  -- to the wrong side; to the right one, a leaving lot
  pub link_side : LinksBroken (linking (linked 0 0 left 1)) × LinksBroken (linking (linked 2 0 right 1))
      × AllHold (linking (linked 0 0 right 1)) × AllHold (linking (linked 2 0 left 1))
  -- one bit is shared: level 2, and level 1; level 8
  pub link_level : LinksBroken (linking (linked 0 2 right 2)) × AllHold (linking (linked 0 1 right 2)) × LinksBroken (linking (linked 2 8 left 0))
  -- the last seat, at the top level: to the wrong side, and to the right one
  pub link_last : LinksBroken (small_bytes open_phase (holds 63 staying 400 0 ∷ three) (linked 63 8 right 0 ∷ []) [])
      × AllHold (small_bytes open_phase (holds 63 staying 400 0 ∷ three) (linked 63 8 left 0 ∷ []) [])

-- pending messages
pub record MessageExamples : Type 0 where
  -- MEET, one bit shared: level 1, and level 2; to a free seat, about a free seat, about itself; in phase clearing
  pub meet_fits : AllHold (pending_in open_phase (meet 0 2 1)) × AllHold (pending_in open_phase (meet 1 0 0))
  pub meet_breaks : MessagesBroken (pending_in open_phase (meet 0 2 2))
      × MessagesBroken (pending_in open_phase (meet 3 0 0))
      × MessagesBroken (pending_in open_phase (meet 0 3 0))
      × MessagesBroken (pending_in open_phase (meet 0 0 0))
      × MessagesBroken (pending_in clearing (meet 0 2 1))
  -- PROBE, the same
  pub probe_fits : AllHold (pending_in open_phase (probe 0 2 1)) × AllHold (pending_in open_phase (probe 1 0 0))
  pub probe_breaks : MessagesBroken (pending_in open_phase (probe 0 2 2))
      × MessagesBroken (pending_in open_phase (probe 3 0 0))
      × MessagesBroken (pending_in open_phase (probe 0 3 0))
      × MessagesBroken (pending_in open_phase (probe 0 0 0))
      × MessagesBroken (pending_in clearing (probe 0 2 1))
  -- PULL: to a free seat; in phase clearing
  pub pull_fits : AllHold (pending_in open_phase (pull 0 false 7 left)) × AllHold (pending_in open_phase (pull 1 true 0 right))
  pub pull_breaks : MessagesBroken (pending_in open_phase (pull 3 true 0 right)) × MessagesBroken (pending_in clearing (pull 0 false 7 left))
  -- GOING, also to a leaver: to a free seat; in phase open
  pub going_fits : AllHold (pending_in clearing (going 0 8 left)) × AllHold (pending_in clearing (going 1 0 right))
  pub going_breaks : MessagesBroken (pending_in clearing (going 3 0 right)) × MessagesBroken (pending_in open_phase (going 0 8 left))
  -- SEEK, also to a leaver: about a leaver; a bit too many; free seats; about itself; in phase open
  pub seek_fits : AllHold (pending_in clearing (seek 0 2 1)) × AllHold (pending_in clearing (seek 1 0 0))
  pub seek_breaks : MessagesBroken (pending_in clearing (seek 0 1 0))
      × MessagesBroken (pending_in clearing (seek 0 2 2))
      × MessagesBroken (pending_in clearing (seek 3 0 0))
      × MessagesBroken (pending_in clearing (seek 0 3 0))
      × MessagesBroken (pending_in clearing (seek 0 0 0))
      × MessagesBroken (pending_in open_phase (seek 0 2 1))
  -- FOUND: to a leaver; about a leaver; a bit too many; free seats; about itself; in phase open
  pub found_fits : AllHold (pending_in clearing (found 0 2 1)) × AllHold (pending_in clearing (found 2 0 0))
  pub found_breaks : MessagesBroken (pending_in clearing (found 1 0 0))
      × MessagesBroken (pending_in clearing (found 0 1 0))
      × MessagesBroken (pending_in clearing (found 0 2 2))
      × MessagesBroken (pending_in clearing (found 3 0 0))
      × MessagesBroken (pending_in clearing (found 0 3 0))
      × MessagesBroken (pending_in clearing (found 0 0 0))
      × MessagesBroken (pending_in open_phase (found 0 2 1))
  -- NONE: to a leaver; to a free seat, also the last message of all; in phase open
  pub none_fits : AllHold (pending_in clearing (none_found 0 8 left)) × AllHold (pending_in clearing (none_found 2 0 right))
  pub none_breaks : MessagesBroken (pending_in clearing (none_found 1 0 right))
      × MessagesBroken (pending_in clearing (none_found 3 0 right))
      × MessagesBroken (pending_in clearing (none_found 63 8 right))
      × MessagesBroken (pending_in open_phase (none_found 0 8 left))
  -- messages to and about a reservation, of each kind that can name it; beside them to and about a lot in its place
  pub reserved_breaks : MessagesBroken (held_in open_phase reserved (meet 63 0 0))
      × MessagesBroken (held_in open_phase reserved (meet 0 63 0))
      × MessagesBroken (held_in open_phase reserved (probe 63 0 0))
      × MessagesBroken (held_in open_phase reserved (probe 0 63 0))
      × MessagesBroken (held_in open_phase reserved (pull 63 true 0 right))
      × MessagesBroken (held_in clearing reserved (going 63 0 right))
      × MessagesBroken (held_in clearing reserved (seek 63 0 0))
      × MessagesBroken (held_in clearing reserved (seek 0 63 0))
      × MessagesBroken (held_in clearing reserved (found 63 0 0))
      × MessagesBroken (held_in clearing reserved (found 0 63 0))
      × MessagesBroken (held_in clearing reserved (none_found 63 0 right))
  pub reserved_fits : AllHold (held_in open_phase staying (meet 63 0 0))
      × AllHold (held_in open_phase staying (meet 0 63 0))
      × AllHold (held_in clearing staying (found 63 0 0))
      × AllHold (held_in clearing staying (none_found 63 0 right))
  -- levels, where all bits are shared: a MEET at level 8, a PROBE at level 7
  pub level_fits : AllHold (small_bytes open_phase twins [] (meet 0 1 8 ∷ [])) × AllHold (small_bytes open_phase twins [] (probe 0 1 7 ∷ []))
  -- a PROBE or a PULL at level 8 and another kind at level 9 have no place, so no bytes mean them; and they would break the clause
  pub no_place : (b : List ℕ) (m : Msg) → exists seats width m ≡ false → (meaning b).pending m ≡ false
  pub level_none : (exists seats width (probe 0 1 8) ≡ false)
      × (exists seats width (pull 0 true 8 left) ≡ false)
      × (exists seats width (meet 0 1 9) ≡ false)
      × (exists seats width (going 0 9 left) ≡ false)
      × (exists seats width (seek 0 1 9) ≡ false)
      × (exists seats width (found 0 1 9) ≡ false)
      × (exists seats width (none_found 0 9 left) ≡ false)
  pub level_breaks : (message_ok width (seats_of open_phase twins) (probe 0 1 8) ≡ false)
      × (message_ok width (seats_of open_phase twins) (pull 0 true 8 left) ≡ false)
      × (message_ok width (seats_of open_phase twins) (meet 0 1 9) ≡ false)
      × (message_ok width (seats_of clearing twins) (going 0 9 left) ≡ false)
      × (message_ok width (seats_of clearing twins) (seek 0 1 9) ≡ false)
      × (message_ok width (seats_of clearing twins) (found 0 1 9) ≡ false)
      × (message_ok width (seats_of clearing twins) (none_found 0 9 left) ≡ false)
