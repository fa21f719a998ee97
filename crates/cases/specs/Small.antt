-- Small records for the examples of the table and of soundness, given by lists: what seats hold, links, pending messages. All other seats are
-- as opened. Assumes nothing.
use Rattle.std.specs.Prelude.{ℕ, List, [], ◌∷◌}
use Rattle.std.proofs.Math.Option.{none, some}
use Rattle.graph.specs.Side.{Side}
use Rattle.graph.specs.Graph.{Links}
use Rattle.protocol.specs.Message.{Msg, among}
use Rattle.protocol.specs.Rules.{SeatState, free, staying, leaving, set}
use Rattle.protocol.specs.State.{Phase, Seats, Meaning}
use Rattle.protocol.specs.Page.{at}
use Rattle.protocol.specs.pages.Deliver.{applied}
use Rattle.record.specs.Meaning.{bytes_of}

-- what a seat holds
pub record Held : Type 0 where
  pub seat : ℕ
  pub state : SeatState
  pub number : ℕ
  pub vector : ℕ

abbrev pub holds : (seat : ℕ) → SeatState → (number vector : ℕ) → Held
holds s q n v = record { seat = s; state = q; number = n; vector = v }

-- a link of a seat at a level on a side
pub record LinkOf : Type 0 where
  pub seat : ℕ
  pub level : ℕ
  pub side : Side
  pub to : ℕ

abbrev pub linked : (seat level : ℕ) → Side → (to : ℕ) → LinkOf
linked s k d y = record { seat = s; level = k; side = d; to = y }

-- a field of what seat x holds, a where the list does not name it
unfoldable pub field_in : {A : Type 0} → (Held → A) → (a : A) → List Held → (x : ℕ) → A
field_in f a [] x = a
field_in f a (h ∷ hs) x = at h.seat (f h) (field_in f a hs) x

unfoldable pub link_in : List LinkOf → Links
link_in [] x k d = none
link_in (l ∷ ls) x k d = applied l.seat (set l.level l.side (some l.to)) (link_in ls) x k d

-- phase and seats
abbrev pub seats_of : Phase → List Held → Seats
seats_of p hs = record {
  phase = p;
  state = field_in (λ h. h.state) free hs;
  number = field_in (λ h. h.number) 0 hs;
  vector = field_in (λ h. h.vector) 0 hs;
}

-- a whole record, and its bytes
abbrev pub small : Phase → List Held → List LinkOf → List Msg → Meaning
small p hs ls ms = record { seats = seats_of p hs; link = link_in ls; pending = among ms }

abbrev pub small_bytes : Phase → List Held → List LinkOf → List Msg → List ℕ
small_bytes p hs ls ms = bytes_of (small p hs ls ms)

-- lots 100 and 300 are staying on seats 0 and 2, lot 200 is leaving on seat 1; 100 and 300 share one bit, neither shares one with 200
abbrev pub three : List Held
three = holds 0 staying 100 0 ∷ holds 1 leaving 200 128 ∷ holds 2 staying 300 64 ∷ []

-- a lot on the last seat
abbrev pub last : List Held
last = holds 63 staying 100 0 ∷ []

-- two lots with the same vector
abbrev pub twins : List Held
twins = holds 0 staying 100 64 ∷ holds 1 staying 200 64 ∷ []
