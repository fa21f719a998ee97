-- The lists of calls of document 01's proved cases, and what is said of the bytes that they leave, by the definitions that the contracts
-- of the calls cite. Assumes nothing.
use Rattle.std.specs.Prelude.{ℕ, ◌≤◌, ◌≡◌, Bool, true, ◌&&◌, List, [], ◌∷◌, ◌++◌, T, eqb}
use Rattle.std.proofs.Math.Option.{Option, none, some}
use Rattle.base.specs.Loops.{one_if}
use Rattle.graph.specs.Vector.{width}
use Rattle.protocol.specs.Message.{Msg, Name, name, named, among}
use Rattle.protocol.specs.Numbering.{place}
use Rattle.protocol.specs.State.{Meaning, is_pending}
use Rattle.protocol.specs.Calls.{Call, join, leave, deliver, turn, takes}
use Rattle.protocol.specs.Run.{Logged, Past, log_of}
use Rattle.record.specs.Layout.{seats}
use Rattle.record.specs.Reading.{read_link, read_message, read_counts}
use Rattle.runs.specs.Run.{bytes_run, meant}

-- Q: `J 0 100 0 255`, `J 1 200 128 0`, `J 2 300 64 0`, `A`
unfoldable pub q_calls : List Call
q_calls =
    join 0 100 0 255 ∷ join 1 200 128 0 ∷ join 2 300 64 0
    ∷ deliver (name 1 0 1 0 0) ∷ deliver (name 1 0 2 0 0) ∷ deliver (name 1 1 0 0 0) ∷ deliver (name 1 0 1 0 0)
    ∷ deliver (name 1 1 2 0 0) ∷ deliver (name 1 2 1 0 0) ∷ deliver (name 1 1 2 0 0) ∷ deliver (name 2 0 1 0 0)
    ∷ deliver (name 2 1 0 0 0) ∷ deliver (name 2 1 2 0 0) ∷ deliver (name 2 0 2 0 0) ∷ deliver (name 1 0 2 1 0)
    ∷ deliver (name 1 2 0 1 0) ∷ deliver (name 1 0 2 1 0) ∷ deliver (name 2 0 2 1 0) ∷ deliver (name 2 2 0 0 0)
    ∷ deliver (name 1 2 0 1 0) ∷ deliver (name 2 2 0 1 0) ∷ deliver (name 2 2 1 0 0) ∷ deliver (name 3 0 0 0 0)
    ∷ deliver (name 2 1 0 0 0) ∷ deliver (name 2 2 0 0 0) ∷ deliver (name 1 2 0 1 0) ∷ []

-- (i): lots 100 and 300, settled, and then 200 joins at 100
unfoldable pub i_calls : List Call
i_calls =
    join 0 100 0 255 ∷ join 2 300 64 0
    ∷ deliver (name 1 0 2 0 0) ∷ deliver (name 1 2 0 0 0) ∷ deliver (name 1 0 2 0 0) ∷ deliver (name 2 0 2 0 0)
    ∷ deliver (name 1 0 2 1 0) ∷ deliver (name 1 2 0 1 0) ∷ deliver (name 1 0 2 1 0) ∷ deliver (name 2 0 2 1 0)
    ∷ deliver (name 2 2 0 0 0) ∷ deliver (name 1 2 0 1 0) ∷ deliver (name 2 2 0 1 0) ∷ join 1 200 128 0 ∷ []

-- (j): lots 100 and 200, settled, and then 300 joins at 100
unfoldable pub j_calls : List Call
j_calls =
    join 0 100 0 255 ∷ join 1 200 128 0
    ∷ deliver (name 1 0 1 0 0) ∷ deliver (name 1 1 0 0 0) ∷ deliver (name 1 0 1 0 0) ∷ deliver (name 2 0 1 0 0)
    ∷ deliver (name 2 1 0 0 0) ∷ join 2 300 64 0 ∷ []

-- (k): Q, `L 1`, `T`, `A`, `T`
unfoldable pub k_calls : List Call
k_calls =
    q_calls ++ leave 1 ∷ turn
    ∷ deliver (name 4 0 0 0 1) ∷ deliver (name 4 2 0 0 0) ∷ deliver (name 5 1 0 0 0) ∷ deliver (name 5 1 2 0 0)
    ∷ deliver (name 5 0 2 0 0) ∷ deliver (name 5 2 0 0 0) ∷ deliver (name 6 0 2 0 0) ∷ deliver (name 6 2 0 0 0) ∷ turn ∷ []

-- (l): a sole lot leaves, two turns
unfoldable pub l_calls : List Call
l_calls = join 0 100 0 255 ∷ leave 0 ∷ turn ∷ turn ∷ []

-- every call of a log was accepted
unfoldable pub accepted : List Logged → Bool
accepted [] = true
accepted (l ∷ ls) = eqb l.refused 0 && accepted ls

-- none of the pending messages is smaller than the message taken, by their five numbers in order
abbrev pub Smallest : (Msg → Bool) → Option Msg → Type 0
Smallest p none = Unit {0}
Smallest p (some n) = (m : Msg) → T (p m) → place seats width n ≤ place seats width m

-- each delivery of a history takes the smallest pending message, as line A does
abbrev pub InOrder : List (Past Meaning) → Type 0
InOrder [] = Unit {0}
InOrder (e ∷ es) = Smallest e.before.pending (takes seats width e.logged.call) × InOrder es

-- exactly the messages of a list read as pending
abbrev pub Pending : List ℕ → List Msg → Type 0
Pending b ms = (n : Name) → read_message b n ≡ record { refused = 0; pending = one_if (is_pending (among ms) (named n)) }

-- the left and the right link of seat s at level k, 255 for none
abbrev pub LinksOf : List ℕ → (s k left right : ℕ) → Type 0
LinksOf b s k x y = (read_link b s k 0 ≡ record { refused = 0; seat = x }) × (read_link b s k 1 ≡ record { refused = 0; seat = y })

-- the list of calls on the opened bytes l: all accepted, deliveries in the order of line A, and at the end n lots, phase open, none pending
pub record Settles (l : List ℕ) (cs : List Call) (n : ℕ) : Type 0 where
  pub log : accepted (log_of (meant (bytes_run l cs).history)) ≡ true
  pub order : InOrder (meant (bytes_run l cs).history)
  pub counts : read_counts (bytes_run l cs).now ≡ record { refused = 0; lots = n; phase = 0; pending = 0 }

-- the same, and then lot 100 on seat 0 has at level 0 no left link and that right link, and exactly those messages are pending
pub record Lot100 (l : List ℕ) (cs : List Call) (right : ℕ) (ms : List Msg) : Type 0 where
  pub log : accepted (log_of (meant (bytes_run l cs).history)) ≡ true
  pub links : LinksOf (bytes_run l cs).now 0 0 255 right
  pub pending : Pending (bytes_run l cs).now ms
