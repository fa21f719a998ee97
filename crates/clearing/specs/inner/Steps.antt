-- What the steps of a turn leave: meanings that are changed in part, or whose seats of a set are freed. The contract of `turn` names none of
-- these. Assumes nothing.
use Rattle.std.specs.Prelude.{ℕ, ◌+◌, ◌*◌, ◌<◌, ◌≡◌, cond, ◌&&◌, List, [], ◌++◌, ltb}
use Rattle.std.proofs.Math.Option.{none, some}
use Rattle.memory.specs.Bits.{has_bit}
use Rattle.graph.specs.Side.{Side, left, right, side_number}
use Rattle.graph.specs.Graph.{Links}
use Rattle.graph.specs.Vector.{width}
use Rattle.protocol.specs.Message.{Msg}
use Rattle.protocol.specs.State.{Phase, open_phase, clearing, Meaning, leaves}
use Rattle.protocol.specs.Page.{each, pending_after}
use Rattle.protocol.specs.Freeing.{freeing, unlinking}
use Rattle.protocol.specs.pages.Turn.{farewell, farewells}
use Rattle.record.specs.Layout.{seats, levels}
use Rattle.record.specs.Meaning.{bytes_of}

-- links name seats that exist
abbrev pub Linked : Meaning → Type 0
Linked M = (x k y : ℕ) (d : Side) → M.link x k d ≡ some y → y < seats

-- bytes of a meaning in one form become those of the same meaning in another
abbrev pub Step : (f g : Meaning → Meaning) → (l m : List ℕ) → Type 0
Step f g l m = (M : Meaning) → Linked M → l ≡ bytes_of (f M) → m ≡ bytes_of (g M)

-- as it is
abbrev pub same : Meaning → Meaning
same M = M

-- messages are sent
abbrev pub saying : Meaning → List Msg → Meaning
saying M sent = record { seats = M.seats; link = M.link; pending = pending_after sent none M.pending }

-- GOING from y to its links at level k, and from y to all its links
abbrev pub level_farewells : Links → (y k : ℕ) → List Msg
level_farewells L y k = farewell L y k left ++ farewell L y k right

abbrev pub lot_farewells : Links → (y : ℕ) → List Msg
lot_farewells L y = each levels (level_farewells L y)

-- if it leaves
abbrev pub farewells_from : Meaning → (y : ℕ) → List Msg
farewells_from M y = cond (leaves M.seats y) (lot_farewells M.link y) []

-- the phase is p
abbrev pub in_phase : Meaning → Phase → Meaning
in_phase M p = record {
  seats = record { phase = p; state = M.seats.state; number = M.seats.number; vector = M.seats.vector };
  link = M.link;
  pending = M.pending;
}

-- the seats of a set freed: bit s of the set is seat s
abbrev pub freed : (set : ℕ) → Meaning → Meaning
freed set M = record {
  seats = freeing (has_bit set) M.seats.phase M.seats;
  link = unlinking (has_bit set) M.link;
  pending = M.pending;
}

-- the links seat by seat, level by level, left then right
abbrev pub link_place : (x k d : ℕ) → ℕ
link_place x k d = (x * levels + k) * 2 + d

-- the seats of the set below s freed, and the links below place n as they are once the whole set is
unfoldable pub freed_to : (set s n : ℕ) → Meaning → Meaning
freed_to set s n M = record {
  seats = freeing (λ x. ltb x s && has_bit set x) M.seats.phase M.seats;
  link = λ x k d. cond (ltb (link_place x k (side_number d)) n) (unlinking (has_bit set) M.link x k d) (M.link x k d);
  pending = M.pending;
}

-- all messages sent, phase clearing
abbrev pub begun : Meaning → Meaning
begun M = in_phase (saying M (farewells seats width M.seats M.link)) clearing

-- the leavers' seats freed, phase open
abbrev pub ended : Meaning → Meaning
ended M = record {
  seats = freeing (leaves M.seats) open_phase M.seats;
  link = unlinking (leaves M.seats) M.link;
  pending = M.pending;
}
