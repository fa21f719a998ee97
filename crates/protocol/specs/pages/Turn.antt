-- Turn (document 01, "Calls"). Open, no leavers: nothing changes. With leavers: phase clearing, and every leaver sends GOING to each of its
-- links. Clearing: leavers' seats become free, phase open, and a link to a freed seat becomes none. Assumes nothing.
use Rattle.std.specs.Prelude.{ℕ, suc, cond, List, [], ◌∷◌, ◌++◌}
use Rattle.std.proofs.Math.Option.{none}
use Rattle.base.specs.Loops.{any}
use Rattle.graph.specs.Side.{Side, left, right, opp}
use Rattle.graph.specs.Graph.{Links}
use Rattle.protocol.specs.Message.{Msg, going}
use Rattle.protocol.specs.Numbering.{some_pending}
use Rattle.protocol.specs.Rules.{to_link}
use Rattle.protocol.specs.State.{Phase, open_phase, clearing, Seats, Meaning, leaves}
use Rattle.protocol.specs.Refusals.{messages_left, row}
use Rattle.protocol.specs.Page.{Page, same_components, each}
use Rattle.protocol.specs.Freeing.{freeing, unlinking}

-- GOING from the leaver y to its link at level k on side d, with the side on which the receiver has it
unfoldable pub farewell : Links → (y k : ℕ) → Side → List Msg
farewell L y k d = to_link (L y k d) (λ x. going x k (opp d))

-- every leaver to each of its links
unfoldable pub farewells : (N W : ℕ) → Seats → Links → List Msg
farewells N W r L = each N (λ y. cond (leaves r y) (each (suc W) (λ k. farewell L y k left ++ farewell L y k right)) [])

unfoldable pub after_turn : ℕ → Phase → Seats → Seats
after_turn N open_phase r = record { phase = cond (any N (leaves r)) clearing open_phase; state = r.state; number = r.number; vector = r.vector }
after_turn N clearing r = freeing (leaves r) open_phase r

unfoldable pub turn_sends : (N W : ℕ) → Phase → Meaning → List Msg
turn_sends N W open_phase M = farewells N W M.seats M.link
turn_sends N W clearing M = []

unfoldable pub turn_links : Phase → Seats → Links → Links
turn_links open_phase r L x k d = L x k d
turn_links clearing r L x k d = unlinking (leaves r) L x k d

abbrev pub turn_page : (N W : ℕ) → Page
turn_page N W = record {
  rows = λ r p. row messages_left (some_pending N W p) ∷ [];
  seats = λ r. after_turn N r.phase r;
  links = λ M. turn_links M.seats.phase M.seats M.link;
  sends = λ M. turn_sends N W M.seats.phase M;
  takes = none;
  component = same_components;
  fits = Unit {0};
}
