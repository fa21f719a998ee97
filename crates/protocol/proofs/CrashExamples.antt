-- The page of a crash evaluated at three seats and width 2: what is sent and left, the refusals in their order, the set 0, and the components that
-- the roster keeps. Assumes nothing.
use Prim.Native.Nat.{ℕ}
use mathlib.Core.Path.{◌≡◌, refl}
use mathlib.Core.Option.{none, some}
use mathlib.Core.Bool.{true, false, cond, ◌&&◌}
use mathlib.Core.List.{List, [], ◌∷◌}
use lib.Dec.{eqb}
use Rattle.base.specs.Loops.{any, first_from}
use Rattle.base.specs.Bits.{bit_of}
use Rattle.graph.specs.Side.{right, on_side, side_of}
use Rattle.graph.specs.Vector.{bit, equal_bits, shared}
use Rattle.graph.specs.Graph.{in_list, beside as beside_in, nearer, nearest, graph}
use Rattle.graph.specs.Components.{names, links_to, linked_with, joined_below, component_of}
use Rattle.protocol.specs.Message.{Msg, meet, if_zero, if_bit, named, same_msg, among}
use Rattle.protocol.specs.Numbering.{pair_at, pull_at, side_at, split, message_at, some_pending}
use Rattle.protocol.specs.Rules.{to_link, setting, meeting, probing, pulling, parting, passing, seeking, effect}
use Rattle.protocol.specs.State.{Seats, Meaning, member, members, nobody, opened, is_pending}
use Rattle.protocol.specs.Calls.{Call, join, leave, turn, crash, rows, refusal, seats_after, components_after, sends, takes, links_after}
use Rattle.protocol.specs.Calls.{accept, unless_refused, call}
use Rattle.protocol.specs.Refusals.{first}
use Rattle.protocol.specs.Page.{each, at, is_taken, pending_after}
use Rattle.protocol.specs.pages.Deliver.{rule, delivery_sends, same_side, applied, delivery_links}
use Rattle.protocol.specs.pages.Turn.{after_turn, farewell, farewells, turn_sends, turn_links}
use Rattle.protocol.specs.pages.Crash.{introduced, introductions, cut}
use Rattle.protocol.specs.Freeing.{unlinked}
use Rattle.protocol.specs.Order.{or_next, before, smaller, smallest_of, smallest_from}
use Rattle.protocol.specs.Bundle.{onward, bundle_of, left_by}
use Rattle.protocol.specs.Run.{steps_from, log_of, step, steps, meaning_run, roster_after, roster_of}
use Rattle.protocol.proofs.Examples.{all_among, count_of, same-messages, bundled, drained, joined-Q, settled-Q, links, after}

-- Q, settled, without lot 200; with 200 marked as leaving, and then the phase clearing
cut-Q : Meaning
cut-Q = after settled-Q (crash 2)

left-Q : Meaning
left-Q = after settled-Q (leave 1)

cleared-Q : Meaning
cleared-Q = after left-Q turn

-- the same lots, 200 a component of its own; and with one link alone, which has no link back
apart : Meaning
apart = record { seats = joined-Q.seats; link = graph 3 2 (members (λ x. cond (eqb x 1) 1 0) joined-Q.seats); pending = λ m. false }

one-sided : Meaning
one-sided = record { seats = joined-Q.seats; link = λ x k d. cond (eqb x 0 && (eqb k 1 && same_side d right)) (some 2) none; pending = λ m. false }

-- lots 100 and 200, just joined
two-joined : Meaning
two-joined = (meaning_run 3 2 (join 0 100 0 255 ∷ join 1 200 2 0 ∷ [])).now

-- lots 100, 200, 300 with vectors 00, 01, 10
other-vectors : Seats
other-vectors = record { phase = settled-Q.seats.phase; state = settled-Q.seats.state; number = settled-Q.seats.number; vector = λ x. x }

-- the roster's components after a list
components : List Call → List ℕ
components cs = let c = (roster_of 3 2 (log_of (meaning_run 3 2 cs).history)).component in c 0 ∷ c 1 ∷ c 2 ∷ []

-- the refusal of a crash of a set
refused : Meaning → (set : ℕ) → ℕ
refused M set = refusal 3 2 M.seats M.pending (crash set)

-- the MEETs between 100 and 300, as many as are sent where each has a link to the other
four : List Msg
four = meet 0 2 0 ∷ meet 2 0 0 ∷ meet 2 0 0 ∷ meet 0 2 0 ∷ []

record Evaluated : Type 0 where
  -- in Q without 200 the link of level 1 between 100 and 300 is left, and its ends are to meet; drained, these are linked at level 0, too
  left : links cut-Q ≡ none ∷ none ∷ none ∷ none ∷ some 2 ∷ some 0 ∷ none ∷ none ∷ none ∷ []
  sent : same-messages (sends 3 2 settled-Q (crash 2)) four ≡ true
  mends : links (drained 9 cut-Q) ≡ some 2 ∷ none ∷ none ∷ some 0 ∷ some 2 ∷ some 0 ∷ none ∷ none ∷ none ∷ []
  -- a component that lost nobody sends, too; and of a link without its link back both ends hear
  untouched : same-messages (sends 3 2 apart (crash 2)) four ≡ true
  both_ends : same-messages (sends 3 2 one-sided (crash 2)) (meet 0 2 0 ∷ meet 2 0 0 ∷ []) ≡ true
  -- the set 0 sends nothing
  none_sent : sends 3 2 settled-Q (crash 0) ≡ []
  -- the components: a newcomer is in its contact's; without 200 its neighbours are one, by level 1; with the other vectors two; the set 0 keeps them
  newcomers : components (join 0 100 0 255 ∷ join 1 200 2 0 ∷ join 2 300 1 0 ∷ []) ≡ 0 ∷ 0 ∷ 0 ∷ []
  one_left : components_after 3 2 settled-Q.seats (λ x. 0) (crash 2) 2 ≡ 0
  two_left : components_after 3 2 other-vectors (λ x. 0) (crash 2) 2 ≡ 2
  kept : components_after 3 2 settled-Q.seats (λ x. 7) (crash 0) 2 ≡ 7
  -- refused while messages are pending, the set 0 too; for a free seat before that; in clearing before both. A leaver may be named
  pending : (refused joined-Q 2 ≡ 11) × (refused two-joined 0 ≡ 11)
  free_seat : refused two-joined 6 ≡ 8
  in-clearing : (refused cleared-Q 0 ≡ 7) × (refused cleared-Q 6 ≡ 7)
  leaver : refused left-Q 2 ≡ 0

evaluated : Evaluated
unfolding settled-Q cut-Q left-Q cleared-Q apart one-sided two-joined other-vectors components refused four
    links all_among count_of same-messages joined-Q after bundled drained bundle_of left_by onward smallest_from smallest_of smaller
    before or_next components_after cut component_of joined_below linked_with links_to names first_from roster_of roster_after log_of
    graph nearest nearer beside_in in_list member introduced introductions unlinked bit_of after_turn farewell farewells turn_sends turn_links
    meaning_run steps_from step steps opened nobody call unless_refused accept refusal rows first any is_pending seats_after at each
    sends takes is_taken pending_after delivery_sends links_after delivery_links applied rule effect setting meeting probing pulling
    parting passing seeking to_link on_side side_of bit equal_bits shared named if_zero if_bit same_msg among some_pending message_at split
    pair_at pull_at side_at
evaluated = record {
  left = refl;
  sent = refl;
  mends = refl;
  untouched = refl;
  both_ends = refl;
  none_sent = refl;
  newcomers = refl;
  one_left = refl;
  two_left = refl;
  kept = refl;
  pending = (refl, refl);
  free_seat = refl;
  in-clearing = (refl, refl);
  leaver = refl;
}
