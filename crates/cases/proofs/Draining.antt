-- The definitions evaluated at three seats and width 2, before anything was proved of them: the record Q drained by bundles, and with its leave and
-- turns (document 01, case (k)). Assumes nothing.
use mathlib.Core.Path.{◌≡◌, refl}
use mathlib.Core.Option.{none, some}
use mathlib.Core.List.{[], ◌∷◌}
use lib.ListN.{length}
use Rattle.base.specs.Loops.{any}
use Rattle.graph.specs.Side.{on_side, side_of}
use Rattle.graph.specs.Vector.{bit, equal_bits, shared}
use Rattle.graph.specs.Graph.{in_list, beside as beside_in, nearer, nearest, graph}
use Rattle.protocol.specs.Message.{name, if_zero, if_bit, named, same_msg, among}
use Rattle.protocol.specs.Numbering.{pair_at, pull_at, side_at, split, message_at, some_pending}
use Rattle.protocol.specs.Rules.{to_link, setting, meeting, probing, pulling, parting, passing, seeking, effect}
use Rattle.protocol.specs.State.{Meaning, member, nobody, opened, is_pending}
use Rattle.protocol.specs.Calls.{leave, turn, rows, refusal, seats_after, sends, takes, links_after, accept, unless_refused, call}
use Rattle.protocol.specs.Refusals.{first}
use Rattle.protocol.specs.Page.{each, at, is_taken, pending_after}
use Rattle.protocol.specs.pages.Turn.{after_turn, farewell, farewells, turn_sends, turn_links}
use Rattle.protocol.specs.pages.Deliver.{rule, delivery_sends, applied, delivery_links}
use Rattle.protocol.specs.Freeing.{unlinked}
use Rattle.protocol.specs.Order.{or_next, before, smaller, smallest_of, smallest_from}
use Rattle.protocol.specs.Bundle.{onward, bundle_of, left_by}
use Rattle.protocol.specs.Run.{steps_from, step, steps, meaning_run}
use Rattle.protocol.proofs.Examples.{joined-Q, settled-Q, bundled, drained, links, after}

record Drained : Type 0 where
  -- a bundle of 5 delivers the smallest first, then what that sends; one of 24 delivers all 23 and stops, since nothing is left; then the links are these
  five : bundled 5 joined-Q ≡ name 1 0 1 0 0 ∷ name 1 0 2 0 0 ∷ name 1 1 0 0 0 ∷ name 1 0 1 0 0 ∷ name 1 1 2 0 0 ∷ []
  nothing : bundled 0 joined-Q ≡ []
  all : length (bundled 24 joined-Q) ≡ 23
  settled : links (drained 24 joined-Q) ≡ some 1 ∷ some 0 ∷ some 2 ∷ some 1 ∷ some 2 ∷ some 0 ∷ none ∷ none ∷ none ∷ []

evaluated : Drained
unfolding links joined-Q drained bundled bundle_of left_by onward smallest_from smallest_of smaller before or_next meaning_run steps_from step
    steps opened nobody call unless_refused accept refusal rows first any is_pending seats_after at sends takes is_taken pending_after
    delivery_sends links_after delivery_links applied rule effect setting meeting probing pulling parting passing seeking to_link on_side
    side_of bit equal_bits shared named if_zero if_bit same_msg among some_pending message_at split pair_at pull_at side_at
evaluated = record { five = refl; nothing = refl; all = refl; settled = refl }

-- (k) leave 1, turn, deliver all, turn: 100 and 300 are linked at levels 0 and 1, and seat 1 is as opened
left-Q : Meaning
left-Q = after (drained 9 (after (after settled-Q (leave 1)) turn)) turn

case-k : links left-Q ≡ some 2 ∷ none ∷ none ∷ some 0 ∷ some 2 ∷ some 0 ∷ none ∷ none ∷ none ∷ []
unfolding links left-Q after settled-Q joined-Q drained bundled bundle_of left_by onward smallest_from smallest_of smaller before or_next
    after_turn each farewell farewells turn_sends unlinked turn_links meaning_run steps_from step steps opened nobody call unless_refused
    accept refusal rows first any is_pending seats_after at sends takes is_taken pending_after delivery_sends links_after delivery_links
    applied rule effect setting meeting probing pulling parting passing seeking to_link on_side side_of bit equal_bits shared named if_zero
    if_bit same_msg among some_pending message_at split pair_at pull_at side_at graph nearest nearer beside_in in_list member
case-k = refl
