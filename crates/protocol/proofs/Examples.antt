-- The definitions evaluated before anything was proved of them: document 01's cases (i) and (j), refusals in the table's order, and at
-- three seats and width 2 the settled record Q. What takes longer to evaluate, Q drained and its leave and turns (case (k)), stands in
-- crates/cases/proofs/Draining.antt. Assumes nothing.
use Prim.Native.Nat.{ℕ, zero, suc}
use mathlib.Core.Path.{◌≡◌, refl}
use mathlib.Core.Option.{Option, none, some}
use mathlib.Core.Bool.{Bool, true, false, ◌&&◌}
use mathlib.Core.List.{List, [], ◌∷◌}
use lib.Dec.{eqb}
use Rattle.graph.specs.Side.{Side, left, right, on_side, side_of}
use Rattle.graph.specs.Vector.{bit, equal_bits, shared}
use Rattle.graph.specs.Graph.{in_list, beside as beside_in, nearer, nearest, graph}
use Rattle.protocol.specs.Message.{Msg, meet, probe, Name, name, if_zero, if_bit, named, same_msg, among}
use Rattle.base.specs.Loops.{any}
use Rattle.protocol.specs.Numbering.{pair_at, pull_at, side_at, split, message_at, some_pending}
use Rattle.protocol.specs.Rules.{Entry, Effect, staying, keep, set, to_link, setting, meeting, probing, pulling, parting, passing, seeking, effect}
use Rattle.protocol.specs.State.{Meaning, member, members, nobody, opened, is_pending}
use Rattle.protocol.specs.Calls.{Call, join, leave, deliver, turn, rows, refusal, seats_after, sends, takes, links_after}
use Rattle.protocol.specs.Refusals.{first}
use Rattle.protocol.specs.Page.{at, is_taken, pending_after}
use Rattle.protocol.specs.pages.Deliver.{rule, delivery_sends, applied, delivery_links}
use Rattle.protocol.specs.Calls.{accept, unless_refused, call}
use Rattle.protocol.specs.Bundle.{bundle_of, left_by}
use Rattle.protocol.specs.Run.{steps_from, Logged, log_of, step, steps, meaning_run}

-- cases (i) and (j): lots 100, 200, 300 on seats 0, 1, 2; lot 100 has no left link, and at level 0 the right link o
number : ℕ → ℕ
number zero = 100
number (suc zero) = 200
number (suc (suc n)) = 300

links-of : Option ℕ → ℕ → Side → Option ℕ
links-of o k left = none
links-of o zero right = o
links-of o (suc k) right = none

lot-100 : Option ℕ → Entry
lot-100 o = record { state = staying; number = 100; vector = 0; link = links-of o }

-- two lists have the same messages, and as many
unfoldable pub all_among : List Msg → List Msg → Bool
all_among [] k = true
all_among (m ∷ l) k = among k m && all_among l k

unfoldable pub count_of : List Msg → ℕ
count_of [] = 0
count_of (m ∷ l) = suc (count_of l)

unfoldable pub same-messages : List Msg → List Msg → Bool
same-messages l k = all_among l k && (all_among k l && eqb (count_of l) (count_of k))

-- (i) right link 300, MEET about 200: link 200, and 200 gets MEET about 100, MEET about 300, PROBE about 100
met : Effect
met = effect 8 number (λ x. 0) (lot-100 (some 2)) (meet 0 1 0)

case-i-link : met.change ≡ set 0 right (some 1)
unfolding met effect setting meeting side_of on_side number links-of lot-100
case-i-link = refl

case-i : same-messages met.sent (meet 1 0 0 ∷ meet 1 2 0 ∷ probe 1 0 0 ∷ []) ≡ true
unfolding same-messages all_among count_of among same_msg met effect setting meeting to_link side_of on_side number links-of lot-100 bit
case-i = refl

-- (j) right link 200, MEET about 300: passed to 200
passed : Effect
passed = effect 8 number (λ x. 0) (lot-100 (some 1)) (meet 0 2 0)

case-j-link : passed.change ≡ keep
unfolding passed effect meeting side_of on_side number links-of lot-100
case-j-link = refl

case-j : same-messages passed.sent (meet 1 2 0 ∷ []) ≡ true
unfolding same-messages all_among count_of among same_msg passed effect setting meeting to_link side_of on_side number links-of lot-100 bit
case-j = refl

-- the refusal numbers of a log, latest first
refusals : List Logged → List ℕ
refusals [] = []
refusals (l ∷ ls) = l.refused ∷ refusals ls

calls : List Call
calls =
    join 0 100 0 0 ∷ join 0 100 0 255 ∷ join 1 200 2 0 ∷ join 2 200 1 0 ∷ join 3 300 1 0 ∷ join 2 300 1 200 ∷ join 2 300 1 255
    ∷ join 2 300 1 0 ∷ leave 3 ∷ deliver (name 1 0 2 1 0) ∷ deliver (name 1 0 1 0 0) ∷ deliver (name 1 0 1 0 0)
    ∷ deliver (name 8 0 1 0 0) ∷ turn ∷ leave 1 ∷ leave 1 ∷ []

refused : refusals (log_of (meaning_run 3 2 calls).history)
    ≡ 9 ∷ 0 ∷ 11 ∷ 10 ∷ 10 ∷ 0 ∷ 10 ∷ 3 ∷ 0 ∷ 6 ∷ 3 ∷ 3 ∷ 5 ∷ 0 ∷ 0 ∷ 6 ∷ []
unfolding refusals calls log_of meaning_run steps_from step steps opened nobody call unless_refused accept refusal rows first any is_pending seats_after at
    sends takes is_taken pending_after delivery_sends links_after delivery_links applied rule effect setting meeting probing pulling parting passing
    seeking to_link on_side side_of bit equal_bits shared named if_zero if_bit same_msg among some_pending message_at split pair_at pull_at
    side_at
refused = refl

-- the messages that a bundle delivers, and what it leaves
unfoldable pub bundled : ℕ → Meaning → List Name
bundled n M = bundle_of (call 3 2) 3 2 (λ K. K.pending) n M

unfoldable pub drained : ℕ → Meaning → Meaning
drained n M = left_by (call 3 2) M (bundled n M)

-- Q: lots 100, 200, 300 with vectors 00, 10, 01
unfoldable pub joined-Q : Meaning
joined-Q = (meaning_run 3 2 (join 0 100 0 255 ∷ join 1 200 2 0 ∷ join 2 300 1 0 ∷ [])).now

-- settled: with the links of the graph of its lots and nothing pending
unfoldable pub settled-Q : Meaning
settled-Q = record { seats = joined-Q.seats; link = graph 3 2 (members (λ x. 0) joined-Q.seats); pending = λ m. false }

unfoldable pub links : Meaning → List (Option ℕ)
links M =
    M.link 0 0 right ∷ M.link 1 0 left ∷ M.link 1 0 right ∷ M.link 2 0 left
    ∷ M.link 0 1 right ∷ M.link 2 1 left ∷ M.link 1 1 left ∷ M.link 1 1 right ∷ M.link 0 2 right ∷ []

settled-links : links settled-Q ≡ some 1 ∷ some 0 ∷ some 2 ∷ some 1 ∷ some 2 ∷ some 0 ∷ none ∷ none ∷ none ∷ []
unfolding links settled-Q joined-Q graph nearest nearer beside_in in_list member meaning_run steps_from step steps opened nobody call
    unless_refused accept refusal rows first any is_pending seats_after at sends takes is_taken pending_after links_after on_side bit equal_bits
    shared
settled-links = refl

-- what a call leaves
unfoldable pub after : Meaning → Call → Meaning
after M c = (call 3 2 M c).after
