-- Evaluated facts of documents 01 and 02: cases (b) to (e) and the scan of (k) on the settled record Q, the check on right and wrong links, and
-- both with two components. Assumes nothing.
use Prim.Native.Nat.{ℕ, ◌+◌, ◌*◌, ◌%◌}
use mathlib.Core.Path.{◌≡◌, refl}
use mathlib.Core.Option.{none, some}
use mathlib.Core.List.{[], ◌∷◌}
use mathlib.Core.Bool.{Bool, true, false, not, cond, ◌&&◌}
use lib.Dec.{eqb, ltb}
use lib.ListN.{get_or}
use Rattle.graph.specs.Side.{left, right, on_side, side_of}
use Rattle.graph.specs.Vector.{bit, equal_bits, shared}
use Rattle.graph.specs.Graph.{Lots, Links, in_list, beside, nearer, nearest, graph}
use Rattle.graph.specs.Components.{names, links_to, linked_with, joined_below, component_of, by_links}
use Rattle.graph.proofs.Examples.{settled_q, link_q}
use Rattle.search.specs.Walk.{Found, along, step_at, walk, path, printable, to_staying, left_steps, route, find}
use Rattle.base.specs.Loops.{all, any, first_from}
use Rattle.search.specs.Check.{same_link, level_right, check}
use Rattle.search.specs.inner.LinkCheck.{back_of, backs_ok, ahead, above_ok, lot_backs, lot_aboves, constraints_ok}

-- F start number, in Q with some lots marked
abbrev find_q : (marked : ℕ → Bool) (s x : ℕ) → Found
find_q marked s x = find (λ z. settled_q.member z && not (marked z)) settled_q.number link_q x 4 8 s

pub case-b : find_q (λ z. false) 0 99 ≡ record { holder = none; hops = 0 }
unfolding find route left_steps to_staying printable path walk step_at along graph nearest nearer beside in_list on_side side_of shared equal_bits bit
case-b = refl

pub case-c : find_q (λ z. false) 0 300 ≡ record { holder = some 2; hops = 1 }
unfolding find route left_steps to_staying printable path walk step_at along graph nearest nearer beside in_list on_side side_of shared equal_bits bit
case-c = refl

pub case-d : find_q (λ z. false) 2 250 ≡ record { holder = some 1; hops = 1 }
unfolding find route left_steps to_staying printable path walk step_at along graph nearest nearer beside in_list on_side side_of shared equal_bits bit
case-d = refl

pub case-e : find_q (λ z. false) 2 100 ≡ record { holder = some 0; hops = 1 }
unfolding find route left_steps to_staying printable path walk step_at along graph nearest nearer beside in_list on_side side_of shared equal_bits bit
case-e = refl

-- document 02, #104: with 1 marked
pub case-k : find_q (λ z. eqb z 1) 0 250 ≡ record { holder = some 0; hops = 2 }
unfolding find route left_steps to_staying printable path walk step_at along graph nearest nearer beside in_list on_side side_of shared equal_bits bit
case-k = refl

-- the check of specs/, with the components of the links, and the one of the code both say b
abbrev Checked : Lots → Links → Bool → Type 0
Checked G L b = (check 4 8 (by_links 4 8 G L) L ≡ b) × (constraints_ok 4 8 G L ≡ b)

pub yes-Q : Checked settled_q link_q true
unfolding check level_right all same_link constraints_ok lot_backs lot_aboves above_ok ahead backs_ok back_of
    graph nearest nearer beside in_list on_side shared equal_bits bit component_of first_from joined_below linked_with links_to any names
yes-Q = (refl, refl)

-- Q without the left link of lot 300 at level 1
abbrev missing : Links
missing x k left = cond (eqb x 2 && eqb k 1) none (link_q x k left)
missing x k right = link_q x k right

pub no-missing : Checked settled_q missing false
unfolding check level_right all same_link constraints_ok lot_backs lot_aboves above_ok ahead backs_ok back_of
    graph nearest nearer beside in_list on_side shared equal_bits bit component_of first_from joined_below linked_with links_to any names
no-missing = (refl, refl)

-- two components: lots 100 and 300 on seats 0 and 2, linked at levels 0 and 1, and 200 and 400 on seats 1 and 3, linked at level 0
abbrev four_lots : Lots
four_lots = record {
  member = λ x. ltb x 4;
  number = λ x. (x + 1) * 100;
  vector = λ x. get_or (0 ∷ (0 ∷ (64 ∷ (128 ∷ [])))) x 0;
  component = λ x. x % 2;
}

abbrev two_lists : Links
two_lists = graph 4 8 four_lots

pub yes-two : Checked four_lots two_lists true
unfolding check level_right all same_link constraints_ok lot_backs lot_aboves above_ok ahead backs_ok back_of
    graph nearest nearer beside in_list on_side shared equal_bits bit component_of first_from joined_below linked_with links_to any names
yes-two = (refl, refl)

-- as one component they are not the graph: 100 and 200 are not linked
pub no-one-list : check 4 8 (record { member = four_lots.member; number = four_lots.number; vector = four_lots.vector; component = λ x. 0 }) two_lists
    ≡ false
unfolding check level_right all same_link graph nearest nearer beside in_list on_side shared equal_bits bit
no-one-list = refl

-- a scan sees the lots of its start's component alone: from 100 on 250 belongs to 100, from 400 on to 200; 150 has no holder from 400 on
pub scan-each : ((find four_lots.member four_lots.number two_lists 250 4 8 0).holder ≡ some 0)
    × ((find four_lots.member four_lots.number two_lists 250 4 8 3).holder ≡ some 1)
    × ((find four_lots.member four_lots.number two_lists 150 4 8 3).holder ≡ none)
unfolding find route left_steps to_staying printable path walk step_at along graph nearest nearer beside in_list on_side side_of shared equal_bits bit
scan-each = (refl, refl, refl)

-- without the links between 100 and 300 at level 1
abbrev missing_inside : Links
missing_inside x k d = cond (eqb k 1) none (two_lists x k d)

pub no-missing-inside : Checked four_lots missing_inside false
unfolding check level_right all same_link constraints_ok lot_backs lot_aboves above_ok ahead backs_ok back_of
    graph nearest nearer beside in_list on_side shared equal_bits bit component_of first_from joined_below linked_with links_to any names
no-missing-inside = (refl, refl)
