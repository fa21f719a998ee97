-- Evaluated facts: document 01's case (a), the same vectors at twice the width, the graph of the settled record Q, and components by the links.
-- Assumes nothing.
use Prim.Native.Nat.{ℕ, ◌+◌, ◌-◌, ◌*◌}
use mathlib.Core.Path.{◌≡◌, refl}
use mathlib.Core.Option.{Option, none, some}
use mathlib.Core.List.{List, [], ◌∷◌}
use mathlib.Core.Bool.{Bool, not, cond, ◌&&◌}
use lib.Dec.{eqb, ltb}
use lib.ListN.{get_or}
use Rattle.base.specs.Loops.{any, first_from}
use Rattle.graph.specs.Side.{Side, left, right, on_side}
use Rattle.graph.specs.Vector.{bit, equal_bits, shared}
use Rattle.graph.specs.Graph.{Lots, Links, in_list, beside, nearer, nearest, graph}
use Rattle.graph.specs.Components.{names, links_to, linked_with, joined_below, component_of}

-- case (a)
pub share-0-128 : shared 8 0 128 ≡ 0
unfolding shared equal_bits bit
share-0-128 = refl

pub share-0-64 : shared 8 0 64 ≡ 1
unfolding shared equal_bits bit
share-0-64 = refl

pub share-64-64 : shared 8 64 64 ≡ 8
unfolding shared equal_bits bit
share-64-64 = refl

-- at width 16 the same bits stand 8 places higher
pub wide-0-128 : shared 16 0 (128 * 256) ≡ 0
unfolding shared equal_bits bit
wide-0-128 = refl

pub wide-0-64 : shared 16 0 (64 * 256) ≡ 1
unfolding shared equal_bits bit
wide-0-64 = refl

pub wide-64-64 : shared 16 (64 * 256) (64 * 256) ≡ 16
unfolding shared equal_bits bit
wide-64-64 = refl

-- the settled record Q: lots 100, 200 and 300 with vectors 0, 128 and 64 on seats 0, 1 and 2
abbrev pub settled_q : Lots
settled_q = record {
  member = λ x. ltb x 3;
  number = λ x. get_or (100 ∷ (200 ∷ (300 ∷ []))) x 0;
  vector = λ x. get_or (0 ∷ (128 ∷ (64 ∷ []))) x 0;
  component = λ x. 0;
}

abbrev pub link_q : (x k : ℕ) (d : Side) → Option ℕ
link_q x k d = graph 4 8 settled_q x k d

-- its listing, "0 -: 100 200 300"
pub q_level_0 : (link_q 0 0 left ≡ none) × (link_q 0 0 right ≡ some 1) × (link_q 1 0 left ≡ some 0) × (link_q 1 0 right ≡ some 2)
    × (link_q 2 0 left ≡ some 1) × (link_q 2 0 right ≡ none)
unfolding graph nearest nearer beside in_list on_side shared equal_bits bit
q_level_0 = (refl, refl, refl, refl, refl, refl)

-- "1 0: 100 300"; lot 200 is alone there
pub q_level_1 : (link_q 0 1 left ≡ none) × (link_q 0 1 right ≡ some 2) × (link_q 1 1 left ≡ none) × (link_q 1 1 right ≡ none)
    × (link_q 2 1 left ≡ some 0) × (link_q 2 1 right ≡ none)
unfolding graph nearest nearer beside in_list on_side shared equal_bits bit
q_level_1 = (refl, refl, refl, refl, refl, refl)

-- the components of lots on seats 0 to 3, as a list
abbrev pub labels_of : (member : ℕ → Bool) → Links → List ℕ
labels_of member L = let c = component_of 8 member L 4 in c 0 ∷ (c 1 ∷ (c 2 ∷ (c 3 ∷ [])))

-- one link: at level k on the right, from x to y
abbrev one_link : (x k y : ℕ) → Links
one_link x k y z i left = none
one_link x k y z i right = cond (eqb z x && eqb i k) (some y) none

-- 0 and 2 are linked, and 1 and 3
abbrev crossed : Links
crossed x k left = cond (eqb k 0 && ltb 1 x) (some (x - 2)) none
crossed x k right = cond (eqb k 0 && ltb x 2) (some (x + 2)) none

pub two-components : labels_of (λ x. ltb x 4) crossed ≡ 0 ∷ (1 ∷ (0 ∷ (1 ∷ [])))
unfolding component_of first_from joined_below linked_with links_to any names
two-components = refl

-- a link without its link back joins too, at whatever level
pub joined-above : labels_of (λ x. ltb x 4) (one_link 1 8 3) ≡ 0 ∷ (1 ∷ (2 ∷ (1 ∷ [])))
unfolding component_of first_from joined_below linked_with links_to any names
joined-above = refl

-- and through a lot: all of Q. Without 200 on seat 1, 100 and 300 are joined at level 1
pub joined-through : (labels_of settled_q.member link_q ≡ 0 ∷ (0 ∷ (0 ∷ (3 ∷ []))))
    × (labels_of (λ x. settled_q.member x && not (eqb x 1)) link_q ≡ 0 ∷ (1 ∷ (0 ∷ (3 ∷ []))))
unfolding component_of first_from joined_below linked_with links_to any names graph nearest nearer beside in_list on_side shared equal_bits bit
joined-through = (refl, refl)

-- a link to a lot that is no node joins nobody
pub apart-outside : labels_of (λ x. ltb x 3) (one_link 1 0 3) ≡ 0 ∷ (1 ∷ (2 ∷ (3 ∷ [])))
unfolding component_of first_from joined_below linked_with links_to any names
apart-outside = refl
