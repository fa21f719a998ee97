-- Worked examples: the record Q, and lists with neighbours, written out. Assumes nothing.
use Prim.Native.Nat.{ℕ}
use mathlib.Core.Path.{◌≡◌, refl}
use mathlib.Core.Bool.{not, ◌&&◌}
use mathlib.Core.List.{List, [], ◌∷◌}
use lib.Dec.{eqb, ltb}
use lib.ListN.{get_or}
use Rattle.base.specs.Loops.{tabulate_from}
use Rattle.graph.specs.Side.{on_side}
use Rattle.graph.specs.Vector.{bit, equal_bits, shared}
use Rattle.graph.specs.Graph.{Lots, in_list, beside, nearer, nearest, graph}
use Rattle.command.specs.Ascii.{ascii}
use Rattle.command.specs.Text.{shown_in, shown, spaced}
use Rattle.listing.specs.Lists.{begins, right_from, shared_bits, comes_before, comes_after, earlier, first_of, next_first, onward, firsts_after}
use Rattle.listing.specs.Text.{text_of_all, text_below, bits_text, list_text, level_text, lists_text, graph_text}

-- lots on n seats with these numbers, vectors and components
abbrev lots : (n : ℕ) (numbers vectors components : List ℕ) → Lots
lots n ns vs cs = record { member = λ x. ltb x n; number = λ x. get_or ns x 0; vector = λ x. get_or vs x 0; component = λ x. get_or cs x 0 }

q : Lots
q = lots 3 (100 ∷ 200 ∷ 300 ∷ []) (0 ∷ 128 ∷ 64 ∷ []) []

-- Q where lot 200 is no member, as a leaving one while clearing
clearing : Lots
clearing = record { member = λ x. q.member x && not (eqb x 1); number = q.number; vector = q.vector; component = q.component }

-- seats that descend as the numbers ascend, and two lists at level 1, of which the one with the higher bit has the smaller number
descending : Lots
descending = lots 4 (400 ∷ 300 ∷ 200 ∷ 100 ∷ []) (0 ∷ 2 ∷ 1 ∷ 3 ∷ []) []

-- equal vectors, and two components whose lots lie between each other
parted : Lots
parted = lots 4 (100 ∷ 50 ∷ 300 ∷ 400 ∷ []) [] (0 ∷ 1 ∷ 0 ∷ 1 ∷ [])

-- three lots with the bits 101, and two with different ones
equal : Lots
equal = lots 3 (7 ∷ 9 ∷ 8 ∷ []) (5 ∷ 5 ∷ 5 ∷ []) []

apart : Lots
apart = lots 2 (7 ∷ 9 ∷ []) (0 ∷ 4 ∷ []) []

record Evaluated : Type 0 where
  -- document 01's example
  settled : graph_text 3 8 q ≡ ascii "0 -: 100 200 300\n1 0: 100 300\n"
  -- only members
  members : graph_text 3 8 clearing ≡ ascii "0 -: 100 300\n1 0: 100 300\n"
  -- bits ascending, whatever the seats and the first numbers; numbers ascending in a list
  order : graph_text 4 2 descending ≡ ascii "0 -: 100 200 300 400\n1 0: 200 400\n1 1: 100 300\n"
  -- a list for each component, that of the smaller first number first
  components : graph_text 4 1 parted ≡ ascii "0 -: 50 400\n0 -: 100 300\n1 0: 50 400\n1 0: 100 300\n"
  -- all levels, the highest bit first
  levels : graph_text 3 3 equal ≡ ascii "0 -: 7 8 9\n1 1: 7 8 9\n2 10: 7 8 9\n3 101: 7 8 9\n"
  -- lists of one lot are left out
  two : graph_text 2 3 apart ≡ ascii "0 -: 7 9\n"
  one : graph_text 1 3 apart ≡ []

evaluated : Evaluated
unfolding q clearing descending parted equal apart graph nearest nearer beside in_list shared equal_bits bit on_side tabulate_from begins right_from
    shared_bits comes_before comes_after earlier first_of next_first onward firsts_after text_of_all text_below bits_text list_text level_text
    lists_text shown_in shown spaced ascii
evaluated = record { settled = refl; members = refl; order = refl; components = refl; levels = refl; two = refl; one = refl }
