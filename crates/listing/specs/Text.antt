-- The text of the lists (document 01, "The program"): level, shared bits, numbers; lower level first. Assumes nothing.
use Rattle.std.specs.Prelude.{ℕ, zero, suc, ◌+◌, List, [], ◌∷◌, ◌++◌, map}
use Rattle.std.proofs.Math.Option.{some}
use Rattle.base.specs.Loops.{one_if, tabulate}
use Rattle.graph.specs.Vector.{bit}
use Rattle.graph.specs.Graph.{Lots, Links, graph}
use Rattle.command.specs.Ascii.{ascii}
use Rattle.command.specs.Text.{shown, spaced}
use Rattle.listing.specs.Lists.{right_from, firsts}

-- the texts of the numbers of a list, one after the other
unfoldable pub text_of_all : (text : ℕ → List ℕ) → List ℕ → List ℕ
text_of_all text [] = []
text_of_all text (x ∷ xs) = text x ++ text_of_all text xs

-- those of the numbers below n
unfoldable pub text_below : (n : ℕ) (text : ℕ → List ℕ) → List ℕ
text_below zero text = []
text_below (suc n) text = text_below n text ++ text n

-- the first k of W bits of a vector, a digit each; `-` at level 0
unfoldable pub bits_text : (W k v : ℕ) → List ℕ
bits_text W zero v = ascii "-"
bits_text W (suc k) v = tabulate (suc k) (λ j. 48 + one_if (bit W j v))

module _ (N W : ℕ) (G : Lots) (L : Links) where
  -- the list of level k that begins with x
  unfoldable pub list_text : (k x : ℕ) → List ℕ
  list_text k x = shown k ++ (ascii " " ++ (bits_text W k (G.vector x) ++ (ascii ":"
      ++ (spaced (map (λ z. shown (G.number z)) (right_from L N k (some x))) ++ ascii "\n"))))

  -- the lists of level k
  unfoldable pub level_text : (k : ℕ) → List ℕ
  level_text k = text_of_all (list_text k) (firsts W G L N k)

  -- the lists of all levels
  unfoldable pub lists_text : List ℕ
  lists_text = text_below (suc W) level_text

-- the lists of the skip graph of the members
abbrev pub graph_text : (N W : ℕ) → Lots → List ℕ
graph_text N W G = lists_text N W G (graph N W G)
