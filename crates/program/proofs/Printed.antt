-- What P prints, by what the counts and the check say. Assumes nothing.
use Prim.Native.Nat.{ℕ, ◌<◌}
use mathlib.Core.Path.{◌≡◌, ◌∙◌}
use mathlib.Core.Bool.{Bool, true, false, cond}
use mathlib.Core.List.{List, [], ◌++◌, append-nil}
use native.Mathlib.Omega.{arith}
use borrow.Author.Tests.{eq-eqb, ne_eqb}
use Rattle.memory.specs.Bytes.{AreBytes}
use Rattle.graph.specs.Vector.{width}
use Rattle.record.specs.Layout.{seats}
use Rattle.record.specs.Meaning.{meaning}
use Rattle.record.specs.Reading.{CountAnswer, read_counts}
use Rattle.record.proofs.Refused.{Passed}
use Rattle.check_links.specs.Check.{members_in, check_in}
use Rattle.check_links.proofs.Facts.{yes-graph}
use Rattle.check_links.proofs.Whole.{lots-laws}
use Rattle.listing.specs.Text.{lists_text, graph_text}
use Rattle.listing.proofs.Graph.{lists-graph}
use Rattle.program.specs.Text.{refused_text, counts_text}
use Rattle.program.specs.Print.{has_lists, print_text}

module _ (l : List ℕ) (a : CountAnswer) (e : read_counts l ≡ a) where
  pub print-refused : 0 < a.refused → print_text l ≡ refused_text a.refused
  unfolding print_text
  print-refused h = let n : a.refused ≡ 0 → ⊥ = λ z. omega arith in rw (e, ne_eqb a.refused 0 n)

  module _ (z : a.refused ≡ 0) where
    -- without lists, and with them
    print-by : (b : Bool) → has_lists l ≡ b → print_text l ≡ counts_text a ++ cond b (graph_text seats width (members_in l)) []
    unfolding print_text
    print-by b f = rw (f, e, z)

    pub print-waits : (a.pending ≡ 0 → ⊥) → print_text l ≡ counts_text a
    unfolding has_lists
    print-waits n = print-by false (rw (e, ne_eqb a.pending 0 n)) ∙ append-nil (counts_text a)

    pub print-no : a.pending ≡ 0 → (check_in l).yes ≡ false → print_text l ≡ counts_text a
    unfolding has_lists
    print-no p n = print-by false (rw (e, eq-eqb a.pending 0 p, n)) ∙ append-nil (counts_text a)

    pub print-yes : a.pending ≡ 0 → (check_in l).yes ≡ true → print_text l ≡ counts_text a ++ graph_text seats width (members_in l)
    unfolding has_lists
    print-yes p y = print-by true (rw (e, eq-eqb a.pending 0 p, y))

-- where the check says yes, the lists are those that the links make
pub yes-lists : (l : List ℕ) → AreBytes l → Passed l → (check_in l).yes ≡ true
    → lists_text seats width (members_in l) (meaning l).link ≡ graph_text seats width (members_in l)
yes-lists l b p y =
    lists-graph (lots-laws l p.sized b p.fine) ((yes-graph l p.sized b p.fine).0 y)
