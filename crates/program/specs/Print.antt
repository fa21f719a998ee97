-- What P prints of the bytes (document 01, "The program"): seated lots, phase and pending count, then, with nothing pending, each list of two or
-- more lots, while clearing of staying ones. The lists are those of the skip graph that the links are, made within each component: where the
-- check says no there is none to print, which no record made by calls meets. Assumes nothing.
use Rattle.std.specs.Prelude.{ℕ, Bool, cond, ◌&&◌, List, [], ◌++◌, eqb}
use Rattle.graph.specs.Vector.{width}
use Rattle.record.specs.Layout.{seats}
use Rattle.record.specs.Reading.{read_counts}
use Rattle.check_links.specs.Check.{members_in, check_in}
use Rattle.listing.specs.Text.{graph_text}
use Rattle.program.specs.Text.{refused_text, counts_text}

-- nothing is pending, and the links are a skip graph
unfoldable pub has_lists : List ℕ → Bool
has_lists l = eqb (read_counts l).pending 0 && (check_in l).yes

unfoldable pub print_text : List ℕ → List ℕ
print_text l = let a = read_counts l in
    cond (eqb a.refused 0) (counts_text a ++ cond (has_lists l) (graph_text seats width (members_in l)) []) (refused_text a.refused)
