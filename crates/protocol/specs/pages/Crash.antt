-- A scale dies (document 02, #106): names seats by a set, bit 0 the lowest for seat 0. They become free, links to them become none, and every link
-- that remains at levels 1 to W sends MEET at level 0, to each end about the other. The set 0 changes nothing. In the roster the components are
-- then those of the links of its own graph that are left. Assumes nothing.
use Rattle.std.specs.Prelude.{ℕ, suc, ◌^◌, ◌<◌, Bool, cond, ◌&&◌, List, [], ◌∷◌, ◌++◌, eqb}
use Rattle.std.proofs.Math.Option.{none}
use Rattle.base.specs.Loops.{any}
use Rattle.base.specs.Bits.{has_bit}
use Rattle.graph.specs.Side.{Side, left, right}
use Rattle.graph.specs.Graph.{Links, graph}
use Rattle.graph.specs.Components.{component_of}
use Rattle.protocol.specs.Message.{Msg, meet}
use Rattle.protocol.specs.Numbering.{some_pending}
use Rattle.protocol.specs.Rules.{to_link}
use Rattle.protocol.specs.State.{Seats, is_clearing, empty, member, members}
use Rattle.protocol.specs.Refusals.{in_clearing, empty_seat, messages_left, row}
use Rattle.protocol.specs.Page.{Page, each}
use Rattle.protocol.specs.Freeing.{freeing, unlinking}

-- some seat of the set is free or only reserved
abbrev pub names_empty : (N : ℕ) → Seats → (set : ℕ) → Bool
names_empty N r set = any N (λ x. has_bit set x && empty r x)

-- MEET at level 0 to each end of the link of x at level k on side d, about the other
unfoldable pub introduced : Links → (x k : ℕ) → Side → List Msg
introduced L x k d = to_link (L x k d) (λ y. meet x y 0) ++ to_link (L x k d) (λ y. meet y x 0)

-- of every link above level 0
unfoldable pub introductions : (N W : ℕ) → Links → List Msg
introductions N W L = each N (λ x. each W (λ k. introduced L x (suc k) left ++ introduced L x (suc k) right))

-- the components of the links of the roster's graph that are left once the seats of the set are free
unfoldable pub cut : (N W set : ℕ) → Seats → (ℕ → ℕ) → ℕ → ℕ
cut N W set r c x =
    component_of W (member (freeing (has_bit set) r.phase r)) (unlinking (has_bit set) (graph N W (members c r))) N x

abbrev pub crash_page : (N W set : ℕ) → Page
crash_page N W set = record {
  rows = λ r p.
      row in_clearing (is_clearing r.phase)
      ∷ row empty_seat (names_empty N r set)
      ∷ row messages_left (some_pending N W p)
      ∷ [];
  seats = λ r. freeing (has_bit set) r.phase r;
  links = λ M. unlinking (has_bit set) M.link;
  sends = λ M. cond (eqb set 0) [] (introductions N W (unlinking (has_bit set) M.link));
  takes = none;
  component = λ r c. cond (eqb set 0) c (cut N W set r c);
  fits = set < 2 ^ N;
}
