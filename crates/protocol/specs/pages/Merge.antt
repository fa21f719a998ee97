-- Two halves find each other (document 02, #107): names two seated lots, staying or leaving. The first gets MEET about the second at level 0, in phase
-- open, also while other messages are pending. In the roster the two components become one. Assumes nothing.
use Rattle.std.specs.Prelude.{ℕ, cond, ◌||◌, [], ◌∷◌, eqb}
use Rattle.std.proofs.Math.Option.{none}
use Rattle.protocol.specs.Message.{meet}
use Rattle.protocol.specs.State.{is_clearing, empty, no_seat}
use Rattle.protocol.specs.Refusals.{no_such_seat, in_clearing, empty_seat, same_lot, row}
use Rattle.protocol.specs.Page.{Page}

-- every lot of the component of b is in that of a
unfoldable pub united : (a b : ℕ) → (ℕ → ℕ) → ℕ → ℕ
united a b c x = cond (eqb (c x) (c b)) (c a) (c x)

abbrev pub merge_page : (N W a b : ℕ) → Page
merge_page N W a b = record {
  rows = λ r p.
      row no_such_seat (no_seat N a || no_seat N b)
      ∷ row in_clearing (is_clearing r.phase)
      ∷ row empty_seat (empty r a || empty r b)
      ∷ row same_lot (eqb a b)
      ∷ [];
  seats = λ r. r;
  links = λ M. M.link;
  sends = λ M. meet a b 0 ∷ [];
  takes = none;
  component = λ r. united a b;
  fits = Unit {0};
}
