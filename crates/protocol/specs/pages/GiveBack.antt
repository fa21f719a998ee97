-- Giving back (document 02, #105): a reserved seat becomes free, its entry as opened, in either phase. Assumes nothing.
use Rattle.std.specs.Prelude.{ℕ, not, [], ◌∷◌}
use Rattle.std.proofs.Math.Option.{none}
use Rattle.protocol.specs.Rules.{free}
use Rattle.protocol.specs.State.{held, no_seat}
use Rattle.protocol.specs.Refusals.{no_such_seat, not_reserved, row}
use Rattle.protocol.specs.Page.{Page, same_components, seating, without_links}

abbrev pub give_back_page : (N W s : ℕ) → Page
give_back_page N W s = record {
  rows = λ r p. row no_such_seat (no_seat N s) ∷ row not_reserved (not (held r s)) ∷ [];
  seats = seating s free 0 0;
  links = λ M. without_links s M.link;
  sends = λ M. [];
  takes = none;
  component = same_components;
  fits = Unit {0};
}
