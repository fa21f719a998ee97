-- Reserving (document 02, #105): takes seat, number and vector and sends nothing. A reserved lot has no links and is not seated. Meets 3, 7, 4 and
-- 5 as a join does. Assumes nothing.
use Rattle.std.specs.Prelude.{ℕ, ◌^◌, ◌<◌, [], ◌∷◌}
use Rattle.std.proofs.Math.Option.{none}
use Rattle.protocol.specs.Rules.{reserved}
use Rattle.protocol.specs.State.{is_clearing, taken, no_seat}
use Rattle.protocol.specs.Refusals.{no_such_seat, in_clearing, seat_taken, number_in_use, row}
use Rattle.protocol.specs.Page.{Page, same_components, seating, without_links}
use Rattle.protocol.specs.Sound.{number_bits}
use Rattle.protocol.specs.pages.Join.{in_use}

abbrev pub reserve_page : (N W s n v : ℕ) → Page
reserve_page N W s n v = record {
  rows = λ r p.
      row no_such_seat (no_seat N s)
      ∷ row in_clearing (is_clearing r.phase)
      ∷ row seat_taken (taken r s)
      ∷ row number_in_use (in_use N r n)
      ∷ [];
  seats = seating s reserved n v;
  links = λ M. without_links s M.link;
  sends = λ M. [];
  takes = none;
  component = same_components;
  fits = (n < 2 ^ number_bits) × (v < 2 ^ W);
}
