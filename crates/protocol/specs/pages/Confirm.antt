-- Confirming (document 02, #105): names a reserved seat and the contact, and does the rest of the join: the lot is staying, with the number and
-- the vector of its reservation, and the contact gets MEET about it at level 0. In a record without seated lots the contact is 255 and nothing is
-- sent. Meets 3, 7 and 6 as a join does. Assumes nothing.
use Rattle.std.specs.Prelude.{ℕ, not, ◌||◌, [], ◌∷◌}
use Rattle.std.proofs.Math.Option.{none}
use Rattle.protocol.specs.Rules.{staying}
use Rattle.protocol.specs.State.{is_clearing, held, no_seat}
use Rattle.protocol.specs.Refusals.{no_such_seat, in_clearing, not_reserved, no_contact, row}
use Rattle.protocol.specs.Page.{Page, marking}
use Rattle.protocol.specs.pages.Join.{no_such_contact, lacks_contact, greeting, admitted}

abbrev pub confirm_page : (N W s c : ℕ) → Page
confirm_page N W s c = record {
  rows = λ r p.
      row no_such_seat (no_seat N s || no_such_contact N c)
      ∷ row in_clearing (is_clearing r.phase)
      ∷ row not_reserved (not (held r s))
      ∷ row no_contact (lacks_contact N r c)
      ∷ [];
  seats = marking s staying;
  links = λ M. M.link;
  sends = λ M. greeting N s c;
  takes = none;
  component = λ r. admitted N s c;
  fits = Unit {0};
}
