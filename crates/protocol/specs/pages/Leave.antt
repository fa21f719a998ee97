-- Leave (document 01, "Calls"): marks a staying lot as leaving; it goes on taking part. Assumes nothing.
use Rattle.std.specs.Prelude.{ℕ, [], ◌∷◌}
use Rattle.std.proofs.Math.Option.{none}
use Rattle.protocol.specs.Rules.{leaving}
use Rattle.protocol.specs.State.{is_clearing, empty, leaves, no_seat}
use Rattle.protocol.specs.Refusals.{no_such_seat, in_clearing, empty_seat, already_leaving, row}
use Rattle.protocol.specs.Page.{Page, same_components, marking}

abbrev pub leave_page : (N W s : ℕ) → Page
leave_page N W s = record {
  rows = λ r p.
      row no_such_seat (no_seat N s)
      ∷ row in_clearing (is_clearing r.phase)
      ∷ row empty_seat (empty r s)
      ∷ row already_leaving (leaves r s)
      ∷ [];
  seats = marking s leaving;
  links = λ M. M.link;
  sends = λ M. [];
  takes = none;
  component = same_components;
  fits = Unit {0};
}
