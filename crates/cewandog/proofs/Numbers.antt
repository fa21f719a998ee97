-- The numbers of a refused search, as they are exported. Assumes nothing.
use Rattle.std.specs.Prelude.{◌≡◌, Err}
use Rattle.std.proofs.Common.{arith}
use borrow.Author.Tests.{ne_eqb}
use Rattle.record.specs.Answer.{refusal_number}
use Rattle.record.specs.declared.refusals.Refusal.{Refusal}
use Rattle.record.proofs.Determined.{refusal_number-positive}
use Rattle.find.specs.Answer.{found_numbers}
use Rattle.cewandog.specs.Numbers.{find_numbers}

-- a refused search
pub refused_numbers : (r : Refusal) → record { refused = refusal_number r; holder = 0; hops = 0 } ≡ find_numbers (found_numbers (Err r))
unfolding find_numbers
refused_numbers r = rw (ne_eqb (refusal_number r) 0 (λ e. omega (arith, e, refusal_number-positive r)))
