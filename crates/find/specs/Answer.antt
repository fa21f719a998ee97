-- The answer of find in document 01's numbers, by its cases. Assumes nothing.
use Rattle.std.specs.Prelude as code
use Rattle.std.specs.Prelude.{ℕ, Result, Ok, Err, None, Some}
use Rattle.std.proofs.Math.Option.{Option, none, some}
use Rattle.record.specs.Answer.{refusal_number}
use Rattle.record.specs.declared.refusals.Refusal.{Refusal}
use Rattle.find.specs.Find.{FindAnswer}
use Rattle.find.specs.declared.Found.{Found}

-- a holder's seat, or none
abbrev pub holder_of : code.Option ℕ → Option ℕ
holder_of None = none
holder_of (Some s) = some s

abbrev pub found_numbers : Result Found Refusal → FindAnswer
found_numbers (Err r) = record { refused = refusal_number r; holder = none; hops = 0 }
found_numbers (Ok f) = record { refused = 0; holder = holder_of f.holder; hops = f.hops }
