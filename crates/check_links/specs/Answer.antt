-- The answer of the check in document 01's numbers, by its cases. Assumes nothing.
use Rattle.std.specs.Prelude.{Bool, false, Result, Ok, Err}
use Rattle.record.specs.Answer.{refusal_number}
use Rattle.record.specs.declared.refusals.Refusal.{Refusal}
use Rattle.check_links.specs.Check.{CheckAnswer}

abbrev pub verdict_numbers : Result Bool Refusal → CheckAnswer
verdict_numbers (Err r) = record { refused = refusal_number r; yes = false }
verdict_numbers (Ok y) = record { refused = 0; yes = y }
