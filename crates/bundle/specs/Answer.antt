-- The answer of a bundle in document 01's numbers, by its cases. Assumes nothing.
use Rattle.std.specs.Prelude.{ℕ, List, Result, Ok, Err}
use Rattle.record.specs.Bundle.{BundleOutcome}
use Rattle.record.specs.Answer.{refusal_number}
use Rattle.record.specs.declared.refusals.Refusal.{Refusal}

-- what a bundle came to that answered so and left the bytes l: how many messages were delivered, or the refusal
abbrev pub bundle_outcome : Result ℕ Refusal → List ℕ → BundleOutcome
bundle_outcome (Ok n) l = record { refused = 0; delivered = n; after = l }
bundle_outcome (Err r) l = record { refused = refusal_number r; delivered = 0; after = l }
