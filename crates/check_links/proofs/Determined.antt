-- The answer of the check is determined by its numbers. Assumes nothing.
use mathlib.Core.Path.{◌≡◌, ap}
use mathlib.Core.Bool.{Bool}
use native.Mathlib.Omega.{arith}
use Rattle.std.specs.Prelude.{Result, Ok, Err}
use Rattle.record.specs.declared.refusals.Refusal.{Refusal}
use Rattle.record.proofs.Determined.{refusal_number-positive, refusal-determined}
use Rattle.check_links.specs.Check.{CheckAnswer}
use Rattle.check_links.specs.Answer.{verdict_numbers}

pub verdict-determined : (a b : Result Bool Refusal) → verdict_numbers a ≡ verdict_numbers b → a ≡ b
verdict-determined (Ok x) (Ok y) e = ap (λ (v : CheckAnswer). Ok v.yes) e
verdict-determined (Ok x) (Err r) e = absurd (omega (arith, refusal_number-positive r, ap (λ (v : CheckAnswer). v.refused) e))
verdict-determined (Err r) (Ok y) e = absurd (omega (arith, refusal_number-positive r, ap (λ (v : CheckAnswer). v.refused) e))
verdict-determined (Err r) (Err q) e = ap Err (refusal-determined r q (ap (λ (v : CheckAnswer). v.refused) e))
