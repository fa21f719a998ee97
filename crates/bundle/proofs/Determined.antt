-- The answer of a bundle is determined by its numbers. Assumes nothing.
use Prim.Native.Nat.{ℕ}
use mathlib.Core.Path.{◌≡◌, ap}
use mathlib.Core.List.{List}
use native.Mathlib.Omega.{arith}
use Rattle.std.specs.Prelude.{Result, Ok, Err}
use Rattle.record.specs.Bundle.{BundleOutcome}
use Rattle.record.specs.declared.refusals.Refusal.{Refusal}
use Rattle.record.proofs.Determined.{refusal_number-positive, refusal-determined}
use Rattle.bundle.specs.Answer.{bundle_outcome}

pub bundle-determined : (a b : Result ℕ Refusal) (l m : List ℕ) → bundle_outcome a l ≡ bundle_outcome b m → a ≡ b
bundle-determined (Ok n) (Ok m) l k e = ap (λ (x : BundleOutcome). Ok x.delivered) e
bundle-determined (Ok n) (Err r) l k e = absurd (omega (arith, refusal_number-positive r, ap (λ (x : BundleOutcome). x.refused) e))
bundle-determined (Err r) (Ok m) l k e = absurd (omega (arith, refusal_number-positive r, ap (λ (x : BundleOutcome). x.refused) e))
bundle-determined (Err r) (Err s) l k e = ap Err (refusal-determined r s (ap (λ (x : BundleOutcome). x.refused) e))
