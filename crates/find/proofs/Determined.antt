-- The answer of find is determined by its numbers. Assumes nothing.
use Prim.Native.Nat.{ℕ}
use mathlib.Core.Path.{◌≡◌, refl, ap}
use native.Mathlib.Omega.{arith}
use Rattle.std.specs.Prelude as code
use Rattle.std.specs.Prelude.{Result, Ok, Err, None, Some}
use Rattle.record.specs.declared.refusals.Refusal.{Refusal}
use Rattle.record.proofs.Determined.{refusal_number-positive, refusal-determined}
use Rattle.find.specs.Find.{FindAnswer}
use Rattle.find.specs.Answer.{holder_of, found_numbers}
use Rattle.find.specs.declared.Found.{Found}

holder-determined : (a b : code.Option ℕ) → holder_of a ≡ holder_of b → a ≡ b
holder-determined None None e = refl
holder-determined None (Some t) e = cc
holder-determined (Some s) None e = cc
holder-determined (Some s) (Some t) e = cc

pub found-determined : (a b : Result Found Refusal) → found_numbers a ≡ found_numbers b → a ≡ b
found-determined (Ok f) (Ok g) e =
    let o = holder-determined f.holder g.holder (ap (λ (x : FindAnswer). x.holder) e) in
    let c = ap (λ (x : FindAnswer). x.hops) e in
    rw (o, c)
found-determined (Ok f) (Err r) e = absurd (omega (arith, refusal_number-positive r, ap (λ (x : FindAnswer). x.refused) e))
found-determined (Err r) (Ok g) e = absurd (omega (arith, refusal_number-positive r, ap (λ (x : FindAnswer). x.refused) e))
found-determined (Err r) (Err q) e = ap Err (refusal-determined r q (ap (λ (x : FindAnswer). x.refused) e))
