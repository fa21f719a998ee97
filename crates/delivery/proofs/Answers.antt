-- What a delivery comes to: refused, by the record or because the message is not pending, or done. Assumes nothing.
use Prim.Native.Nat.{ℕ}
use mathlib.Core.Path.{◌≡◌, refl, sym, ◌∙◌}
use mathlib.Core.Bool.{Bool, true, false, not}
use mathlib.Core.List.{List, [], ◌∷◌}
use native.Mathlib.Omega.{arith}
use Rattle.graph.specs.Vector.{width}
use Rattle.protocol.specs.Message.{Name, named}
use Rattle.protocol.specs.Calls.{deliver, rows, refusal, accept}
use Rattle.protocol.specs.Refusals.{row, first}
use Rattle.protocol.specs.State.{is_pending}
use Rattle.record.specs.Layout.{seats}
use Rattle.record.specs.Meaning.{meaning, bytes_of}
use Rattle.record.specs.Reading.{record_refusal}
use Rattle.record.specs.Call.{call_refusal, called}
use Rattle.std.specs.Prelude.{Result, Ok, Err}
use Rattle.record.specs.Answer.{number_of, outcome}
use Rattle.record.specs.declared.refusals.Refusal.{Refusal}
use Rattle.record.specs.declared.refusals.Refusal.TheVariants.{NoSuchMessage}
use Rattle.record.proofs.Refused.{record-passed}
use Rattle.record.proofs.Accepted.{outcome-refused, outcome-done}
use Rattle.record.proofs.Call.{record-accepted}

-- answer a and the bytes y are what the delivery of n on l comes to
abbrev pub Told : (l : List ℕ) → Name → Result (Unit {0}) Refusal → (y : List ℕ) → Type 0
Told l n a y = outcome a y ≡ called l (deliver n)

-- the record is not refused: the message is pending or not
module _ (l : List ℕ) (n : Name) (fine : record_refusal l ≡ 0) where
  refusal_is : (b : Bool) → is_pending (meaning l).pending (named n) ≡ b → call_refusal l (deliver n) ≡ first (row 10 (not b) ∷ [])
  unfolding refusal rows
  refusal_is b p = let f = record-passed l refl fine in record-accepted l f.sized f.fine (deliver n) ∙ rw p

  pub refuse-message : is_pending (meaning l).pending (named n) ≡ false → Told l n (Err NoSuchMessage) l
  unfolding first number_of
  refuse-message p = outcome-refused l (deliver n) 10 (sym (refusal_is false p)) (λ e. omega arith) refl

  pub delivered : {y : List ℕ} → is_pending (meaning l).pending (named n) ≡ true → y ≡ bytes_of (accept seats width (meaning l) (deliver n))
      → Told l n (Ok tt) y
  unfolding first number_of
  delivered p h = outcome-done l (deliver n) (refusal_is true p) h
