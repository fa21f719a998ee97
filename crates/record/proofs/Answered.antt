-- What a call answers, from what its tests answer: a refusal that is handed on, the bytes of another size, the record's rows and then the table's, and
-- an accepted call. Assumes nothing.
use mathlib.Core.Path.{◌≡◌, refl, sym, ap, ◌∙◌}
use mathlib.Core.Logic.{◌≢◌}
use mathlib.Core.List.{List}
use native.Mathlib.Omega.{arith}
use lib.ListN.{length}
use Rattle.std.specs.Prelude.{ℕ, Result, Ok, Err}
use Rattle.std.specs.Result.{IsErrAnd}
use Rattle.memory.specs.Bytes.{AreBytes}
use Rattle.graph.specs.Vector.{width}
use Rattle.protocol.specs.Calls.{Call, refusal, accept}
use Rattle.record.specs.Layout.{seats, size}
use Rattle.record.specs.Meaning.{meaning, bytes_of}
use Rattle.record.specs.Reading.{record_refusal}
use Rattle.record.specs.Call.{call_refusal, called}
use Rattle.record.specs.Answer.{refusal_number, number_of, outcome}
use Rattle.record.specs.declared.refusals.Refusal.{Refusal}
use Rattle.record.specs.declared.refusals.Refusal.TheVariants as refused
use Rattle.record.proofs.Determined.{refusal_number-positive}
use Rattle.record.proofs.Refused.{wrong_size_lem}
use Rattle.record.proofs.Accepted.{Accepted, accepted, refused-early, refused-late, outcome-refused, outcome-done}

-- an answer that `?` makes of a refusal has its number
pub refusal-on : {A : Type 0} (B : Type 0) (a : Result A Refusal) (r : Refusal) {n : ℕ} → IsErrAnd a (λ q. q ≡ r)
    → number_of {A = B} (Err r) ≡ n → number_of a ≡ n
unfolding number_of
refusal-on B (Ok x) r e h = absurd e
refusal-on B (Err q) r e h = ap refusal_number e ∙ h

-- a refusal is no accepted call
refusal-not-0 : (r : Refusal) → refusal_number r ≢ 0
refusal-not-0 r e = omega (arith, e, refusal_number-positive r)

module _ (l : List ℕ) (c : Call) where
  -- the record's refusal is the call's
  pub answered-early : {A : Type 0} (B : Type 0) (a : Result A Refusal) (r : Refusal) → IsErrAnd a (λ q. q ≡ r)
      → number_of {A = B} (Err r) ≡ record_refusal l → number_of a ≡ call_refusal l c
  unfolding number_of
  answered-early B (Ok x) r e h = absurd e
  answered-early B (Err q) r e h = ap refusal_number e ∙ refused-early l c h (refusal-not-0 r)

  -- and where it has none, the table's is
  pub answered-late : {A B : Type 0} (x : B) (a : Result A Refusal) → number_of (Ok x) ≡ record_refusal l
      → number_of a ≡ refusal seats width (meaning l).seats (meaning l).pending c → number_of a ≡ call_refusal l c
  unfolding number_of
  answered-late x a z h = refused-late l c z refl h

  -- bytes of another size
  pub answered-size : length l ≢ size → outcome {A = Unit {0}} (Err refused.WrongSize) l ≡ called l c
  unfolding number_of
  answered-size h = outcome-refused l c _ (wrong-size h) (refusal-not-0 refused.WrongSize) refl
    where
      wrong-size : length l ≢ size → refusal_number refused.WrongSize ≡ call_refusal l c
      wrong-size h = refused-early l c (wrong_size_lem l h) (refusal-not-0 refused.WrongSize)

  -- a refused call leaves the bytes
  pub answered-refused : {A : Type 0} (B : Type 0) (a : Result A Refusal) (r : Refusal) → IsErrAnd a (λ q. q ≡ r)
      → number_of {A = B} (Err r) ≡ call_refusal l c → outcome a l ≡ called l c
  unfolding number_of
  answered-refused B (Ok x) r e h = absurd e
  answered-refused B (Err q) r e h = outcome-refused l c _ h (refusal-not-0 r) (ap refusal_number e)

  -- so does one on a record that is refused
  pub refused-record : {A : Type 0} (B : Type 0) (a : Result A Refusal) (r : Refusal) → IsErrAnd a (λ q. q ≡ r)
      → number_of {A = B} (Err r) ≡ record_refusal l → outcome a l ≡ called l c
  unfolding number_of
  refused-record B (Ok x) r e h = absurd e
  refused-record B (Err q) r e h = outcome-refused l c _ (refused-early l c h (refusal-not-0 r)) (refusal-not-0 r) (ap refusal_number e)

  -- an accepted one those of the meaning after it
  pub answered-done : {A B : Type 0} (x : A) (y : B) {m : List ℕ} → number_of (Ok x) ≡ call_refusal l c
      → m ≡ bytes_of (accept seats width (meaning l) c) → outcome (Ok y) m ≡ called l c
  unfolding number_of
  answered-done x y z h = outcome-done l c (sym z) h

  -- what it is made on
  pub answered-accepted : {A : Type 0} (x : A) → AreBytes l → number_of (Ok x) ≡ call_refusal l c → Accepted l c
  unfolding number_of
  answered-accepted x b z = accepted l c b (sym z)

-- nothing is refused: the number is 0
pub number-0 : {A : Type 0} (x : A) {n : ℕ} → number_of (Ok x) ≡ n → n ≡ 0
unfolding number_of
number-0 x e = sym e
