-- The refusal of a scan, row after row, and what holds where no row applies. Assumes nothing.
use Prim.Native.Nat.{ℕ, ◌≤◌, ◌<◌}
use mathlib.Core.Path.{◌≡◌, refl, sym}
use mathlib.Core.Logic.{◌≢◌}
use mathlib.Core.Bool.{Bool, true, false, not}
use mathlib.Core.List.{List, [], ◌∷◌}
use native.Mathlib.Omega.{arith}
use lib.Dec.{T}
use lib.ListN.{length}
use borrow.Author.Tests.{lt-ltb, le-ltb, not-true, not-false}
use Rattle.std.specs.Prelude.{Option, None, Some, is_some, Result, Ok, Err}
use Rattle.std.specs.Result.{IsErrAnd}
use Rattle.base.proofs.Tests.{true-T}
use Rattle.graph.specs.Vector.{width}
use Rattle.protocol.specs.Numbering.{some_pending}
use Rattle.protocol.specs.State.{seated}
use Rattle.protocol.specs.Refusals.{wrong_size, no_such_seat, empty_seat, unsettled, Row, first}
use Rattle.protocol.proofs.Calls.{no_row}
use Rattle.record.specs.Layout.{seats, size}
use Rattle.record.specs.Meaning.{seats_in, meaning}
use Rattle.record.specs.Reading.{size_row, sound_row, seat_row, empty_row, record_refusal}
use Rattle.record.specs.Answer.{number_of}
use Rattle.record.specs.declared.refusals.Refusal.{Refusal}
use Rattle.record.proofs.Answered.{refusal-on}
use Rattle.record.proofs.Determined.{refusal_number-positive}
use Rattle.record.proofs.Refused.{wrong_size_lem, Passed, record-passed, record-stops, record-goes, rows-passed}
use Rattle.messages.specs.inner.Numbers.{first_pending}
use Rattle.messages.specs.inner.Places.{IsPlace}
use Rattle.messages.proofs.First.{quiet-pending, some-pending}
use Rattle.check_links.specs.Settled.{settled}
use Rattle.find.specs.Find.{unsettled_row, find_refusal}

-- whether nothing is pending, by the first place
pub none-pending : (l : List ℕ) (o : Option ℕ) {r : Bool} → IsPlace o (first_pending l 0) → is_some o ≡ not r
    → r ≡ not (some_pending seats width (meaning l).pending)
none-pending l None {r} h e = rw (not-false r (sym e), quiet-pending l (sym h) (omega arith))
none-pending l (Some i) {r} h e = rw (not-true r (sym e), some-pending l h.0 h.1)

-- a scan that no row meets: a lot of a sound record that is settled
pub record Accepted (l : List ℕ) (s : ℕ) : Type 0 where
  pub passed : Passed l
  pub lot : T (seated (seats_in l) s)
  pub settles : settled l ≡ true

-- neither applies
pub looked : {A : Type 0} (l : List ℕ) (x : A) → number_of (Ok x) ≡ record_refusal l → Passed l
unfolding number_of
looked l x e = record-passed l e refl

module _ (l : List ℕ) (s : ℕ) where
  abbrev later : List Row
  later = seat_row s ∷ empty_row l s ∷ unsettled_row l ∷ []

  -- 1 applies, or 1 or 2
  pub no-record : length l ≢ size → wrong_size ≡ find_refusal l s
  unfolding find_refusal
  no-record h = record-stops l later (wrong_size_lem l h) (λ z. absurd (omega (arith, z)))

  pub stops : {n : ℕ} → n ≡ record_refusal l → n ≢ 0 → n ≡ find_refusal l s
  unfolding find_refusal
  stops e h = record-stops l later e h

  -- by a refusal that is handed on
  pub stops-on : {A : Type 0} (B : Type 0) (a : Result A Refusal) (r : Refusal) → IsErrAnd a (λ q. q ≡ r)
      → number_of {A = B} (Err r) ≡ record_refusal l → number_of a ≡ find_refusal l s
  unfolding number_of
  stops-on B a r e h = refusal-on B a r e (stops h (λ z. omega (arith, z, refusal_number-positive r)))

  pub accepted : find_refusal l s ≡ 0 → Accepted l s
  unfolding find_refusal
  accepted e = record {
    passed = (rows-passed l later (refl, refl) e).0;
    lot = true-T (not-false (seated (seats_in l) s) (no_row (size_row l ∷ sound_row l ∷ later) empty_seat tt e));
    settles = not-false (settled l) (no_row (size_row l ∷ sound_row l ∷ later) unsettled tt e);
  }

  -- neither does: the other rows, one after the other
  module _ (p : Passed l) where
    goes : find_refusal l s ≡ first later
    unfolding find_refusal
    goes = record-goes l later (refl, refl) p

    pub no-seat : seats ≤ s → no_such_seat ≡ find_refusal l s
    unfolding first
    no-seat h = rw (goes, le-ltb s seats h)

    module _ (h : s < seats) where
      pub no-lot : seated (seats_in l) s ≡ false → empty_seat ≡ find_refusal l s
      unfolding first
      no-lot e = rw (goes, lt-ltb s seats h, e)

      pub waits : seated (seats_in l) s ≡ true → settled l ≡ false → unsettled ≡ find_refusal l s
      unfolding first
      waits e u = rw (goes, lt-ltb s seats h, e, u)

      pub answers : seated (seats_in l) s ≡ true → settled l ≡ true → 0 ≡ find_refusal l s
      unfolding first
      answers e u = rw (goes, lt-ltb s seats h, e, u)
