-- The whole check: that on sound bytes the test of the links is the check of specs/, and each answer. Assumes nothing.
use Prim.Native.Nat.{ℕ, suc}
use mathlib.Core.Path.{◌≡◌, refl, sym, ap, ◌∙◌}
use mathlib.Core.Option.{Option, none, some}
use mathlib.Core.Bool.{Bool, true}
use mathlib.Core.List.{List}
use lib.Dec.{T}
use native.Mathlib.Omega.{arith}
use lib.ListN.{length}
use borrow.Author.Tests.{ne_eqb}
use Rattle.std.specs.Prelude.{Result, Ok, Err}
use Rattle.std.specs.Result.{IsErrAnd}
use Rattle.memory.specs.Bytes.{AreBytes}
use Rattle.graph.specs.Side.{Side, right}
use Rattle.graph.specs.Vector.{width, bit}
use Rattle.graph.proofs.Shared.{shared-bit}
use Rattle.base.specs.Loops.{one_if}
use Rattle.base.proofs.Tests.{T_true}
use Rattle.graph.specs.Graph.{Laws}
use Rattle.protocol.specs.State.{seated}
use Rattle.protocol.specs.Sound.{Sound}
use Rattle.protocol.proofs.SoundFacts.{link-linked}
use Rattle.protocol.proofs.Reached.{members-laws}
use Rattle.record.specs.Layout.{seats, size}
use Rattle.record.specs.Meaning.{seats_in, meaning}
use Rattle.record.specs.Sound.{sound}
use Rattle.record.specs.Answer.{refusal_number, number_of}
use Rattle.record.specs.Reading.{record_refusal}
use Rattle.record.specs.declared.refusals.Refusal.{Refusal}
use Rattle.record.proofs.Determined.{refusal_number-positive}
use Rattle.record.proofs.Reading.{record-accepted}
use Rattle.record.proofs.Refused.{record-passed}
use Rattle.record.proofs.Sound.{sound-is}
use Rattle.search.specs.Check.{check}
use Rattle.search.specs.inner.LinkCheck.{above_ok, constraints_ok}
use Rattle.search.proofs.Check.{eq-link}
use Rattle.search.proofs.LinkCheck.{Sided, constraints-check}
use Rattle.check_links.proofs.Runs.{run_of, run_none, run-found}
use Rattle.check_links.specs.Check.{components_in, members_in, check_in}
use Rattle.check_links.specs.Answer.{verdict_numbers}

module _ (l : List ℕ) (e : length l ≡ size) (b : AreBytes l) (s : sound l ≡ true) where
  pub bytes-sound : Sound seats width (meaning l)
  bytes-sound = ((sound-is l e b).0 s).1

  pub lots-laws : Laws seats (members_in l)
  unfolding meaning
  lots-laws = members-laws (components_in l) bytes-sound

  links-sided : Sided width (members_in l) (meaning l).link
  unfolding meaning
  links-sided = record {
    order = λ x k y d m h f. (link-linked bytes-sound {x = x} {k = k} {d = d} f).1;
    bits = λ x k y d m h f. (link-linked bytes-sound {x = x} {k = k} {d = d} f).0.bits;
  }

  -- a link names a seated lot
  pub link-seated : (x k : ℕ) (d : Side) (y : ℕ) → some y ≡ (meaning l).link x k d → T (seated (seats_in l) y)
  unfolding meaning
  link-seated x k d y f = (link-linked bytes-sound {x = x} {k = k} {d = d} (sym f)).0.two

  -- the right link o of x one level above k is the next lot at level k: the run ends there
  module _ (x k : ℕ) (o : Option ℕ) (up : (meaning l).link x (suc k) right ≡ o) (near : (meaning l).link x k right ≡ o) where
    same_bits : (y : ℕ) → some y ≡ o → bit width k ((seats_in l).vector x) ≡ bit width k ((seats_in l).vector y)
    unfolding meaning
    same_bits y q = shared-bit width k ((seats_in l).vector x) ((seats_in l).vector y)
        (link-linked bytes-sound {x = x} {k = suc k} {d = right} (up ∙ sym q)).0.bits

    run_ends : o ≡ run_of l k (bit width k ((seats_in l).vector x)) seats o
    run_ends = by o refl
      where
        by : (p : Option ℕ) → p ≡ o → p ≡ run_of l k (bit width k ((seats_in l).vector x)) seats p
        by none q = run_none l k (bit width k ((seats_in l).vector x)) seats
        by (some y) q = run-found l k (bit width k ((seats_in l).vector x)) seats y (ap one_if (sym (same_bits y q)))

    pub above-near : above_ok seats width (members_in l) (meaning l).link x k ≡ true
    unfolding above_ok
    above-near = rw (up, near) (T_true (eq-link run_ends))

  -- so the test of the links is the check of specs/
  links-right : constraints_ok seats width (members_in l) (meaning l).link ≡ check seats width (members_in l) (meaning l).link
  unfolding components_in
  links-right = constraints-check lots-laws links-sided

  -- and what the check says
  pub links-say : constraints_ok seats width (members_in l) (meaning l).link ≡ (check_in l).yes
  unfolding check_in
  links-say = rw (record-accepted l e s) links-right

-- the answers
module _ (l : List ℕ) where
  pub refused-answer : (A : Type 0) (a : Result Bool Refusal) (r : Refusal) → IsErrAnd a (λ q. q ≡ r) → number_of {A = A} (Err r) ≡ record_refusal l
      → verdict_numbers a ≡ check_in l
  unfolding check_in number_of
  refused-answer A (Ok y) r e h = absurd e
  refused-answer A (Err q) r e h =
      let n = ap refusal_number e ∙ h in
      rw (← n, ne_eqb (refusal_number q) 0 (λ z. omega (arith, refusal_number-positive q)))

  -- a record that is not refused is sound, and the answer is that of the test of the links
  module _ {A : Type 0} (x : A) (e : number_of (Ok x) ≡ record_refusal l) where
    pub answered-sound : sound l ≡ true
    unfolding number_of
    answered-sound = (record-passed l e refl).fine

    pub answer : {r : Bool} → r ≡ (check_in l).yes → verdict_numbers (Ok r) ≡ check_in l
    unfolding check_in number_of
    answer q = rw (q, ← e)
