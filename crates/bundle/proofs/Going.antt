-- A bundle step by step: how it stands after n deliveries, with what is still to be done and what the index says; that it goes on so, and ends as
-- the definition says. Assumes nothing.
use Prim.Native.Nat.{ℕ, zero, suc, ◌+◌, ◌-◌, ◌≤◌, ◌<◌}
use mathlib.Core.Path.{◌≡◌, refl, sym, ap, ◌∙◌, subst}
use mathlib.Core.Logic.{◌≢◌}
use mathlib.Core.Option.{none}
use mathlib.Core.List.{List}
use native.Mathlib.Omega.{arith}
use native.Mathlib.Nat.{add-zero, zero-add}
use lib.ListN.{length, get_or}
use Rattle.memory.specs.Bytes.{AreBytes}
use Rattle.graph.specs.Vector.{width}
use Rattle.protocol.specs.Message.{name_of}
use Rattle.protocol.specs.Order.{smallest}
use Rattle.protocol.specs.Calls.{deliver}
use Rattle.std.specs.Prelude.{Result, Ok, Err}
use Rattle.std.specs.Result.{IsErrAnd}
use Rattle.record.specs.Layout.{seats, size}
use Rattle.record.specs.Answer.{refusal_number, number_of}
use Rattle.record.specs.declared.refusals.Refusal.{Refusal}
use Rattle.record.specs.declared.refusals.Refusal.TheVariants.{WrongSize}
use Rattle.record.proofs.Determined.{refusal_number-positive}
use Rattle.record.proofs.Refused.{wrong_size_lem}
use Rattle.bundle.specs.Answer.{bundle_outcome}
use Rattle.record.specs.Meaning.{meaning}
use Rattle.record.specs.Reading.{record_refusal}
use Rattle.record.specs.Call.{called}
use Rattle.record.specs.Bundle.{BundleOutcome, bundled}
use Rattle.record.proofs.Bundle.{Fine, delivery-fine, bundle-done, bundle-step, bundle-same, bundle-zero}
use Rattle.index.specs.inner.Index.{parts}
use Rattle.bundle.specs.inner.Steps.{first_word, Tracks, IsDelivered}
use Rattle.bundle.proofs.Ready.{started}

-- n deliveries of the bundle of a limit on l₀ left l
pub record Going (l₀ : List ℕ) (limit : ℕ) (l x : List ℕ) (t reach n : ℕ) : Type 0 where
  pub fine : Fine l
  pub count : n ≤ limit
  pub tracks : Tracks l x t reach
  pub rest : bundled l₀ limit
      ≡ record { refused = 0; delivered = n + (bundled l (limit - n)).delivered; after = (bundled l (limit - n)).after }

-- its refusal is the record's
refused-number : (l : List ℕ) (limit : ℕ) → (bundled l limit).refused ≡ record_refusal l
unfolding bundled
refused-number l limit = refl

-- no delivery yet
pub going-first : (l : List ℕ) (limit : ℕ) {x : List ℕ} {from : ℕ} → record_refusal l ≡ 0 → AreBytes l
    → ((i : ℕ) → get_or x i 0 ≡ 0) → length x ≡ parts → from ≤ first_word l → Going l limit l x 0 from 0
going-first l limit {x} {from} e b z p h = record {
  fine = record { passed = e; bytes = b };
  count = omega arith;
  tracks = started l x from z p h;
  rest =
      let z : limit - 0 ≡ limit = omega arith in
      let o = bundled l limit in
      rw (z, zero-add o.delivered)
      (ap (λ (r : ℕ). record { refused = r; delivered = o.delivered; after = o.after }) (refused-number l limit ∙ e));
}

module _ {l₀ : List ℕ} {limit : ℕ} {l x : List ℕ} {t reach n : ℕ} (g : Going l₀ limit l x t reach n) where
  -- by what is still to be done
  rest-is : {o : BundleOutcome} → bundled l (limit - n) ≡ o
      → bundled l₀ limit ≡ record { refused = 0; delivered = n + o.delivered; after = o.after }
  rest-is q = g.rest ∙ ap (λ (o : BundleOutcome). record { refused = 0; delivered = n + o.delivered; after = o.after }) q

  -- nothing is
  ends : {r : ℕ} → bundled l (limit - n) ≡ record { refused = r; delivered = 0; after = l }
      → record { refused = 0; delivered = n; after = l } ≡ bundled l₀ limit
  ends q = sym (rest-is q ∙ rw (add-zero n))

  -- nothing is pending: it ends
  pub going-none : smallest seats width (meaning l).pending ≡ none → record { refused = 0; delivered = n; after = l } ≡ bundled l₀ limit
  going-none e = ends (bundle-done l (limit - n) g.fine.passed e)

  -- the limit is reached
  pub going-limit : n ≡ limit → record { refused = 0; delivered = limit; after = l } ≡ bundled l₀ limit
  going-limit h =
      let z : limit - n ≡ 0 = omega arith in
      ap (λ (d : ℕ). record { refused = 0; delivered = d; after = l }) (sym h) ∙ ends (ap (bundled l) z ∙ bundle-zero l)

  -- the smallest message is delivered
  pub going_on : {x₁ : List ℕ} {t₁ reach₁ : ℕ} {y z : List ℕ} {u : ℕ} → n < limit → Tracks l x₁ t₁ reach₁
      → IsDelivered l x₁ t₁ y z u → Going l₀ limit y z u reach₁ (n + 1)
  going_on {reach₁ = reach₁} {y = y} h k d = record {
    fine = subst Fine (sym d.bytes) (delivery-fine l g.fine (name_of d.message));
    count = omega arith;
    tracks = d.goes_on reach₁ k;
    rest = rest-is next ∙ rw d.bytes (ap (λ (c : ℕ). record { refused = 0; delivered = c; after = to-do.after }) (omega arith));
  }
    where
      to-do : BundleOutcome
      to-do = bundled (called l (deliver (name_of d.message))).after (limit - (n + 1))

      next : bundled l (limit - n) ≡ record { refused = 0; delivered = suc to-do.delivered; after = to-do.after }
      next = let z : limit - n ≡ suc (limit - (n + 1)) = omega arith in rw z (bundle-step l g.fine (limit - (n + 1)) d.message d.least)

-- the record is refused, with a number other than 0
refuse-bundle : (l : List ℕ) (limit k : ℕ) → k ≡ record_refusal l → 0 < k → record { refused = k; delivered = 0; after = l } ≡ bundled l limit
refuse-bundle l limit zero e h = absurd (omega arith)
refuse-bundle l limit (suc k) e h = sym (bundle-same l limit k (refused-number l limit ∙ sym e))

-- by a refusal that is handed on
pub refused-bundle : (l : List ℕ) (limit : ℕ) {B : Type 0} (a : Result ℕ Refusal) (r : Refusal) {b : Result B Refusal} → b ≡ Err r
    → number_of b ≡ record_refusal l → IsErrAnd a (λ q. q ≡ r) → bundle_outcome a l ≡ bundled l limit
unfolding number_of
refused-bundle l limit (Ok n) r w e h = absurd h
refused-bundle l limit (Err q) r w e h = refuse-bundle l limit (refusal_number q) (ap refusal_number h ∙ (rw w at e)) (refusal_number-positive q)

-- the bytes have another size
pub unsized-bundle : (l : List ℕ) (limit : ℕ) → length l ≢ size → bundle_outcome (Err WrongSize) l ≡ bundled l limit
unsized-bundle l limit h = refuse-bundle l limit (refusal_number WrongSize) (wrong_size_lem l h) (refusal_number-positive WrongSize)
