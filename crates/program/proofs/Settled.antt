-- Line A: its limit is more than any record takes, so nothing is left pending; and it is a bundle after a bundle, as long as they are full. Assumes
-- only that the bytes are bytes.
use Prim.Native.Nat.{ℕ, zero, suc, ◌+◌, ◌≤◌, ◌<◌}
use mathlib.Core.Path.{◌≡◌, refl, sym, ap, ◌∙◌}
use mathlib.Core.List.{List}
use native.Mathlib.Nat.{le_trans, add_comm}
use native.Mathlib.Bridge.{le_by_compare, IsLe}
use native.Mathlib.Omega.{arith}
use Rattle.memory.specs.Bytes.{AreBytes}
use Rattle.graph.specs.Vector.{width}
use Rattle.protocol.proofs.Most.{most_deliveries, bound-most}
use Rattle.record.specs.Layout.{seats}
use Rattle.record.specs.Reading.{record_refusal, read_counts}
use Rattle.record.specs.Bundle.{BundleOutcome, bundled}
use Rattle.record.proofs.Bundle.{Fine, is-sound, bundle-none, bundle-keeps, bundle-same, bundle-less, bundle-sum, bundle-drains}
use Rattle.program.specs.Line.{settle_limit, settled}

limit-enough : most_deliveries seats width ≤ settle_limit
unfolding most_deliveries settle_limit IsLe
limit-enough = le_by_compare (most_deliveries seats width) settle_limit tt

-- the parts of an outcome
abbrev left : BundleOutcome → List ℕ
left o = o.after

abbrev made : BundleOutcome → ℕ
made o = o.delivered

-- refused as any bundle is
pub same-refusal : (l : List ℕ) (n : ℕ) → (bundled l n).refused ≡ (settled l).refused
unfolding settled bundled
same-refusal l n = refl

module _ (l : List ℕ) (b : AreBytes l) where
  module _ (p : record_refusal l ≡ 0) where
    fine : Fine l
    fine = record { passed = p; bytes = b }

    -- A LEAVES NOTHING PENDING
    pub settles : (read_counts (settled l).after).pending ≡ 0
    unfolding settled
    settles = bundle-drains l b settle_limit p (le_trans (bound-most (is-sound l fine)) limit-enough)

    -- a bundle in front of A takes its deliveries from it, and nothing else
    both : (n : ℕ) → let x = bundled l n in let y = settled x.after in let z = bundled (settled l).after n in
        ((settled l).delivered + z.delivered ≡ x.delivered + y.delivered) × (z.after ≡ y.after)
    unfolding settled
    both n =
        let e = sym (bundle-sum l b settle_limit n) ∙ ap (bundled l) (add_comm settle_limit n) ∙ bundle-sum l b n settle_limit in
        (ap made e, ap left e)

    idle : (n : ℕ) → bundled (settled l).after n ≡ record { refused = 0; delivered = 0; after = (settled l).after }
    unfolding settled
    idle n = bundle-none (settled l).after (bundle-keeps l fine settle_limit) n settles

    same_left : (n : ℕ) → (settled (bundled l n).after).after ≡ (settled l).after
    same_left n = sym (both n).1 ∙ ap left (idle n)

    pub fewer-left : (n : ℕ) → (bundled l n).delivered ≡ n → (settled l).delivered ≡ n + (settled (bundled l n).after).delivered
    fewer-left n e = omega (arith, (both n).0, ap made (idle n))

    less-left : (n : ℕ) → (bundled l n).delivered < n → (settled l).after ≡ (bundled l n).after
    unfolding settled
    less-left n h =
        sym (same_left n) ∙ ap left (bundle-none (bundled l n).after (bundle-keeps l fine n) settle_limit (bundle-less l b n p h))

  -- of a refused record a bundle leaves the bytes, and so does A
  module _ (k : ℕ) (e : record_refusal l ≡ suc k) where
    refused-left : (n : ℕ) → bundled l n ≡ record { refused = suc k; delivered = 0; after = l }
    unfolding bundled
    refused-left n = bundle-same l n k e

    pub refused-stays : settled l ≡ record { refused = suc k; delivered = 0; after = l }
    unfolding settled
    refused-stays = refused-left settle_limit

  either : {P : Type 0} → (record_refusal l ≡ 0 → P) → ((k : ℕ) → record_refusal l ≡ suc k → P) → P
  either {P} f g = by (record_refusal l) refl
    where
      by : (r : ℕ) → record_refusal l ≡ r → P
      by zero e = f e
      by (suc k) e = g k e

  -- A goes on from what a bundle left
  pub settled-after : (n : ℕ) → (settled (bundled l n).after).after ≡ (settled l).after
  settled-after n = either (λ p. same_left p n) (λ k e. ap (λ (o : BundleOutcome). (settled o.after).after) (refused-left k e n))

  -- with fewer messages to deliver
  pub settled-falls : (n : ℕ) → 0 < n → (bundled l n).delivered ≡ n → (settled (bundled l n).after).delivered < (settled l).delivered
  settled-falls n h q =
      either (λ p. omega (arith, fewer-left p n q)) (λ k e. absurd (omega (arith, q, ap made (refused-left k e n))))

  -- and with none after a bundle that was not full
  pub settled-less : (n : ℕ) → (bundled l n).delivered < n → (settled l).after ≡ (bundled l n).after
  settled-less n h = either (λ p. less-left p n h) (λ k e. ap left (refused-stays k e) ∙ sym (ap left (refused-left k e n)))
