-- What is kept of the lots below s: of none, with a free seat more, and with a lot more. Assumes nothing.
use Prim.Native.Nat.{ℕ, ◌+◌, ◌≤◌, ◌<◌}
use mathlib.Core.Path.{◌≡◌, sym, ap, ◌∙◌}
use mathlib.Core.Logic.{⊎_elim}
use mathlib.Core.Bool.{true, false}
use mathlib.Core.List.{List}
use native.Mathlib.Omega.{arith}
use lib.ListN.{length, get_or, set, length-set, replicate, length-replicate}
use lib.Seq.{get_or-set_same, get_or-set_other}
use Rattle.base.proofs.Cases.{eq-or-ne}
use Rattle.memory.proofs.Zeros.{replicate-zero}
use Rattle.base.proofs.Tests.{true-false}
use Rattle.protocol.specs.State.{taken}
use Rattle.record.specs.Layout.{seats}
use Rattle.record.specs.Meaning.{seats_in}
use Rattle.soundness.specs.inner.Buckets.{buckets, bucket_of, last_in, Kept}
use Rattle.soundness.proofs.Buckets.{last-start, last-free, last-own, last-other}

-- a list of which one element is written: what f says of all below s, and of s, it says of all below s + 1
one_more : (a : List ℕ) (s v : ℕ) (f : ℕ → ℕ) (P : ℕ → Type 0) → s < length a → ((y : ℕ) → y < s → P y → get_or a y 0 ≡ f y)
    → v ≡ f s
    → (y : ℕ) → y < s + 1 → P y → get_or (set a s v) y 0 ≡ f y
one_more a s v f P h below e y q p = ⊎_elim
    (λ at. rw at (get_or-set_same a s v 0 h ∙ e))
    (λ ne. get_or-set_other a s y v 0 ne ∙ below y (omega (arith, ne)) p)
    (eq-or-ne y s)

module _ (l : List ℕ) where
  -- no lot from `top` on: a free seat more
  pub none_above : (s top : ℕ) → ((y : ℕ) → y < s → top ≤ y → taken (seats_in l) y ≡ false) → taken (seats_in l) s ≡ false
      → (y : ℕ) → y < s + 1 → top ≤ y → taken (seats_in l) y ≡ false
  none_above s top a f y h g = ⊎_elim (λ e. rw e f) (λ ne. a y (omega (arith, ne)) g) (eq-or-ne y s)

  pub kept-none : (numbers : List ℕ) → length numbers ≡ seats → Kept l 0 numbers (replicate buckets 0) (replicate seats 0)
  kept-none numbers e = record {
    long = (e, length-replicate {A = ℕ} buckets 0, length-replicate {A = ℕ} seats 0);
    number = λ y h. absurd (omega arith);
    ends = λ b h. replicate-zero buckets b ∙ last-start l b;
    links = λ y h. absurd (omega arith);
  }

  module _ (s : ℕ) {numbers last before : List ℕ} (k : Kept l s numbers last before) where
    pub kept_free : taken (seats_in l) s ≡ false → Kept l (s + 1) numbers last before
    kept_free f = record {
      long = k.long;
      number = λ y h t. k.number y (less y h t) t;
      ends = λ b h. k.ends b h ∙ last-free l s b f;
      links = λ y h t. k.links y (less y h t) t;
    }
      where
        less : (y : ℕ) → y < s + 1 → taken (seats_in l) y ≡ true → y < s
        less y h t = ⊎_elim (λ e. absurd (clash y e t)) (λ ne. omega (arith, ne)) (eq-or-ne y s)
          where
            clash : (y : ℕ) → y ≡ s → taken (seats_in l) y ≡ true → ⊥
            clash y e t = true-false (rw e at t) f

    -- a lot with number n, of bucket b
    pub kept-lot : (n b : ℕ) → s < seats → b < buckets
        → taken (seats_in l) s ≡ true → n ≡ (seats_in l).number s → b ≡ bucket_of l s
        → Kept l (s + 1) (set numbers s n) (set last b (s + 1)) (set before s (get_or last b 0))
    kept-lot n b h in_range t en eb = record {
      long = (length-set numbers s n ∙ k.long.0, length-set last b (s + 1) ∙ k.long.1, length-set before s (get_or last b 0) ∙ k.long.2);
      number = one_more numbers s n (seats_in l).number (λ y. taken (seats_in l) y ≡ true) (omega (arith, k.long.0)) k.number en;
      ends = λ j g. ⊎_elim
          (λ at. rw at (get_or-set_same last b (s + 1) 0 (omega (arith, k.long.1)) ∙ last-own l s t ∙ ap (last_in l (s + 1)) (sym eb)))
          (λ ne. get_or-set_other last b j (s + 1) 0 ne ∙ k.ends j g ∙ last-other l s j (λ e. ne (sym (eb ∙ e))))
          (eq-or-ne j b);
      links = one_more before s (get_or last b 0) (λ y. last_in l y (bucket_of l y)) (λ y. taken (seats_in l) y ≡ true)
          (omega (arith, k.long.2)) k.links (k.ends b in_range ∙ ap (last_in l s) eb);
    }
