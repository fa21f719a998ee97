-- MEET between the two ends of a link, that a seat without links sends none, and that links still name seats once some are freed. Assumes nothing.
use Prim.Native.Nat.{ℕ, suc, ◌<◌}
use mathlib.Core.Path.{◌≡◌, sym, ap, ◌∙◌}
use mathlib.Core.Option.{none, some}
use mathlib.Core.Bool.{true}
use mathlib.Core.List.{List, [], ◌∷◌}
use native.Mathlib.Omega.{arith}
use Rattle.base.specs.Loops.{all}
use Rattle.memory.specs.Bits.{has_bit, set_bit}
use Rattle.graph.specs.Side.{Side, left, right}
use Rattle.graph.specs.Vector.{width}
use Rattle.protocol.specs.Message.{meet}
use Rattle.protocol.specs.Numbering.{place}
use Rattle.protocol.specs.Rules.{to_link}
use Rattle.protocol.specs.State.{Meaning}
use Rattle.protocol.specs.pages.Crash.{introduced}
use Rattle.protocol.proofs.KeepFreeing.{unlinking-some}
use Rattle.protocol.proofs.ReachedTurn.{each-nothing}
use Rattle.record.specs.Layout.{seats, levels, pending_from}
use Rattle.record.specs.Meaning.{meaning, bytes_of}
use Rattle.record.specs.inner.Entry.{bare_at}
use Rattle.record.proofs.Sent.{meet-exists, bytes-with_message}
use Rattle.clearing.specs.inner.Steps.{Linked, saying, freed}
use Rattle.clearing.proofs.Telling.{saying-nothing, saying-append, link-named, bare-link}
use Rattle.crash.specs.inner.Steps.{level_introductions, lot_introductions}

-- one to each end
module _ (M : Meaning) (x y : ℕ) (h : x < seats) (g : y < seats) where
  abbrev met : Meaning
  met = saying M (meet x y 0 ∷ [])

  two_meets : bytes_of (saying M (meet x y 0 ∷ (meet y x 0 ∷ [])))
      ≡ set_bit (set_bit (bytes_of M) pending_from (place seats width (meet x y 0))) pending_from (place seats width (meet y x 0))
  two_meets =
      ap bytes_of (sym (saying-append M (meet x y 0 ∷ []) (meet y x 0 ∷ [])))
      ∙ bytes-with_message met (meet y x 0) (meet-exists y x g h)
      ∙ ap (λ (l : List ℕ). set_bit l pending_from (place seats width (meet y x 0))) (bytes-with_message M (meet x y 0) (meet-exists x y h g))

-- the link of x as the bytes have it, and no link
module _ (M : Meaning) (c : Linked M) (x k : ℕ) (d : Side) (h : x < seats) (g : k < levels) {l : List ℕ} (e : l ≡ bytes_of M) where
  abbrev named : (meaning l).link x k d ≡ M.link x k d
  named = link-named M x k d h g (λ y q. c x k y d q) e

  pub introduce-ends : (y : ℕ) → y < seats → some y ≡ (meaning l).link x k d
      → set_bit (set_bit l pending_from (place seats width (meet x y 0))) pending_from (place seats width (meet y x 0))
      ≡ bytes_of (saying M (introduced M.link x k d))
  unfolding introduced to_link
  introduce-ends y p f = rw (← named, ← f, e) (sym (two_meets M x y h p))

  pub introduce-none : none ≡ (meaning l).link x k d → l ≡ bytes_of (saying M (introduced M.link x k d))
  unfolding introduced to_link
  introduce-none f = rw (← named, ← f) (e ∙ sym (ap bytes_of (saying-nothing M)))

-- a seat without links has nobody to introduce
module _ (M : Meaning) (c : Linked M) (x : ℕ) (h : x < seats) {l : List ℕ} (e : l ≡ bytes_of M) (bare : all levels (bare_at l x) ≡ true) where
  no-link : (k : ℕ) (d : Side) → k < levels → M.link x k d ≡ none
  no-link k d g = sym (named M c x k d h g e) ∙ bare-link l x h bare k d g

  pub introduce-bare : l ≡ bytes_of (saying M (lot_introductions M.link x))
  unfolding introduced to_link
  introduce-bare =
      let none_sent = each-nothing width (level_introductions M.link x) (λ k g.
      rw (no-link (suc k) left (omega arith), no-link (suc k) right (omega arith))) in
      e ∙ sym (ap bytes_of (ap (saying M) none_sent ∙ saying-nothing M))

-- links name seats once those of a set are freed
pub freed-linked : (set : ℕ) (M : Meaning) → Linked M → Linked (freed set M)
freed-linked set M c x k y d e = c x k y d (unlinking-some (has_bit set) (M.link x k d) x y e).0
