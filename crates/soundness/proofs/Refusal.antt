-- The refusal of a record of the right size, from the two tests that the code makes. Assumes nothing.
use Prim.Native.Nat.{ℕ}
use mathlib.Core.Path.{◌≡◌, refl}
use mathlib.Core.Bool.{Bool, true, false, ◌&&◌, ◌||◌}
use mathlib.Core.List.{List}
use lib.Dec.{ltb}
use lib.ListN.{length, get_or}
use borrow.Author.Tests.{eq-eqb}
use Rattle.base.proofs.All.{all-and}
use Rattle.protocol.specs.State.{taken}
use Rattle.protocol.specs.Refusals.{first}
use Rattle.record.specs.Layout.{seats, states, state_at, size}
use Rattle.record.specs.Meaning.{seats_in}
use Rattle.record.specs.Sound.{sound, messages_fit, phase_fits, states_fit, as_opened, unused_fit, numbers_differ, links_fit}
use Rattle.record.specs.Reading.{record_refusal}
use Rattle.soundness.specs.inner.Parts.{entries_fit}

module _ (l : List ℕ) where
  sound-parts : sound l ≡ entries_fit l && messages_fit l
  unfolding sound entries_fit states_fit unused_fit
  sound-parts =
      rw (all-and seats (λ s. ltb (get_or l (state_at s) 0) states) (λ s. taken (seats_in l) s || as_opened l s))
      (by (phase_fits l) (states_fit l) (unused_fit l) (numbers_differ l) (links_fit l) (messages_fit l))
    where
      by : (p s u n k m : Bool) → p && (s && (u && (n && (k && m)))) ≡ (p && ((s && u) && (n && k))) && m
      by false s u n k m = refl
      by true false u n k m = refl
      by true true false n k m = refl
      by true true true false k m = refl
      by true true true true k m = refl

  module _ (e : length l ≡ size) where
    -- 2 if one of them fails
    pub entries-fail : entries_fit l ≡ false → 2 ≡ record_refusal l
    unfolding record_refusal first
    entries-fail f = rw (eq-eqb (length l) size e, sound-parts, f)

    pub messages-fail : entries_fit l ≡ true → messages_fit l ≡ false → 2 ≡ record_refusal l
    unfolding record_refusal first
    messages-fail t f = rw (eq-eqb (length l) size e, sound-parts, t, f)

    -- 0 if both pass
    pub both-pass : entries_fit l ≡ true → messages_fit l ≡ true → 0 ≡ record_refusal l
    unfolding record_refusal first
    both-pass t f = rw (eq-eqb (length l) size e, sound-parts, t, f)
