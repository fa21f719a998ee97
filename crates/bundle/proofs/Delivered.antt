-- One delivery of a bundle: from what its steps read and did to the delivery of the smallest message, and what the index says after it. Assumes
-- nothing.
use Prim.Native.Nat.{ℕ, ◌+◌, ◌*◌, ◌/◌, ◌<◌}
use mathlib.Core.Path.{◌≡◌, refl, sym, ap, ◌∙◌, subst}
use mathlib.Core.Bool.{Bool, true, not}
use mathlib.Core.List.{List, Memᴰ}
use native.Mathlib.Omega.{arith}
use lib.Dec.{T}
use lib.ListN.{length, length-set}
use Rattle.base.specs.Loops.{first_from}
use Rattle.base.proofs.Any.{any_same}
use Rattle.base.proofs.Tests.{true-T}
use Rattle.memory.specs.Bytes.{AreBytes}
use Rattle.memory.specs.Bits.{bit_set, clear_bit}
use Rattle.memory.specs.inner.Words.{word_set}
use Rattle.memory.proofs.Bitmap.{bit_set-set-other, length-put_bit}
use Rattle.graph.specs.Vector.{width}
use Rattle.protocol.specs.Message.{Msg, name_of}
use Rattle.protocol.specs.Numbering.{exists, place, message_at}
use Rattle.protocol.specs.Rules.{Change, keep, set}
use Rattle.protocol.specs.State.{is_pending}
use Rattle.protocol.specs.Sound.{Sound}
use Rattle.protocol.specs.Calls.{Outcome, deliver}
use Rattle.protocol.specs.pages.Deliver.{rule}
use Rattle.protocol.proofs.Message.{named-name}
use Rattle.protocol.proofs.Numbering.{side_number-lt}
use Rattle.record.specs.Layout.{seats, messages, pending_from, size}
use Rattle.record.specs.Meaning.{meaning}
use Rattle.record.specs.Reading.{record_refusal}
use Rattle.record.specs.Call.{called}
use Rattle.record.proofs.Places.{exists-at, place_at}
use Rattle.record.proofs.Form.{Form, meaning-bit}
use Rattle.record.proofs.Sound.{sound-is}
use Rattle.record.proofs.Refused.{Passed, record-passed}
use Rattle.rules.specs.inner.Done.{changed, Indexed, indexed, carried}
use Rattle.rules.proofs.Sends.{carried-bytes}
use Rattle.rules.proofs.Exists.{rule-exists}
use Rattle.delivery.proofs.Delivered.{AtLevel, rule-level, to-seat, deliver-bytes}
use Rattle.delivery.proofs.Answers.{delivered}
use Rattle.bundle.specs.inner.Steps.{Tracks, IsReady, IsStruck, IsDelivered}
use Rattle.bundle.proofs.Tracks.{tracks_same, tracks-taken, tracks-sends}
use Rattle.bundle.proofs.Ready.{first_place, bit_below, place_set, place-below, least}

-- a link is before the pending bits
changed-length : (t : ℕ) (c : Change) (l : List ℕ) → length (changed t c l) ≡ length l
unfolding changed
changed-length t keep l = refl
changed-length t (set k d o) l = length-set l _ _

changed-words : (t : ℕ) (c : Change) (l : List ℕ) → t < seats → AtLevel c
    → (w : ℕ) → word_set (changed t c l) pending_from w ≡ word_set l pending_from w
unfolding changed AtLevel
changed-words t keep l h a w = refl
changed-words t (set k d o) l h a w =
    let s = side_number-lt d in
    any_same 64 _ (λ j. bit_set l pending_from (w * 64 + j)) (λ j p. bit_set-set-other l pending_from (w * 64 + j) _ _ (λ e. omega (arith, a.0)))

-- the record l is not refused, and w is its first word that has a message, noted in the index x
module _ (l x : List ℕ) (fine : record_refusal l ≡ 0) (b : AreBytes l) {w : ℕ} (r : IsReady l x w) where
  passed : Passed l
  passed = record-passed l refl fine

  form : Form l
  form = ((sound-is l passed.sized b).0 passed.fine).0

  sound : Sound seats width (meaning l)
  sound = ((sound-is l passed.sized b).0 passed.fine).1

  -- the place of the smallest message, and the message
  abbrev i : ℕ
  i = first_place l r.word

  abbrev m : Msg
  m = message_at seats width (first_place l r.word)

  is-message : T (exists seats width m)
  is-message = exists-at i (place-below l r.word)

  is-pending : (meaning l).pending m ≡ true
  is-pending = meaning-bit l i (place-below l r.word) ∙ place_set l r.word

  -- bit k is the first of word w
  module _ {k : ℕ} (ek : k ≡ first_from 64 0 (λ j. bit_set l pending_from (w * 64 + j))) where
    at_place : w * 64 + k ≡ i
    at_place =
        ap (λ (a : ℕ). w * 64 + a) ek
        ∙ ap (λ (v : ℕ). v * 64 + first_from 64 0 (λ j. bit_set l pending_from (v * 64 + j))) r.first

    pub place-within : w * 64 + k < messages
    place-within = rw at_place (place-below l r.word)

    -- the steps: the message there is taken, which leaves y; the word is struck out if that was its last; and the rule is done
    module _ {y z y' z' : List ℕ} {u u' : ℕ} {last : Bool}
        (ey : y ≡ clear_bit l pending_from (w * 64 + k)) (el : last ≡ not (word_set y pending_from w))
        (s : IsStruck x w last z u)
        (out : let n = message_at seats width (w * 64 + k) in indexed y' z' u' ≡ carried (name_of n).to (rule width (meaning y) n) (indexed y z u)) where
      y-taken : y ≡ clear_bit l pending_from i
      y-taken = ey ∙ ap (clear_bit l pending_from) at_place

      taken : y ≡ clear_bit l pending_from (place seats width m)
      taken = y-taken ∙ ap (clear_bit l pending_from) (sym (place_at i (place-below l r.word)))

      out-here : indexed y' z' u' ≡ carried (name_of m).to (rule width (meaning y) m) (indexed y z u)
      out-here = rw at_place at out

      left : y' ≡ (called l (deliver (name_of m))).after
      unfolding is_pending
      left =
          ap (λ (o : Outcome (List ℕ)). o.after)
          (delivered l (name_of m) fine (rw (named-name m) is-pending)
          (ap (λ (o : Indexed). o.bytes) out-here
          ∙ carried-bytes (name_of m).to (rule width (meaning y) m) (indexed y z u)
          ∙ deliver-bytes form sound (name_of m) m (named-name m) (true-T is-pending) taken))

      sent-here : (n : Msg) → Memᴰ n (rule width (meaning y) m).sent → T (exists seats width n)
      sent-here = rule-exists y m is-message

      sized : length (changed (name_of m).to (rule width (meaning y) m).change y) ≡ size
      sized = changed-length (name_of m).to _ y ∙ ap length y-taken ∙ length-put_bit l pending_from i _ ∙ passed.sized

      -- what the index says: the message is taken, the link is written, and messages are sent
      goes_on : {t : ℕ} (reach : ℕ) → Tracks l x t reach → Tracks y' z' u' reach
      unfolding carried
      goes_on reach h =
          let word_of : w ≡ i / 64 = omega (arith, r.first, bit_below l r.word) in
          let struck : IsStruck x w (not (word_set (clear_bit l pending_from i) pending_from w)) z u = rw (← y-taken, ← el) s in
          let t₁ : Tracks y z u reach = rw y-taken (tracks-taken h w i word_of struck) in
          let e = rule width (meaning y) m in
          let t₂ = tracks_same t₁ (λ v p. changed-words (name_of m).to e.change y (to-seat m is-message) (rule-level (meaning y) m is-message) v) in
          subst (λ (o : Indexed). Tracks o.bytes o.index o.top reach) (sym out-here) (tracks-sends e.sent sent-here sized t₂)

      pub is-delivered : {t : ℕ} → IsDelivered l x t y' z' u'
      is-delivered = record { message = m; least = least l r.word; bytes = left; goes_on = goes_on }
