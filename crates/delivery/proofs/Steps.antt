-- The steps of a kind's handler, from what its code has found out: whether the message that the numbers name was pending, and was taken away.
-- Assumes nothing.
use Prim.Native.Nat.{ℕ, ◌<◌}
use mathlib.Core.Path.{◌≡◌, refl, sym, ap, ◌∙◌, subst}
use mathlib.Core.Logic.{◌≢◌}
use mathlib.Core.Option.{none, some}
use mathlib.Core.Bool.{Bool, true, false, cond}
use mathlib.Core.List.{List}
use lib.Dec.{T}
use lib.ListN.{length}
use Rattle.memory.specs.Bytes.{AreBytes}
use Rattle.memory.specs.Bits.{bit_set, clear_bit}
use Rattle.graph.specs.Vector.{width}
use Rattle.base.proofs.Tests.{T_true, true-T}
use Rattle.protocol.specs.Message.{Msg, Name, name, name_of, named}
use Rattle.protocol.specs.Numbering.{exists, place}
use Rattle.protocol.specs.State.{is_pending}
use Rattle.protocol.specs.pages.Deliver.{rule}
use Rattle.record.specs.Layout.{seats, messages, pending_from, size}
use Rattle.record.specs.Meaning.{meaning}
use Rattle.record.specs.Reading.{record_refusal}
use Rattle.std.specs.Prelude.{Result, Ok, Err}
use Rattle.std.specs.Result.{IsErrAnd}
use Rattle.record.specs.declared.refusals.Refusal.{Refusal}
use Rattle.record.specs.declared.refusals.Refusal.TheVariants.{NoSuchMessage}
use Rattle.record.proofs.Form.{exists-pending}
use Rattle.record.proofs.Sound.{sound-is}
use Rattle.record.proofs.Refused.{record-passed}
use Rattle.messages.specs.inner.Places.{place_of, is_message}
use Rattle.messages.proofs.Named.{when}
use Rattle.messages.proofs.Placed.{place-message, message-place, pending-bit, no_place}
use Rattle.rules.specs.inner.Done.{done, Indexed, indexed, carried}
use Rattle.rules.proofs.Sends.{carried-bytes}
use Rattle.delivery.proofs.ByKind.{Kind}
use Rattle.delivery.proofs.Answers.{Told, refuse-message, delivered}
use Rattle.delivery.proofs.Delivered.{deliver-bytes}

-- a record that is not refused has the size
pub sized : (l : List ℕ) → record_refusal l ≡ 0 → length l ≡ size
sized l fine = (record-passed l refl fine).sized

-- p says whether the message that n names was pending in l, and x is l without it
abbrev pub Taken : (l : List ℕ) → Name → (p : Bool) → (x : List ℕ) → Type 0
Taken l n p x = (p ≡ is_pending (meaning l).pending (named n)) × (x ≡ cond p (clear_bit l pending_from (place_of (named n))) l)

-- it was not pending, and the refusal r of that is handed on
pub idle : (l : List ℕ) → record_refusal l ≡ 0 → (n : Name) (a : Result (Unit {0}) Refusal) (r : Refusal) {x : List ℕ} → IsErrAnd a (λ q. q ≡ r)
    → Taken l n false x → r ≡ NoSuchMessage → Told l n a x
idle l fine n (Ok tt) r h t e = absurd h
idle l fine n (Err q) r h t e =
    rw (h ∙ e) (subst (λ (y : List ℕ). Told l n (Err NoSuchMessage) y) (sym t.1) (refuse-message l n fine (sym t.0)))

-- it was: the condition of the kind holds, and the message exists
module _ (l : List ℕ) (fine : record_refusal l ≡ 0) {n : Name} {m : Msg} (k : Kind n m) {p : Bool} {x : List ℕ} (t : Taken l n p x) (q : p ≡ true) where
  is-there : T k.condition × (named n ≡ some m) × T ((meaning l).pending m)
  unfolding is_pending
  is-there = by k.condition k.is_named
    where
      by : (c : Bool) → named n ≡ when c m → T c × (named n ≡ some m) × T ((meaning l).pending m)
      by true f = (tt, f, true-T (rw f at (sym t.0 ∙ q)))
      by false f = absurd (true-T (rw f at (sym t.0 ∙ q)))

  pub fits : T k.condition × T (exists seats width m)
  fits = let h = is-there in (h.0, exists-pending l m h.2)

  taken : x ≡ clear_bit l pending_from (place seats width m)
  unfolding place_of
  taken = let h = is-there in t.1 ∙ rw (q, h.1, T_true {b = exists seats width m} fits.1)

  -- y is the record after its rule
  pub carried-out : AreBytes l → {y : List ℕ} → y ≡ done (name_of m).to (rule width (meaning x) m) x → Told l n (Ok tt) y
  carried-out bs ey =
      let r = record-passed l refl fine in
      let s = (sound-is l r.sized bs).0 r.fine in
      let h = is-there in
      delivered l n fine (sym t.0 ∙ q) (ey ∙ deliver-bytes s.0 s.1 n m h.1 h.2 taken)

  -- with an index beside the record
  pub carried-noted : AreBytes l → (i : List ℕ) (t : ℕ) {y j : List ℕ} {u : ℕ}
      → indexed y j u ≡ carried (name_of m).to (rule width (meaning x) m) (indexed x i t) → Told l n (Ok tt) y
  carried-noted bs i t e =
      carried-out bs (ap (λ (b : Indexed). b.bytes) e ∙ carried-bytes (name_of m).to (rule width (meaning x) m) (indexed x i t))

-- the same found out by the place of the numbers, i
module _ (l : List ℕ) (n : Name) {i : ℕ} (e : i ≡ place_of (named n)) where
  -- they name no message
  pub unplaced : i ≡ messages → Taken l n false l
  unplaced h = (sym (no_place l (named n) (sym e ∙ h)), refl)

  module _ (h : i ≢ messages) where
    is-message : T (is_message (named n))
    is-message = place-message (named n) (λ q. h (e ∙ q))

    pub placed : i < messages
    placed = rw e (message-place (named n) is-message)

    -- b is the bit there, and x the record without it
    pub by_bit : {b : Bool} {x : List ℕ} → b ≡ bit_set l pending_from i → x ≡ cond b (clear_bit l pending_from i) l → Taken l n b x
    by_bit {b} eb ex = (
      eb ∙ ap (bit_set l pending_from) e ∙ sym (pending-bit l (named n) is-message),
      ex ∙ ap (λ (j : ℕ). cond b (clear_bit l pending_from j) l) e,
    )

-- a kind that is none
pub named-zero : {k : ℕ} (t a l s : ℕ) → k ≡ 0 → named (name k t a l s) ≡ none
unfolding named
named-zero t a l s e = rw e

pub refuse-kind : (l : List ℕ) (n : Name) → record_refusal l ≡ 0 → named n ≡ none → Told l n (Err NoSuchMessage) l
unfolding is_pending
refuse-kind l n fine e = refuse-message l n fine (rw e)
