-- Where a join is accepted, reserving and then confirming come to the same, on all bytes; and a reservation that is given back leaves the bytes as
-- they were. Assumes nothing but that number and vector fit their types.
use Prim.Native.Nat.{ℕ, ◌^◌, ◌<◌}
use mathlib.Core.Path.{◌≡◌, refl, sym, ap, ◌∙◌}
use mathlib.Core.List.{List}
use Rattle.memory.specs.Bytes.{AreBytes}
use Rattle.graph.specs.Vector.{width}
use Rattle.protocol.specs.State.{Meaning}
use Rattle.protocol.specs.Sound.{number_bits, Sound}
use Rattle.protocol.specs.Calls.{Call, join, reserve, confirm, give_back, refusal, sends, unless_refused, accept}
use Rattle.protocol.proofs.Accepted.{join-reserve}
use Rattle.protocol.proofs.Reserving.{join-confirm, join-in-two, reserve-give-back, back-again}
use Rattle.protocol.proofs.KeepCalls.{reserve-sound}
use Rattle.record.specs.Layout.{seats}
use Rattle.record.specs.Meaning.{meaning, bytes_of}
use Rattle.record.specs.Call.{call_refusal, called}
use Rattle.record.proofs.Round.{bytes-meaning, meaning-bytes}
use Rattle.record.proofs.Accepted.{Accepted, accepted}
use Rattle.record.proofs.Call.{call-refusal}
use Rattle.reserving.specs.InTwo.{reserving, JoinInTwo, BackAgain}

-- an accepted call on bytes of which the meaning is known
module _ (l : List ℕ) (M : Meaning) (h : Sound seats width M) (e : l ≡ bytes_of M) (c : Call)
    (z : refusal seats width M.seats M.pending c ≡ 0) where
  goes : (called l c).refused ≡ 0
  unfolding called
  goes = ap (λ (b : List ℕ). call_refusal b c) e ∙ call-refusal M h c ∙ z

  leaves : (called l c).after ≡ bytes_of (accept seats width M c)
  unfolding called unless_refused
  leaves = rw goes (ap (λ (K : Meaning). bytes_of (accept seats width K c)) (ap meaning e ∙ meaning-bytes h))

module _ (l : List ℕ) (b : AreBytes l) (s n v : ℕ) (ln : n < 2 ^ number_bits) (lv : v < 2 ^ width) where
  abbrev M : Meaning
  M = meaning l

  abbrev K : Meaning
  K = accept seats width (meaning l) (reserve s n v)

  -- the bytes with the reservation are those of a sound meaning
  module _ (a : Accepted l (reserve s n v)) where
    here : l ≡ bytes_of (meaning l)
    here = sym (bytes-meaning a.form)

    sound-K : Sound seats width K
    sound-K = reserve-sound a.fine s n v ln lv a.row

    bytes-K : reserving l s n v ≡ bytes_of K
    bytes-K = leaves l M a.fine here (reserve s n v) a.row

  may-reserve : (c : ℕ) → Accepted l (join s n v c) → Accepted l (reserve s n v)
  may-reserve c j = record { form = j.form; fine = j.fine; row = join-reserve seats width M.seats M.pending s n v c j.row }

  pub in_two : (c : ℕ) → (called l (join s n v c)).refused ≡ 0 → JoinInTwo l s n v c
  unfolding called sends
  in_two c e =
      let j = accepted l (join s n v c) b e in
      let a = may-reserve c j in
      let z = join-confirm seats width M s n v c j.row in
      record {
        reserved = goes l M a.fine (here a) (reserve s n v) a.row;
        confirmed = goes (reserving l s n v) K (sound-K a) (bytes-K a) (confirm s c) z;
        bytes = leaves (reserving l s n v) K (sound-K a) (bytes-K a) (confirm s c) z ∙ ap bytes_of (join-in-two seats width M s n v c)
            ∙ sym (leaves l M j.fine (here a) (join s n v c) j.row);
        silent = refl;
        messages = refl;
      }

  pub given_back : (called l (reserve s n v)).refused ≡ 0 → BackAgain l s n v
  unfolding called
  given_back e =
      let a = accepted l (reserve s n v) b e in
      let z = reserve-give-back seats width M s n v a.row in
      record {
        returned = goes (reserving l s n v) K (sound-K a) (bytes-K a) (give_back s) z;
        bytes = leaves (reserving l s n v) K (sound-K a) (bytes-K a) (give_back s) z
            ∙ ap bytes_of (back-again seats width M s n v a.fine a.row) ∙ bytes-meaning a.form;
      }
