-- What the readings of an accepted record give, by its bytes; and what a refused one gives. Assumes nothing.
use Prim.Native.Nat.{ℕ, ◌<◌}
use mathlib.Core.Path.{◌≡◌, refl, sym, ◌∙◌}
use mathlib.Core.Bool.{Bool}
use mathlib.Core.Logic.{◌≢◌}
use mathlib.Core.List.{List}
use lib.ListN.{length}
use borrow.Author.Tests.{ne_eqb}
use Rattle.std.specs.Prelude.{Result, Ok, Err, Option, None, Some, IfSome, MatchOption}
use Rattle.std.specs.Option.{IsSomeAnd}
use Rattle.std.specs.Result.{IsErrAnd}
use Rattle.memory.specs.Bytes.{number_at}
use Rattle.memory.specs.Bits.{bit_set}
use Rattle.base.specs.Loops.{count}
use Rattle.graph.specs.Side.{side_of_number}
use Rattle.graph.specs.Vector.{width}
use Rattle.protocol.specs.Message.{Name, named}
use Rattle.protocol.specs.Order.{smallest_from, name_or_zeros}
use Rattle.protocol.specs.State.{seated, is_pending}
use Rattle.record.specs.Layout.{seats, number_size, vector_size, messages, number_from, vector_from, pending_from, size}
use Rattle.record.specs.Meaning.{meaning, seats_in}
use Rattle.record.specs.Answer.{refusal_number}
use Rattle.record.specs.Reading.{record_refusal, lot_refusal, link_refusal, read_lot, read_link, read_message, read_counts, read_next}
use Rattle.record.specs.declared.refusals.Refusal.{Refusal}
use Rattle.record.specs.declared.refusals.Refusal.TheVariants as refused
use Rattle.record.specs.Code.{as_link, as_phase, as_state}
use Rattle.record.proofs.Refused.{wrong_size_lem}
use Rattle.record.proofs.Form.{meaning-number, meaning-vector}
use Rattle.messages.specs.declared.Message.{Message}
use Rattle.messages.specs.inner.Numbers.{IsNamed}
use Rattle.reading.specs.declared.Lot.{Lot}
use Rattle.reading.specs.declared.Counts.{Counts}
use Rattle.reading.specs.Answer.{lot_numbers, link_numbers, LinkNumbered, message_numbers, count_numbers, next_numbers, NextNumbered}
use Rattle.reading.proofs.Refusals.{refusal-not-0}

-- a reading is refused: `?` hands on r
module _ (l : List ℕ) where
  pub lot-refused : (s : ℕ) (a : Result Lot Refusal) (r : Refusal) → IsErrAnd a (λ q. q ≡ r) → refusal_number r ≡ lot_refusal l s
      → lot_numbers a ≡ read_lot l s
  unfolding read_lot
  lot-refused s (Ok x) r e h = absurd e
  lot-refused s (Err q) r e h = rw (e, ← h, ne_eqb (refusal_number r) 0 (refusal-not-0 r))

  pub link-refused : (s k d : ℕ) (a : Result (Option ℕ) Refusal) (r : Refusal) → IsErrAnd a (λ q. q ≡ r) → refusal_number r ≡ link_refusal l s k d
      → (link_numbers a ≡ read_link l s k d) × LinkNumbered a
  unfolding read_link
  link-refused s k d (Ok x) r e h = absurd e
  link-refused s k d (Err q) r e h = (rw (e, ← h, ne_eqb (refusal_number r) 0 (refusal-not-0 r)), tt)

  pub message-refused : (m : Name) (a : Result Bool Refusal) (r : Refusal) → IsErrAnd a (λ q. q ≡ r) → refusal_number r ≡ record_refusal l
      → message_numbers a ≡ read_message l m
  unfolding read_message
  message-refused m (Ok x) r e h = absurd e
  message-refused m (Err q) r e h = rw (e, ← h, ne_eqb (refusal_number r) 0 (refusal-not-0 r))

  pub counts-refused : (a : Result Counts Refusal) (r : Refusal) → IsErrAnd a (λ q. q ≡ r) → refusal_number r ≡ record_refusal l
      → count_numbers a ≡ read_counts l
  unfolding read_counts
  counts-refused (Ok x) r e h = absurd e
  counts-refused (Err q) r e h = rw (e, ← h, ne_eqb (refusal_number r) 0 (refusal-not-0 r))

  pub counts-wrong_size : length l ≢ size → count_numbers (Err refused.WrongSize) ≡ read_counts l
  counts-wrong_size h = counts-refused (Err refused.WrongSize) refused.WrongSize refl (wrong_size_lem l h)

  pub next-refused : (n : Name) (a : Result (Option Message) Refusal) (r : Refusal) → IsErrAnd a (λ q. q ≡ r) → refusal_number r ≡ record_refusal l
      → (next_numbers a ≡ read_next l n) × NextNumbered a
  unfolding read_next
  next-refused n (Ok x) r e h = absurd e
  next-refused n (Err q) r e h = (rw (e, ← h, ne_eqb (refusal_number r) 0 (refusal-not-0 r)), tt)

-- it is not
module _ (l : List ℕ) where
  pub lot-values : (s : ℕ) (x : Lot) → 0 ≡ lot_refusal l s → s < seats → as_state x.state ≡ (seats_in l).state s
      → x.number ≡ number_at l (number_from s) number_size → x.vector ≡ number_at l (vector_from s) vector_size → lot_numbers (Ok x) ≡ read_lot l s
  unfolding read_lot meaning
  lot-values s x z h state number vector = rw (← z, state, number ∙ sym (meaning-number l s h), vector ∙ sym (meaning-vector l s h))

  -- q is o, as a byte
  pub link-values : (s k d : ℕ) (o q : Option ℕ) (Q : ℕ → ℕ → Type 0) → 0 ≡ link_refusal l s k d → as_link o ≡ (meaning l).link s k (side_of_number d)
      → IfSome o (λ y. y < seats) → MatchOption o (q ≡ None) (λ x. IsSomeAnd q (Q x)) → ((x y : ℕ) → Q x y → y ≡ x)
      → (link_numbers (Ok q) ≡ read_link l s k d) × LinkNumbered (Ok q)
  unfolding read_link
  link-values s k d None q Q z e h m f = rw m (rw (← z, ← e), tt)
  link-values s k d (Some x) None Q z e h m f = absurd m
  link-values s k d (Some x) (Some y) Q z e h m f = rw (f x y m) (rw (← z, ← e), h)

  pub message-value : (m : Name) (b : Bool) → 0 ≡ record_refusal l → b ≡ is_pending (meaning l).pending (named m)
      → message_numbers (Ok b) ≡ read_message l m
  unfolding read_message
  message-value m b z e = rw (← z, ← e)

  pub counts-values : (x : Counts) → 0 ≡ record_refusal l → x.lots ≡ count seats (seated (seats_in l)) → as_phase x.phase ≡ (seats_in l).phase
      → x.pending ≡ count messages (bit_set l pending_from) → count_numbers (Ok x) ≡ read_counts l
  unfolding read_counts
  counts-values x z lots phase pending = rw (← z, lots, phase, pending)

  pub next-value : (n : Name) (o : Option Message) → 0 ≡ record_refusal l → IsNamed o (smallest_from seats width (meaning l).pending n)
      → (next_numbers (Ok o) ≡ read_next l n) × NextNumbered (Ok o)
  unfolding read_next name_or_zeros
  next-value n None z e = (rw (← z, e), tt)
  next-value n (Some m) z e = (rw (← z, ← e.0), e.1.some_kind)
