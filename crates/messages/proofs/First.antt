-- The first place whose message is pending, at or after a place: from the first place on whose message does not come before five numbers, its
-- message is the smallest pending one at or after them; and from a place below which nothing is pending it is the smallest of all. The first
-- place of all says whether something is pending. Assumes nothing.
use Prim.Native.Nat.{ℕ, ◌-◌, ◌≤◌, ◌<◌}
use mathlib.Core.Path.{◌≡◌, sym, ◌∙◌}
use mathlib.Core.Option.{none, some}
use mathlib.Core.Logic.{⊎_elim}
use mathlib.Core.Bool.{Bool, true, false, not}
use mathlib.Core.List.{List}
use native.Mathlib.Omega.{arith}
use lib.Dec.{eqb}
use borrow.Author.Tests.{eq-eqb, ne_eqb}
use Rattle.base.specs.Loops.{count, first_from}
use Rattle.base.proofs.Any.{any-in, none_any}
use Rattle.base.proofs.Cases.{lt-or-ge, eq-or-ne}
use Rattle.base.proofs.Count.{count-zero}
use Rattle.base.proofs.Tests.{T_true, true-T, false-T}
use Rattle.memory.specs.Bits.{bit_set}
use Rattle.base.proofs.First.{IsFirst, first, first-same}
use Rattle.graph.specs.Vector.{width}
use Rattle.protocol.specs.Message.{Msg, Name, name}
use Rattle.protocol.specs.Numbering.{message_at, some_pending}
use Rattle.protocol.specs.Order.{smallest_from, smallest}
use Rattle.protocol.specs.inner.PlaceFrom.{from_kind, place_from}
use Rattle.protocol.proofs.Smallest.{smallest-first, none_first}
use Rattle.record.specs.Layout.{seats, messages, pending_from}
use Rattle.record.specs.Meaning.{meaning}
use Rattle.record.proofs.Form.{meaning-bit}
use Rattle.messages.specs.inner.Numbers.{first_pending, NoneBefore}
use Rattle.messages.specs.inner.Places.{IsPlace}
use Rattle.std.specs.Prelude as code
use Rattle.std.specs.Prelude.{None, Some, IfSome, unwrap_or}

module _ (l : List ℕ) (from : ℕ) (h : from ≤ messages) where
  -- it is the first set bit
  pub first-pending-bit : first_from (messages - from) from (bit_set l pending_from) ≡ first_pending l from
  unfolding first_pending
  first-pending-bit = first-same (messages - from) from (bit_set l pending_from) (λ i. (meaning l).pending (message_at seats width i))
      (λ j a b. sym (meaning-bit l j (omega arith)))

  pub first-pending-le : first_pending l from ≤ messages
  unfolding first_pending
  first-pending-le = omega (arith, (first (messages - from) from (λ i. (meaning l).pending (message_at seats width i))).high)

-- from the first place on whose message does not come before five numbers: the smallest pending message at or after them, or none
module _ (l : List ℕ) (n : Name) where
  abbrev p : Msg → Bool
  p = (meaning l).pending

  abbrev from : ℕ
  from = place_from seats width n

  at_or_after : IsFirst (messages - from) from (λ i. p (message_at seats width i)) (first_pending l from)
  unfolding first_pending
  at_or_after = first (messages - from) from (λ i. p (message_at seats width i))

  pub first-pending-smallest : first_pending l from < messages → smallest_from seats width p n ≡ some (message_at seats width (first_pending l from))
  first-pending-smallest h = let f = at_or_after in
      smallest-first seats width p n (first_pending l from) f.low h (f.found (omega arith)) (λ j a b. f.before j a b)

  pub none-pending-from : first_pending l from ≡ messages → smallest_from seats width p n ≡ none
  none-pending-from e = none_first seats width p n (λ j a b. at_or_after.before j a (rw e b))

-- from a place on below which nothing is pending: the smallest of all pending messages, or none
module _ (l : List ℕ) (from : ℕ) (clear : (j : ℕ) → j < from → (meaning l).pending (message_at seats width j) ≡ false) where
  abbrev pends : ℕ → Bool
  pends i = (meaning l).pending (message_at seats width i)

  at_first : IsFirst (messages - from) from pends (first_pending l from)
  unfolding first_pending
  at_first = first (messages - from) from pends

  -- nothing is pending before the first
  pub first-clear : (j : ℕ) → j < first_pending l from → (meaning l).pending (message_at seats width j) ≡ false
  first-clear j h = ⊎_elim (λ g. clear j g) (λ g. at_first.before j g h) (lt-or-ge j from)

  pub first-smallest : from ≤ messages → first_pending l from < messages
      → smallest seats width (meaning l).pending ≡ some (message_at seats width (first_pending l from))
  unfolding from_kind
  first-smallest g h =
      smallest-first seats width (meaning l).pending (name 0 0 0 0 0) (first_pending l from) (omega arith) h (at_first.found (omega arith))
      (λ j a b. first-clear j b)

  pub first-none : first_pending l from ≡ messages → smallest seats width (meaning l).pending ≡ none
  first-none e = none_first seats width (meaning l).pending (name 0 0 0 0 0) (λ j a b. first-clear j (rw e b))

pub none-before-zero : (l : List ℕ) → NoneBefore l 0
none-before-zero l = record { within = omega arith; clear = λ j h. absurd (omega arith) }

-- nothing is pending by the count
pub none-before-end : (l : List ℕ) → count messages (bit_set l pending_from) ≡ 0 → NoneBefore l messages
none-before-end l e = record { within = omega arith; clear = (count-zero messages (bit_set l pending_from)).0 e }

-- the first place of all: nothing is pending before it, and something is exactly if it is a place
module _ (l : List ℕ) {i : ℕ} (e : i ≡ first_pending l 0) where
  pub first-of-all : IsFirst messages 0 (bit_set l pending_from) i
  first-of-all = rw (e, ← first-pending-bit l 0 (omega arith)) (first messages 0 (bit_set l pending_from))

  pub none-before-first : NoneBefore l i
  none-before-first = record { within = omega (arith, first-of-all.high); clear = λ j h. first-of-all.before j (omega arith) h }

  pub quiet-pending : messages ≤ i → some_pending seats width (meaning l).pending ≡ false
  unfolding some_pending
  quiet-pending h = none_any messages (λ i. (meaning l).pending (message_at seats width i))
      (λ j p t. false-T (meaning-bit l j p ∙ first-of-all.before j (omega arith) (omega arith)) t)

  pub some-pending : i < messages → some_pending seats width (meaning l).pending ≡ true
  unfolding some_pending
  some-pending h = T_true (any-in messages (λ i. (meaning l).pending (message_at seats width i)) i h (true-T (meaning-bit l i h ∙ first-of-all.found h)))

  pub quiet-test : eqb i messages ≡ not (some_pending seats width (meaning l).pending)
  quiet-test = ⊎_elim
      (λ z. rw (eq-eqb i messages z, quiet-pending (omega arith)))
      (λ ne. rw (ne_eqb i messages ne, some-pending (omega (arith, first-of-all.high, ne))))
      (eq-or-ne i messages)

-- the place that the code found, or how many there are
pub place-found : (o : code.Option ℕ) {p : ℕ} → IsPlace o p → unwrap_or o messages ≡ p
place-found None h = sym h
place-found (Some i) h = h.0

pub place-below : (o : code.Option ℕ) (p : ℕ) → IsPlace o p → IfSome o (λ i. i < messages)
place-below None p h = tt
place-below (Some i) p h = h.1
