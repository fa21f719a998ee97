-- Messages sent and taken, in the bytes: a bit each. The meaning is any, and the messages exist. Assumes nothing.
use Prim.Native.Nat.{ℕ, ◌+◌, ◌*◌, ◌/◌, ◌%◌, ◌^◌, ◌<◌}
use mathlib.Core.Path.{◌≡◌, refl, sym, ap, ◌∙◌}
use mathlib.Core.Logic.{⊎_elim, ◌≢◌}
use mathlib.Core.Option.{Option, none, some}
use mathlib.Core.Bool.{Bool, true, false}
use mathlib.Core.List.Memᴰ
use mathlib.Core.List.{List, [], ◌∷◌, ◌++◌, Memᴰ}
use native.Mathlib.Omega.{arith}
use lib.Dec.{T}
use lib.ListN.{get_or}
use borrow.Author.Tests.{lt-ltb}
use Rattle.memory.specs.Bits.{has_bit, with_bit, packed, put_bit, set_bit, clear_bit}
use Rattle.base.proofs.Cases.{eq-or-ne}
use Rattle.base.proofs.Tests.{true-T}
use Rattle.memory.proofs.Bits.{has_bit-with_bit, has_bit-with_bit-other, with_bit-lt}
use Rattle.memory.proofs.Bytes.{put_number-one}
use Rattle.memory.proofs.Packed.{packed_lt, packed-bits, packed-is, packed-same}
use Rattle.graph.specs.Vector.{width}
use Rattle.protocol.specs.Message.{Msg, meet}
use Rattle.protocol.specs.Numbering.{exists, place, message_at}
use Rattle.protocol.specs.State.{Meaning}
use Rattle.protocol.specs.Page.{pending_after}
use Rattle.protocol.proofs.Numbering.{message_at-place}
use Rattle.record.specs.Layout.{seats, byte_bits, messages, pending_from, pending_size}
use Rattle.record.specs.Cell.{Cell, phase_cell, state_cell, number_cell, vector_cell, link_cell, pending_cell}
use Rattle.record.specs.inner.Cell.{InRecord, put_cell}
use Rattle.record.specs.inner.Sent.{sent_bits}
use Rattle.record.specs.Meaning.{value_of, bytes_of}
use Rattle.record.proofs.Places.{place-within, place_at}
use Rattle.record.proofs.Frame.{bytes-put}
use Rattle.record.proofs.Round.{read-pending}
use Rattle.protocol.proofs.Calls.{after_nothing}
use Rattle.record.proofs.Pending.{sent-same, sent-other, taken-same, taken-other, after-taken, after_first}
use Rattle.record.proofs.Update.{with_pending, with_message, without_message}

-- MEET at level 0 exists
pub meet-exists : (x y : ℕ) → x < seats → y < seats → T (exists seats width (meet x y 0))
unfolding exists
meet-exists x y h g = true-T {b = exists seats width (meet x y 0)} (rw (lt-ltb x seats h, lt-ltb y seats g))

-- one message, sent or taken: p is as before but at m
module _ (M : Meaning) (p : Msg → Bool) (m : Msg) (x : T (exists seats width m)) (b : Bool) (here : p m ≡ b)
    (others : (n : Msg) → n ≢ m → p n ≡ M.pending n) where
  other : (j : ℕ) → j < messages → j ≢ place seats width m → message_at seats width j ≢ m
  other j h ne e = ne (sym (place_at j h) ∙ ap (place seats width) e)

  -- the byte of its bit
  within : place seats width m / byte_bits < pending_size
  within = omega (arith, place-within m x)

  -- other cells stay
  kept : (c : Cell) → InRecord c → c ≢ pending_cell (place seats width m / byte_bits) → value_of (with_pending M p) c ≡ value_of M c
  kept phase_cell q ne = refl
  kept (state_cell s) q ne = refl
  kept (number_cell s) q ne = refl
  kept (vector_cell s) q ne = refl
  kept (link_cell s k d) q ne = refl
  kept (pending_cell i) q ne =
      packed-same byte_bits (λ j. p (message_at seats width (i * byte_bits + j))) (λ j. M.pending (message_at seats width (i * byte_bits + j)))
      (λ j g. others (message_at seats width (i * byte_bits + j)) (other (i * byte_bits + j) (omega arith) (λ e. ne (ap pending_cell (omega arith)))))

  pub bytes-with_bit : bytes_of (with_pending M p) ≡ put_bit (bytes_of M) pending_from (place seats width m) b
  bytes-with_bit =
      bytes-put M (with_pending M p) (pending_cell (c / byte_bits)) within kept
      ∙ ap (put_cell (bytes_of M) (pending_cell (c / byte_bits))) new
      ∙ put_number-one (bytes_of M) (pending_from + c / byte_bits) (with_bit y (c % byte_bits) b) (with_bit-lt byte_bits y (c % byte_bits) b low (omega arith))
    where
      c : ℕ
      c = place seats width m

      y : ℕ
      y = get_or (bytes_of M) (pending_from + c / byte_bits) 0

      old : y ≡ packed byte_bits (λ j. M.pending (message_at seats width (c / byte_bits * byte_bits + j)))
      old = read-pending M (c / byte_bits) within

      low : y < 2 ^ byte_bits
      low = rw old (packed_lt byte_bits (λ j. M.pending (message_at seats width (c / byte_bits * byte_bits + j))))

      bit : (j : ℕ) → j < byte_bits → has_bit (with_bit y (c % byte_bits) b) j ≡ p (message_at seats width (c / byte_bits * byte_bits + j))
      bit j l = ⊎_elim
          (λ e. ap (has_bit (with_bit y (c % byte_bits) b)) e
          ∙ has_bit-with_bit y (c % byte_bits) b
          ∙ sym (ap p (ap (message_at seats width) (omega arith) ∙ message_at-place seats width m x) ∙ here))
          (λ e. has_bit-with_bit-other y (c % byte_bits) j b e
          ∙ ap (λ (n : ℕ). has_bit n j) old
          ∙ packed-bits byte_bits (λ j. M.pending (message_at seats width (c / byte_bits * byte_bits + j))) j l
          ∙ (let i = c / byte_bits * byte_bits + j in
          sym (others (message_at seats width i) (other i (omega (arith, place-within m x)) (λ q. e (omega arith))))))
          (eq-or-ne j (c % byte_bits))

      new : packed byte_bits (λ j. p (message_at seats width (place seats width m / byte_bits * byte_bits + j))) ≡ with_bit y (c % byte_bits) b
      new =
          packed-is byte_bits (with_bit y (c % byte_bits) b) (λ j. p (message_at seats width (c / byte_bits * byte_bits + j)))
          (with_bit-lt byte_bits y (c % byte_bits) b low (omega arith)) bit

module _ (M : Meaning) (m : Msg) (x : T (exists seats width m)) where
  pub bytes-with_message : bytes_of (with_message M m) ≡ set_bit (bytes_of M) pending_from (place seats width m)
  bytes-with_message = bytes-with_bit M (pending_after (m ∷ []) none M.pending) m x true (sent-same m M.pending) (sent-other m M.pending)

  pub bytes-without_message : bytes_of (without_message M m) ≡ clear_bit (bytes_of M) pending_from (place seats width m)
  bytes-without_message = bytes-with_bit M (pending_after [] (some m) M.pending) m x false (taken-same m M.pending) (taken-other m M.pending)

-- a message taken first
unfoldable pub taken_bits : Option Msg → List ℕ → List ℕ
taken_bits none l = l
taken_bits (some m) l = clear_bit l pending_from (place seats width m)

pub sent_bits-append : (s t : List Msg) (l : List ℕ) → sent_bits (s ++ t) l ≡ sent_bits t (sent_bits s l)
unfolding sent_bits
sent_bits-append [] t l = refl
sent_bits-append (m ∷ s) t l = sent_bits-append s t (set_bit l pending_from (place seats width m))

pub bytes-sent : (M : Meaning) (s : List Msg) → ((m : Msg) → Memᴰ m s → T (exists seats width m))
    → bytes_of (with_pending M (pending_after s none M.pending)) ≡ sent_bits s (bytes_of M)
unfolding sent_bits
bytes-sent M [] x = ap (λ (p : Msg → Bool). bytes_of (with_pending M p)) (after_nothing M.pending)
bytes-sent M (m ∷ s) x =
    ap (λ (p : Msg → Bool). bytes_of (with_pending M p)) (after_first m s none M.pending)
    ∙ bytes-sent (with_message M m) s (λ n h. x n (Memᴰ.tail h))
    ∙ ap (sent_bits s) (bytes-with_message M m (x m (Memᴰ.head refl)))

pub bytes-taken : (M : Meaning) (t : Option Msg) → ((m : Msg) → t ≡ some m → T (exists seats width m))
    → bytes_of (with_pending M (pending_after [] t M.pending)) ≡ taken_bits t (bytes_of M)
unfolding taken_bits sent_bits
bytes-taken M none y = bytes-sent M [] (λ m h. absurd (Memᴰ.not-nil h))
bytes-taken M (some m) y = bytes-without_message M m (y m refl)

-- the pending set after a call
pub bytes-pending_after : (M : Meaning) (s : List Msg) (t : Option Msg) → ((m : Msg) → Memᴰ m s → T (exists seats width m))
    → ((m : Msg) → t ≡ some m → T (exists seats width m))
    → bytes_of (with_pending M (pending_after s t M.pending)) ≡ sent_bits s (taken_bits t (bytes_of M))
bytes-pending_after M s t x y =
    ap (λ (p : Msg → Bool). bytes_of (with_pending M p)) (after-taken s t M.pending)
    ∙ bytes-sent (with_pending M (pending_after [] t M.pending)) s x
    ∙ ap (sent_bits s) (bytes-taken M t y)
