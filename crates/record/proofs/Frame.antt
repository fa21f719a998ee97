-- Meanings with the same values have the same bytes; those that differ in one cell have the bytes with that cell put; and a meaning's parts
-- give its values. Assumes nothing.
use Prim.Native.Nat.{ℕ, ◌+◌, ◌*◌, ◌<◌}
use mathlib.Core.Path.{◌≡◌, sym, ap, ◌∙◌, subst}
use mathlib.Core.Logic.{⊎_elim, ◌≢◌}
use mathlib.Core.Bool.{Bool}
use mathlib.Core.List.{List}
use native.Mathlib.Omega.{arith}
use lib.ListN.{length, get_or}
use Rattle.memory.specs.Bytes.{digit}
use Rattle.memory.proofs.Bytes.{length-put_number, get_d-put_number-other}
use Rattle.memory.proofs.Digits.{get_d-put_number}
use Rattle.base.proofs.Tabulate.{tabulate-is, tabulate-same}
use Rattle.memory.proofs.Packed.{packed-same}
use Rattle.graph.specs.Side.{Side}
use Rattle.graph.specs.Vector.{width}
use Rattle.protocol.specs.Message.{Msg}
use Rattle.protocol.specs.Numbering.{message_at}
use Rattle.protocol.specs.State.{Seats, Meaning}
use Rattle.record.specs.Layout.{seats, levels, byte_bits, messages, pending_size, size}
use Rattle.record.specs.Cell.{Cell, phase_cell, state_cell, number_cell, vector_cell, link_cell, pending_cell, cell_from, cell_size}
use Rattle.record.specs.inner.Cell.{InRecord, put_cell, Holds}
use Rattle.record.specs.Meaning.{phase_byte, state_byte, link_byte, value_of, byte_of, bytes_of}
use Rattle.record.proofs.Places.{length-bytes_of}
use Rattle.record.proofs.Cells.{cell-within, same-cell, cell-outside, by-cell, byte-cell, bytes-hold}

-- the bytes of a list are those of a meaning if each cell's are
pub bytes-are : (M : Meaning) {l : List ℕ} → length l ≡ size
    → ((c : Cell) → InRecord c → Holds l c (value_of M c)) → bytes_of M ≡ l
unfolding bytes_of
bytes-are M {l} e f =
    tabulate-is size (byte_of M) l e (by-cell (λ i. byte_of M i ≡ get_or l i 0) (λ c j p q. byte-cell M c p j q ∙ sym (f c p j q)))

module _ (M N : Meaning) where
  -- at the bytes of Q, if the values are the same of the cells with a byte in Q
  pub frame : (Q : ℕ → Type 0) → ((c : Cell) (j : ℕ) → InRecord c → j < cell_size c → Q (cell_from c + j) → value_of M c ≡ value_of N c)
      → (i : ℕ) → i < size → Q i → byte_of M i ≡ byte_of N i
  frame Q f = by-cell (λ i. Q i → byte_of M i ≡ byte_of N i) (λ c j p q x.
      byte-cell M c p j q ∙ ap (λ (v : ℕ). digit (cell_size c) v j) (f c j p q x) ∙ sym (byte-cell N c p j q))

  pub same-values : ((c : Cell) → InRecord c → value_of M c ≡ value_of N c) → bytes_of M ≡ bytes_of N
  unfolding bytes_of
  same-values f = tabulate-same size (byte_of M) (byte_of N) (λ i p. frame (λ i. Unit {0}) (λ c j q h x. f c q) i p tt)

  -- all cells but c
  pub bytes-put : (c : Cell) → InRecord c → ((e : Cell) → InRecord e → e ≢ c → value_of N e ≡ value_of M e)
      → bytes_of N ≡ put_cell (bytes_of M) c (value_of N c)
  bytes-put c p f =
      bytes-are N (length-put_number (bytes_of M) (cell_from c) (cell_size c) (value_of N c) ∙ length-bytes_of M)
      (λ e q. ⊎_elim (λ s. subst (λ (e : Cell). Holds (put_cell (bytes_of M) c (value_of N c)) e (value_of N e)) (sym s) new) (kept e q) (same-cell e c q p))
    where
      new : Holds (put_cell (bytes_of M) c (value_of N c)) c (value_of N c)
      new j h = get_d-put_number (bytes_of M) (cell_from c) (cell_size c) (value_of N c) j (rw (length-bytes_of M) (cell-within c p)) h

      kept : (e : Cell) → InRecord e → e ≢ c → Holds (put_cell (bytes_of M) c (value_of N c)) e (value_of N e)
      kept e q s j h =
          get_d-put_number-other (bytes_of M) (cell_from c) (cell_size c) (value_of N c) (cell_from e + j) (cell-outside c e p q s j h)
          ∙ bytes-hold M e q j h
          ∙ ap (λ (v : ℕ). digit (cell_size e) v j) (sym (f e q s))

-- two meanings agree, part by part, wherever there is a seat, a level, a message
pub record Same (M N : Meaning) : Type 0 where
  pub phase : M.seats.phase ≡ N.seats.phase
  pub state : (s : ℕ) → s < seats → M.seats.state s ≡ N.seats.state s
  pub number : (s : ℕ) → s < seats → M.seats.number s ≡ N.seats.number s
  pub vector : (s : ℕ) → s < seats → M.seats.vector s ≡ N.seats.vector s
  pub link : (s k : ℕ) (d : Side) → s < seats → k < levels → M.link s k d ≡ N.link s k d
  pub pending : (i : ℕ) → i < messages → M.pending (message_at seats width i) ≡ N.pending (message_at seats width i)

-- the messages of a byte of the pending bits
pub pending-value : (M N : Meaning) (b : ℕ) → b < pending_size
    → ((i : ℕ) → i < messages → M.pending (message_at seats width i) ≡ N.pending (message_at seats width i))
    → value_of M (pending_cell b) ≡ value_of N (pending_cell b)
pending-value M N b p f =
    packed-same byte_bits (λ j. M.pending (message_at seats width (b * byte_bits + j))) (λ j. N.pending (message_at seats width (b * byte_bits + j)))
    (λ j g. f (b * byte_bits + j) (omega arith))

pub bytes_same : {M N : Meaning} → Same M N → bytes_of M ≡ bytes_of N
bytes_same {M} {N} a = same-values M N by
  where
    by : (c : Cell) → InRecord c → value_of M c ≡ value_of N c
    by phase_cell p = ap phase_byte a.phase
    by (state_cell s) p = ap state_byte (a.state s p)
    by (number_cell s) p = a.number s p
    by (vector_cell s) p = a.vector s p
    by (link_cell s k d) p = ap link_byte (a.link s k d p.0 p.1)
    by (pending_cell b) p = pending-value M N b p a.pending

-- they differ in links alone
pub same-links : {M N : Meaning} → M.seats ≡ N.seats → M.pending ≡ N.pending
    → ((s k : ℕ) (d : Side) → s < seats → k < levels → M.link s k d ≡ N.link s k d) → Same M N
same-links r p l = record {
  phase = ap (λ (x : Seats). x.phase) r;
  state = λ s h. ap (λ (x : Seats). x.state s) r;
  number = λ s h. ap (λ (x : Seats). x.number s) r;
  vector = λ s h. ap (λ (x : Seats). x.vector s) r;
  link = l;
  pending = λ i h. ap (λ (x : Msg → Bool). x (message_at seats width i)) p;
}
