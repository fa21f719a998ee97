-- Bytes and meaning undo each other: bytes of the form are those of their meaning, and a sound meaning is that of its bytes. Assumes nothing.
use Prim.Native.Nat.{ℕ, ◌+◌, ◌*◌, ◌/◌, ◌^◌, ◌≤◌, ◌<◌}
use mathlib.Core.Path.{◌≡◌, refl, sym, ap, ◌∙◌}
use mathlib.Core.Logic.{⊎_elim}
use mathlib.Core.Option.{Option, none, some}
use mathlib.Core.Bool.{not}
use mathlib.Core.List.{List}
use native.Mathlib.Omega.{arith}
use lib.Dec.{T}
use lib.ListN.{get_or, get_or-eq_default}
use Rattle.memory.specs.Bytes.{AreBytes, number_at, digit}
use Rattle.memory.specs.Bits.{bit_set}
use Rattle.base.proofs.Cases.{lt-or-ge}
use Rattle.memory.proofs.Bytes.{number_at-one}
use Rattle.memory.proofs.Digits.{digit_lt, digit-number_at}
use Rattle.memory.proofs.Packed.{packed_lt}
use Rattle.memory.proofs.Bitmap.{bit_set-packed}
use Rattle.graph.specs.Side.{Side}
use Rattle.graph.specs.Vector.{width}
use Rattle.base.proofs.Tests.{dec-T, not-T-false}
use Rattle.protocol.specs.Message.{Msg}
use Rattle.protocol.specs.Numbering.{exists, place, message_at}
use Rattle.protocol.specs.Rules.{SeatState, free, staying, leaving, reserved}
use Rattle.protocol.specs.State.{Meaning, is_free}
use Rattle.protocol.specs.Sound.{Sound, number_bits}
use Rattle.protocol.proofs.Numbering.{message_at-place}
use Rattle.protocol.proofs.SoundFacts.{two-level, link-linked, pending-exists, seated-below}
use Rattle.record.specs.Layout.{seats, levels, byte_bits, number_size, vector_size, messages, phase_at, state_at, number_from, vector_from, link_at}
use Rattle.record.specs.Layout.{pending_from, size}
use Rattle.record.specs.Cell.{Cell, phase_cell, state_cell, number_cell, vector_cell, link_cell, pending_cell, cell_from, cell_size}
use Rattle.record.specs.inner.Cell.{InRecord, cell_in}
use Rattle.record.specs.Meaning.{phase_of, state_of, link_of, seats_in, meaning, phase_byte, state_byte, link_byte, value_of, byte_of, bytes_of}
use Rattle.record.proofs.Values.{NamesSeat, phase_of-phase_byte, state_of-state_byte, link_of-link_byte}
use Rattle.record.proofs.Values.{phase_byte-lt, state_byte-lt, link_byte-lt, link_byte-byte, is_free-free}
use Rattle.record.proofs.Places.{place-within, length-bytes_of, get_d-bytes_of}
use Rattle.record.proofs.Cells.{by-cell, byte-cell, cell-read}
use Rattle.record.proofs.Frame.{bytes-are}
use Rattle.record.proofs.Form.{CellFits, fits_lt, Form, value-meaning, meaning-state, meaning-number, meaning-vector, meaning-link}
use Rattle.record.proofs.Form.{meaning-pending, no-seat-state, no-seat-number, no-seat-vector, no-seat-link, no-level-link, exists-pending}

-- the bytes of the meaning of bytes are those bytes
pub bytes-meaning : {l : List ℕ} → Form l → bytes_of (meaning l) ≡ l
bytes-meaning {l} f = bytes-are (meaning l) f.sized (λ c p j q.
    sym (digit-number_at l (cell_from c) (cell_size c) j f.bytes q) ∙ ap (λ (v : ℕ). digit (cell_size c) v j) (sym (value-meaning f c p)))

-- equal meaning is equal bytes
pub same_bytes : {l m : List ℕ} → Form l → Form m → meaning l ≡ meaning m → l ≡ m
same_bytes f g e = sym (bytes-meaning f) ∙ ap bytes_of e ∙ bytes-meaning g

-- the bytes of any meaning, read
module _ (M : Meaning) where
  pub read-phase : get_or (bytes_of M) phase_at 0 ≡ phase_byte M.seats.phase
  read-phase = sym (number_at-one (bytes_of M) phase_at) ∙ cell-read M phase_cell tt (omega (arith, phase_byte-lt M.seats.phase))

  module _ (s : ℕ) (h : s < seats) where
    pub read-state : get_or (bytes_of M) (state_at s) 0 ≡ state_byte (M.seats.state s)
    read-state = sym (number_at-one (bytes_of M) (state_at s)) ∙ cell-read M (state_cell s) h (omega (arith, state_byte-lt (M.seats.state s)))

    pub read_number : M.seats.number s < 2 ^ number_bits → number_at (bytes_of M) (number_from s) number_size ≡ M.seats.number s
    read_number b = cell-read M (number_cell s) h b

    pub read_vector : M.seats.vector s < 2 ^ width → number_at (bytes_of M) (vector_from s) vector_size ≡ M.seats.vector s
    read_vector b = cell-read M (vector_cell s) h b

    pub read-link : (k : ℕ) (d : Side) → k < levels → NamesSeat (M.link s k d) → get_or (bytes_of M) (link_at s k d) 0 ≡ link_byte (M.link s k d)
    read-link k d g n =
        sym (number_at-one (bytes_of M) (link_at s k d)) ∙ cell-read M (link_cell s k d) (h, g) (link_byte-byte (M.link s k d) n)

  pub read-pending : (b : ℕ) → InRecord (pending_cell b) → get_or (bytes_of M) (pending_from + b) 0 ≡ value_of M (pending_cell b)
  read-pending b h =
      sym (number_at-one (bytes_of M) (pending_from + b))
      ∙ cell-read M (pending_cell b) h (packed_lt byte_bits (λ j. M.pending (message_at seats width (b * byte_bits + j))))

  pub read-bit : (i : ℕ) → i < messages → bit_set (bytes_of M) pending_from i ≡ M.pending (message_at seats width i)
  read-bit i h = bit_set-packed (bytes_of M) pending_from i (λ n. M.pending (message_at seats width n)) (read-pending (i / byte_bits) (omega arith))

  pub read-message : (m : Msg) → T (exists seats width m) → bit_set (bytes_of M) pending_from (place seats width m) ≡ M.pending m
  read-message m x = read-bit (place seats width m) (place-within m x) ∙ ap M.pending (message_at-place seats width m x)

  -- they are bytes
  pub bytes-bytes : AreBytes (bytes_of M)
  bytes-bytes i = ⊎_elim
      (λ p. rw (get_d-bytes_of M i p)
      (by-cell (λ i. byte_of M i < 256) (λ c j p q. rw (byte-cell M c p j q) (digit_lt (cell_size c) (value_of M c) j)) i p))
      (λ p. rw (get_or-eq_default (bytes_of M) 0 {n = i} (rw (length-bytes_of M) p)) (omega arith))
      (lt-or-ge i size)

-- a sound meaning is that of its bytes
module _ {M : Meaning} (h : Sound seats width M) where
  pub out-free : (x : ℕ) → seats ≤ x → T (is_free (M.seats.state x))
  out-free x p = by (M.seats.state x) (λ t. omega (arith, h.seats x t))
    where
      by : (s : SeatState) → (T (not (is_free s)) → ⊥) → T (is_free s)
      by free f = tt
      by staying f = f tt
      by leaving f = f tt
      by reserved f = f tt

  pub link_seat : (x k y : ℕ) (d : Side) → M.link x k d ≡ some y → y < seats
  link_seat x k y d e = seated-below h y (link-linked h e).0.two

  -- the cells hold numbers that fit them
  value-fits : (c : Cell) → InRecord c → CellFits c (value_of M c)
  value-fits phase_cell p = phase_byte-lt M.seats.phase
  value-fits (state_cell s) p = state_byte-lt (M.seats.state s)
  value-fits (number_cell s) p = h.numbers s
  value-fits (vector_cell s) p = h.vectors s
  value-fits (link_cell s k d) p = link_byte-lt (M.link s k d) (λ y e. link_seat s k y d e)
  value-fits (pending_cell b) p = packed_lt byte_bits (λ j. M.pending (message_at seats width (b * byte_bits + j)))

  pub value_read : (c : Cell) → InRecord c → cell_in (bytes_of M) c ≡ value_of M c
  value_read c p = cell-read M c p (fits_lt c (value_of M c) (value-fits c p))

  pub no_level : (x k : ℕ) (d : Side) → levels ≤ k → M.link x k d ≡ none
  no_level x k d p = by (M.link x k d) refl
    where
      by : (o : Option ℕ) → M.link x k d ≡ o → M.link x k d ≡ none
      by none e = e
      by (some y) e = absurd (omega (arith, two-level (link-linked h e).0))

  same-state : (x : ℕ) → (meaning (bytes_of M)).seats.state x ≡ M.seats.state x
  same-state x = ⊎_elim
      (λ p. meaning-state (bytes_of M) x p ∙ ap state_of (read-state M x p) ∙ state_of-state_byte (M.seats.state x))
      (λ p. no-seat-state (bytes_of M) x p ∙ sym (is_free-free (M.seats.state x) (out-free x p)))
      (lt-or-ge x seats)

  same_number : (x : ℕ) → (meaning (bytes_of M)).seats.number x ≡ M.seats.number x
  same_number x = ⊎_elim
      (λ p. meaning-number (bytes_of M) x p ∙ read_number M x p (h.numbers x))
      (λ p. no-seat-number (bytes_of M) x p ∙ sym (h.unused x (out-free x p)).0)
      (lt-or-ge x seats)

  same-vector : (x : ℕ) → (meaning (bytes_of M)).seats.vector x ≡ M.seats.vector x
  same-vector x = ⊎_elim
      (λ p. meaning-vector (bytes_of M) x p ∙ read_vector M x p (h.vectors x))
      (λ p. no-seat-vector (bytes_of M) x p ∙ sym (h.unused x (out-free x p)).1)
      (lt-or-ge x seats)

  same-link : (x k : ℕ) (d : Side) → (meaning (bytes_of M)).link x k d ≡ M.link x k d
  same-link x k d = ⊎_elim
      (λ p. ⊎_elim
      (λ q. meaning-link (bytes_of M) x k d p q
      ∙ ap link_of (read-link M x p k d q (λ y e. link_seat x k y d e))
      ∙ link_of-link_byte (M.link x k d) (λ y e. link_seat x k y d e))
      (λ q. no-level-link (bytes_of M) x k d q ∙ sym (no_level x k d q))
      (lt-or-ge k levels))
      (λ p. no-seat-link (bytes_of M) x k d p ∙ sym ((h.unused x (out-free x p)).2 k d))
      (lt-or-ge x seats)

  same-pending : (m : Msg) → (meaning (bytes_of M)).pending m ≡ M.pending m
  same-pending m = by (dec-T (exists seats width m))
    where
      by : Dec (T (exists seats width m)) → (meaning (bytes_of M)).pending m ≡ M.pending m
      by (yes x) = meaning-pending (bytes_of M) m x ∙ read-message M m x
      by (no x) = not-T-false (λ t. x (exists-pending (bytes_of M) m t)) ∙ sym (not-T-false (λ t. x (pending-exists h m t)))

  pub meaning-bytes : meaning (bytes_of M) ≡ M
  unfolding meaning seats_in
  meaning-bytes = λ i. record {
    seats = record {
      phase = (ap phase_of (read-phase M) ∙ phase_of-phase_byte M.seats.phase) i;
      state = λ x. same-state x i;
      number = λ x. same_number x i;
      vector = λ x. same-vector x i;
    };
    link = λ x k d. same-link x k d i;
    pending = λ m. same-pending m i;
  }

  pub bytes-form : Form (bytes_of M)
  bytes-form = record {
    sized = length-bytes_of M;
    bytes = bytes-bytes M;
    cells = λ c p. rw (value_read c p) (value-fits c p);
  }
