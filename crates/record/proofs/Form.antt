-- The form that the bytes of a meaning have, cell by cell, and what bytes mean, part by part: at seats, levels and messages that exist, and
-- at others. Assumes nothing.
use Prim.Native.Nat.{ℕ, ◌+◌, ◌*◌, ◌^◌, ◌≤◌, ◌<◌}
use mathlib.Core.Path.{◌≡◌, refl, sym, ap, ◌∙◌}
use mathlib.Core.Logic.{◌⊎◌, ⊎_elim}
use mathlib.Core.Option.{none}
use mathlib.Core.List.{List}
use native.Mathlib.Omega.{arith}
use lib.Dec.{T, ltb}
use lib.ListN.{length, get_or}
use borrow.Author.Tests.{lt-ltb, le-ltb}
use Rattle.memory.specs.Bytes.{AreBytes, number_at}
use Rattle.memory.specs.Bits.{bit_set}
use Rattle.memory.proofs.Bytes.{number_at-one}
use Rattle.memory.proofs.Packed.{packed-same}
use Rattle.memory.proofs.Bitmap.{byte-packed}
use Rattle.base.proofs.Cases.{and-false}
use Rattle.graph.specs.Side.{Side}
use Rattle.graph.specs.Vector.{width}
use Rattle.base.proofs.Tests.{T_true, and-fst}
use Rattle.protocol.specs.Message.{Msg}
use Rattle.protocol.specs.Numbering.{exists, place, message_at}
use Rattle.protocol.specs.Rules.{free}
use Rattle.protocol.specs.Sound.{number_bits}
use Rattle.record.specs.Layout.{seats, levels, byte_bits, number_size, vector_size, no_link, messages, phase_at, state_at, number_from, vector_from, link_at}
use Rattle.record.specs.Layout.{states, pending_from, size}
use Rattle.record.specs.Cell.{Cell, phase_cell, state_cell, number_cell, vector_cell, link_cell, pending_cell, cell_size}
use Rattle.record.specs.inner.Cell.{InRecord, cell_in}
use Rattle.record.specs.Meaning.{phase_of, state_of, link_of, seats_in, meaning, phase_byte, state_byte, link_byte, value_of}
use Rattle.record.proofs.Places.{exists-at, place_at}
use Rattle.record.proofs.Values.{phase_byte-phase_of, state_byte-state_of, link_byte-link_of}

-- the numbers that a cell can hold
abbrev pub CellFits : Cell → (v : ℕ) → Type 0
CellFits phase_cell v = v < 2
CellFits (state_cell s) v = v < states
CellFits (number_cell s) v = v < 2 ^ number_bits
CellFits (vector_cell s) v = v < 2 ^ width
CellFits (link_cell s k d) v = (v ≡ no_link) ⊎ (v < seats)
CellFits (pending_cell b) v = v < 2 ^ byte_bits

-- its bytes have room for them
pub fits_lt : (c : Cell) (v : ℕ) → CellFits c v → v < 256 ^ cell_size c
fits_lt phase_cell v h = omega arith
fits_lt (state_cell s) v h = omega arith
fits_lt (number_cell s) v h = h
fits_lt (vector_cell s) v h = h
fits_lt (link_cell s k d) v h = ⊎_elim (λ e. omega arith) (λ e. omega arith) h
fits_lt (pending_cell b) v h = h

pub record Form (l : List ℕ) : Type 0 where
  pub sized : length l ≡ size
  pub bytes : AreBytes l
  pub cells : (c : Cell) → InRecord c → CellFits c (cell_in l c)

module _ (l : List ℕ) where
  pub meaning-seats : (meaning l).seats ≡ seats_in l
  unfolding meaning
  meaning-seats = refl

  -- what exists
  pub meaning-phase : (meaning l).seats.phase ≡ phase_of (get_or l phase_at 0)
  unfolding meaning seats_in
  meaning-phase = refl

  pub meaning-state : (s : ℕ) → s < seats → (meaning l).seats.state s ≡ state_of (get_or l (state_at s) 0)
  unfolding meaning seats_in
  meaning-state s h = rw (lt-ltb s seats h)

  pub meaning-number : (s : ℕ) → s < seats → (meaning l).seats.number s ≡ number_at l (number_from s) number_size
  unfolding meaning seats_in
  meaning-number s h = rw (lt-ltb s seats h)

  pub meaning-vector : (s : ℕ) → s < seats → (meaning l).seats.vector s ≡ number_at l (vector_from s) vector_size
  unfolding meaning seats_in
  meaning-vector s h = rw (lt-ltb s seats h)

  pub meaning-link : (s k : ℕ) (d : Side) → s < seats → k < levels → (meaning l).link s k d ≡ link_of (get_or l (link_at s k d) 0)
  unfolding meaning
  meaning-link s k d h g = rw (lt-ltb s seats h, lt-ltb k levels g)

  pub meaning-pending : (m : Msg) → T (exists seats width m) → (meaning l).pending m ≡ bit_set l pending_from (place seats width m)
  unfolding meaning
  meaning-pending m x = rw (T_true {b = exists seats width m} x)

  -- the bit at a place is the message there
  pub meaning-bit : (i : ℕ) → i < messages → (meaning l).pending (message_at seats width i) ≡ bit_set l pending_from i
  meaning-bit i h = meaning-pending (message_at seats width i) (exists-at i h) ∙ ap (bit_set l pending_from) (place_at i h)

  -- and what does not exist
  pub no-seat-state : (s : ℕ) → seats ≤ s → (meaning l).seats.state s ≡ free
  unfolding meaning seats_in
  no-seat-state s h = rw (le-ltb s seats h)

  pub no-seat-number : (s : ℕ) → seats ≤ s → (meaning l).seats.number s ≡ 0
  unfolding meaning seats_in
  no-seat-number s h = rw (le-ltb s seats h)

  pub no-seat-vector : (s : ℕ) → seats ≤ s → (meaning l).seats.vector s ≡ 0
  unfolding meaning seats_in
  no-seat-vector s h = rw (le-ltb s seats h)

  pub no-seat-link : (s k : ℕ) (d : Side) → seats ≤ s → (meaning l).link s k d ≡ none
  unfolding meaning
  no-seat-link s k d h = rw (le-ltb s seats h)

  pub no-level-link : (s k : ℕ) (d : Side) → levels ≤ k → (meaning l).link s k d ≡ none
  unfolding meaning
  no-level-link s k d h = rw (and-false (ltb s seats) (ltb k levels) (le-ltb k levels h))

  pub exists-pending : (m : Msg) → T ((meaning l).pending m) → T (exists seats width m)
  unfolding meaning
  exists-pending m t = and-fst (exists seats width m) (bit_set l pending_from (place seats width m)) t

-- a cell's value in the meaning of bytes of the form is what it holds
pub value-meaning : {l : List ℕ} → Form l → (c : Cell) → InRecord c → value_of (meaning l) c ≡ cell_in l c
value-meaning {l} f phase_cell p =
    ap phase_byte (meaning-phase l ∙ ap phase_of (sym (number_at-one l phase_at))) ∙ phase_byte-phase_of (cell_in l phase_cell) (f.cells phase_cell p)
value-meaning {l} f (state_cell s) p =
    ap state_byte (meaning-state l s p ∙ ap state_of (sym (number_at-one l (state_at s))))
    ∙ state_byte-state_of (cell_in l (state_cell s)) (f.cells (state_cell s) p)
value-meaning {l} f (number_cell s) p = meaning-number l s p
value-meaning {l} f (vector_cell s) p = meaning-vector l s p
value-meaning {l} f (link_cell s k d) p =
    ap link_byte (meaning-link l s k d p.0 p.1 ∙ ap link_of (sym (number_at-one l (link_at s k d))))
    ∙ link_byte-link_of (cell_in l (link_cell s k d)) (f.cells (link_cell s k d) p)
value-meaning {l} f (pending_cell b) p =
    packed-same byte_bits (λ j. (meaning l).pending (message_at seats width (b * byte_bits + j))) (λ j. bit_set l pending_from (b * byte_bits + j))
    (λ j q. meaning-bit l (b * byte_bits + j) (omega arith))
    ∙ sym (byte-packed l pending_from b f.bytes)
    ∙ sym (number_at-one l (pending_from + b))
