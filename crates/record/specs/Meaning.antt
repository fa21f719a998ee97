-- What the bytes of a record mean, and the bytes of a meaning. Assumes nothing.
use Rattle.std.specs.Prelude.{ℕ, ◌+◌, ◌-◌, ◌*◌, cond, ◌&&◌, List, eqb, ltb, get_or}
use Rattle.std.proofs.Math.Option.{Option, none, some}
use Rattle.memory.specs.Bytes.{number_at, digit}
use Rattle.memory.specs.Bits.{bit_set, packed}
use Rattle.base.specs.Loops.{tabulate}
use Rattle.graph.specs.Vector.{width}
use Rattle.protocol.specs.Numbering.{exists, place, message_at}
use Rattle.protocol.specs.Rules.{SeatState, free, staying, leaving, reserved}
use Rattle.protocol.specs.State.{Phase, open_phase, clearing, Seats, Meaning}
use Rattle.record.specs.Layout.{seats, levels, byte_bits, number_size, vector_size, no_link, phase_at, state_at, number_from, vector_from, link_at}
use Rattle.record.specs.Layout.{pending_from, size}
use Rattle.record.specs.Cell.{Cell, phase_cell, state_cell, number_cell, vector_cell, link_cell, pending_cell, cell_from, cell_size, cell_at}

-- a byte as phase, state and link
unfoldable pub phase_of : ℕ → Phase
phase_of b = cond (eqb b 0) open_phase clearing

unfoldable pub state_of : ℕ → SeatState
state_of b = cond (eqb b 0) free (cond (eqb b 1) staying (cond (eqb b 2) leaving reserved))

unfoldable pub link_of : ℕ → Option ℕ
link_of b = cond (ltb b seats) (some b) none

-- phase and lots; seats that do not exist are free
unfoldable pub seats_in : List ℕ → Seats
seats_in l = record {
  phase = phase_of (get_or l phase_at 0);
  state = λ x. cond (ltb x seats) (state_of (get_or l (state_at x) 0)) free;
  number = λ x. cond (ltb x seats) (number_at l (number_from x) number_size) 0;
  vector = λ x. cond (ltb x seats) (number_at l (vector_from x) vector_size) 0;
}

-- the meaning of the bytes
unfoldable pub meaning : List ℕ → Meaning
meaning l = record {
  seats = seats_in l;
  link = λ x k d. cond (ltb x seats && ltb k levels) (link_of (get_or l (link_at x k d) 0)) none;
  pending = λ m. exists seats width m && bit_set l pending_from (place seats width m);
}

-- phase, state and link as a byte
abbrev pub phase_byte : Phase → ℕ
phase_byte open_phase = 0
phase_byte clearing = 1

abbrev pub state_byte : SeatState → ℕ
state_byte free = 0
state_byte staying = 1
state_byte leaving = 2
state_byte reserved = 3

abbrev pub link_byte : Option ℕ → ℕ
link_byte none = no_link
link_byte (some x) = x

-- the number that a meaning has in a cell; a byte of the pending bits has a bit for each of its messages
abbrev pub value_of : Meaning → Cell → ℕ
value_of M phase_cell = phase_byte M.seats.phase
value_of M (state_cell s) = state_byte (M.seats.state s)
value_of M (number_cell s) = M.seats.number s
value_of M (vector_cell s) = M.seats.vector s
value_of M (link_cell s k d) = link_byte (M.link s k d)
value_of M (pending_cell b) = packed byte_bits (λ j. M.pending (message_at seats width (b * byte_bits + j)))

-- byte i of the record: a digit of its cell's value
unfoldable pub byte_of : Meaning → ℕ → ℕ
byte_of M i = let c = cell_at i in digit (cell_size c) (value_of M c) (i - cell_from c)

-- the bytes of a meaning
unfoldable pub bytes_of : Meaning → List ℕ
bytes_of M = tabulate size (byte_of M)
