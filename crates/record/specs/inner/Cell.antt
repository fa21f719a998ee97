-- Which cells a record has, the number in a cell, and the bytes with another number in it. Assumes nothing.
use Rattle.std.specs.Prelude.{ℕ, ◌+◌, ◌<◌, ◌≡◌, List, get_or}
use Rattle.memory.specs.Bytes.{number_at, put_number, digit}
use Rattle.record.specs.Layout.{seats, levels, pending_size}
use Rattle.record.specs.Cell.{Cell, phase_cell, state_cell, number_cell, vector_cell, link_cell, pending_cell, cell_from, cell_size}

-- seat, level and byte exist
abbrev pub InRecord : Cell → Type 0
InRecord phase_cell = Unit {0}
InRecord (state_cell s) = s < seats
InRecord (number_cell s) = s < seats
InRecord (vector_cell s) = s < seats
InRecord (link_cell s k d) = (s < seats) × (k < levels)
InRecord (pending_cell b) = b < pending_size

-- the number in a cell, and the bytes with another
abbrev pub cell_in : List ℕ → Cell → ℕ
cell_in l c = number_at l (cell_from c) (cell_size c)

abbrev pub put_cell : List ℕ → Cell → ℕ → List ℕ
put_cell l c v = put_number l (cell_from c) (cell_size c) v

-- the bytes of a cell are those of the number v
abbrev pub Holds : List ℕ → Cell → (v : ℕ) → Type 0
Holds l c v = (j : ℕ) → j < cell_size c → get_or l (cell_from c + j) 0 ≡ digit (cell_size c) v j
