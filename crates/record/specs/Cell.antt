-- The cells of a record: each of its fields, with its place. Every byte lies in one cell, and a cell's bytes hold a number, the highest byte
-- first. A new field is a constructor, its place and its size here, and its value in Meaning.antt. Assumes nothing.
use Rattle.std.specs.Prelude.{ℕ, ◌+◌, ◌-◌, ◌/◌, ◌%◌, cond, ltb}
use Rattle.graph.specs.Side.{Side, side_of_number}
use Rattle.record.specs.Layout.{phase_size, state_size, number_size, vector_size, link_size, entry_size}
use Rattle.record.specs.Layout.{number_offset, vector_offset, links_offset, phase_at, entries_from, state_at, number_from, vector_from, link_at, pending_from}

-- the phase; state, number, vector and links of a seat; a byte of the pending bits
pub data Cell : Type 0 where
  phase_cell : Cell
  state_cell number_cell vector_cell : (s : ℕ) → Cell
  link_cell : (s k : ℕ) (d : Side) → Cell
  pending_cell : (b : ℕ) → Cell

-- the first byte of a cell
abbrev pub cell_from : Cell → ℕ
cell_from phase_cell = phase_at
cell_from (state_cell s) = state_at s
cell_from (number_cell s) = number_from s
cell_from (vector_cell s) = vector_from s
cell_from (link_cell s k d) = link_at s k d
cell_from (pending_cell b) = pending_from + b

-- how many bytes it has
abbrev pub cell_size : Cell → ℕ
cell_size phase_cell = phase_size
cell_size (state_cell s) = state_size
cell_size (number_cell s) = number_size
cell_size (vector_cell s) = vector_size
cell_size (link_cell s k d) = link_size
cell_size (pending_cell b) = 1

-- the cell of byte j of the entry of seat s
unfoldable pub entry_cell : (s j : ℕ) → Cell
entry_cell s j =
    cond (ltb j number_offset) (state_cell s)
    (cond (ltb j vector_offset) (number_cell s)
    (cond (ltb j links_offset) (vector_cell s)
    (link_cell s ((j - links_offset) / 2) (side_of_number ((j - links_offset) % 2)))))

-- the cell of byte i of the record
unfoldable pub cell_at : ℕ → Cell
cell_at i =
    cond (ltb i entries_from) phase_cell
    (cond (ltb i pending_from) (entry_cell ((i - entries_from) / entry_size) ((i - entries_from) % entry_size)) (pending_cell (i - pending_from)))
