-- The bytes that open writes, cell by cell. Assumes nothing.
use Rattle.std.specs.Prelude.{ℕ, ◌≡◌, List, length}
use Rattle.record.specs.Layout.{no_link, size}
use Rattle.record.specs.Cell.{Cell, phase_cell, state_cell, number_cell, vector_cell, link_cell, pending_cell}
use Rattle.record.specs.inner.Cell.{InRecord, Holds}

-- links are none, and every other cell holds 0
abbrev pub opened_value : Cell → ℕ
opened_value phase_cell = 0
opened_value (state_cell s) = 0
opened_value (number_cell s) = 0
opened_value (vector_cell s) = 0
opened_value (link_cell s k d) = no_link
opened_value (pending_cell b) = 0

pub record IsOpened (l : List ℕ) : Type 0 where
  pub sized : length l ≡ size
  pub cells : (c : Cell) → InRecord c → Holds l c (opened_value c)
