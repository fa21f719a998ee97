-- Examples of a link written in an entry that is lent (document 02, #103), and beside them bytes that no such writing leaves: an entry of 28 bytes,
-- each its own place, whose links are bytes 10 to 27. Assumes nothing.
use Rattle.std.specs.Prelude.{ℕ, List, set}
use Rattle.base.specs.Loops.{tabulate}
use Rattle.graph.specs.Side.{left, right}
use Rattle.record.specs.Layout.{no_link, entry_size}
use Rattle.record.specs.inner.Entry.{Written}
use Rattle.std.specs.Prelude.{None, Some}

abbrev pub bytes : List ℕ
bytes = tabulate entry_size (λ j. j)

pub record Writings : Type 0 where
  -- the first link, the last, and one between
  pub sets : Written bytes (set bytes 10 63) 0 left (Some 63)
      × Written bytes (set bytes 27 63) 8 right (Some 63)
      × Written bytes (set bytes 14 63) 2 left (Some 63)
  -- one byte beside: the vector's, and the opposite link's
  pub beside : (Written bytes (set bytes 9 63) 0 left (Some 63) → ⊥) × (Written bytes (set bytes 11 63) 0 left (Some 63) → ⊥)
  -- the opposite link cleared with it
  pub opposite : Written bytes (set (set bytes 14 63) 15 no_link) 2 left (Some 63) → ⊥
  -- a link set to what it is, and one that stays: every byte as it was, and no other entry
  pub same : Written bytes bytes 2 left (Some 14)
  pub kept : Written bytes bytes 2 left None × (Written bytes (set bytes 14 63) 2 left None → ⊥)
