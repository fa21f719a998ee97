-- Room for the text of every answer. Assumes nothing.
use Rattle.std.specs.Prelude.{ℕ, ◌+◌, ◌*◌}
use Rattle.graph.specs.Vector.{width}
use Rattle.record.specs.Layout.{seats, levels}

-- a lot in a list: its number with the space before it, 21 bytes, and what stands before and after the list, of which level and bits are the largest
abbrev pub lot_room : ℕ
lot_room = 21 + (width + 6)

-- the longest text is that of P: its first line, and for each level every lot once
abbrev pub room : ℕ
room = 64 + levels * (lot_room * seats)
