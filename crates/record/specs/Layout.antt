-- Sizes and places of a record (docs/RECORD.md), computed from the seats, the width of a vector and the bytes of each field: the phase, an
-- entry for each seat, and the pending bits. `At` is a byte, `From` the first of several. Assumes nothing.
use Rattle.std.specs.Prelude.{ℕ, suc, ◌+◌, ◌*◌, ◌/◌}
use Rattle.graph.specs.Side.{Side, side_number}
use Rattle.graph.specs.Vector.{width}
use Rattle.protocol.specs.Sound.{number_bits}
use Rattle.protocol.specs.Numbering.{count}

abbrev pub seats : ℕ
seats = 64

-- levels 0 to width
abbrev pub levels : ℕ
levels = suc width

-- how many states a seat has, from 0 on
abbrev pub states : ℕ
states = 4

-- the byte of a link that is none
abbrev pub no_link : ℕ
no_link = 255

-- the bits of a byte
abbrev pub byte_bits : ℕ
byte_bits = 8

-- how many bytes each field has
abbrev pub phase_size : ℕ
phase_size = 1

abbrev pub state_size : ℕ
state_size = 1

abbrev pub number_size : ℕ
number_size = number_bits / byte_bits

abbrev pub vector_size : ℕ
vector_size = width / byte_bits

abbrev pub link_size : ℕ
link_size = 1

-- a left and a right link for each level
abbrev pub links_size : ℕ
links_size = 2 * levels

-- the fields of an entry one after the other: where each begins in it
abbrev pub state_offset : ℕ
state_offset = 0

abbrev pub number_offset : ℕ
number_offset = state_offset + state_size

abbrev pub vector_offset : ℕ
vector_offset = number_offset + number_size

abbrev pub links_offset : ℕ
links_offset = vector_offset + vector_size

-- links level by level, left then right
abbrev pub link_offset : (k : ℕ) → Side → ℕ
link_offset k d = links_offset + 2 * k + side_number d

abbrev pub entry_size : ℕ
entry_size = links_offset + links_size

-- how many messages exist, a bit for each
abbrev pub messages : ℕ
messages = count seats width

abbrev pub pending_size : ℕ
pending_size = messages / byte_bits

-- where each part of the record begins
abbrev pub phase_at : ℕ
phase_at = 0

abbrev pub entries_from : ℕ
entries_from = phase_at + phase_size

abbrev pub entry_at : ℕ → ℕ
entry_at s = entries_from + entry_size * s

-- bit i of the pending bits is the message at place i
abbrev pub pending_from : ℕ
pending_from = entry_at seats

abbrev pub size : ℕ
size = pending_from + pending_size

-- the fields of the entry of seat s
abbrev pub state_at : ℕ → ℕ
state_at s = entry_at s + state_offset

-- the highest byte first
abbrev pub number_from : ℕ → ℕ
number_from s = entry_at s + number_offset

abbrev pub vector_from : ℕ → ℕ
vector_from s = entry_at s + vector_offset

abbrev pub links_from : ℕ → ℕ
links_from s = entry_at s + links_offset

abbrev pub link_at : (s k : ℕ) → Side → ℕ
link_at s k d = entry_at s + link_offset k d
