-- The place of the message that five numbers name, among all messages (protocol's specs/Numbering.antt). Assumes nothing.
use Rattle.std.specs.Prelude.{ℕ, ◌≡◌, ◌<◌, Bool, false, cond, None, Some}
use Rattle.std.specs.Prelude as code
use Rattle.std.proofs.Math.Option.{Option, none, some}
use Rattle.graph.specs.Vector.{width}
use Rattle.protocol.specs.Message.{Msg}
use Rattle.protocol.specs.Numbering.{exists, place}
use Rattle.record.specs.Layout.{seats, messages}

-- the numbers name a message that exists
unfoldable pub is_message : Option Msg → Bool
is_message none = false
is_message (some m) = exists seats width m

-- the place of a message, or how many there are if there is none
unfoldable pub place_of : Option Msg → ℕ
place_of none = messages
place_of (some m) = cond (exists seats width m) (place seats width m) messages

-- what the code answers where the place is p: none where p is how many places there are
abbrev pub IsPlace : code.Option ℕ → ℕ → Type 0
IsPlace None p = p ≡ messages
IsPlace (Some i) p = (i ≡ p) × (i < messages)
