-- When the five numbers that the code carries are those of the message at a place, and the first place whose message is pending. Assumes nothing.
use Rattle.std.specs.Prelude.{ℕ, ◌-◌, ◌≤◌, ◌<◌, ◌≡◌, false, List, None, Some}
use Rattle.std.specs.Prelude as code
use Rattle.std.proofs.Math.Option.{Option, none}
use Rattle.base.specs.Loops.{first_from}
use Rattle.memory.specs.Bits.{bit_set}
use Rattle.graph.specs.Vector.{width}
use Rattle.protocol.specs.Message.{Msg, Name, name_of}
use Rattle.protocol.specs.Numbering.{message_at}
use Rattle.protocol.specs.Order.{name_or_zeros}
use Rattle.record.specs.Layout.{seats, levels, messages, pending_from}
use Rattle.record.specs.Meaning.{meaning}
use Rattle.messages.specs.declared.Message.{Message}
use Rattle.messages.specs.Numbers.{numbers}

-- each number in its range
pub record InRange (n : Name) : Type 0 where
  pub some_kind : 0 < n.kind
  pub kind : n.kind < 8
  pub to : n.to < seats
  pub about : n.about < seats
  pub level : n.level < levels
  pub side : n.side < 2

-- what the code answers where the message is m, if there is one
abbrev pub IsNamed : code.Option Message → Option Msg → Type 0
IsNamed None m = m ≡ none
IsNamed (Some r) m = (numbers r ≡ name_or_zeros m) × InRange (numbers r)

-- the numbers of the message at place i
pub record Stands (i : ℕ) (m : Message) : Type 0 where
  pub is_named : numbers m ≡ name_of (message_at seats width i)
  pub in_range : InRange (numbers m)

-- the first place at or after `from` whose message is pending, or how many places there are
unfoldable pub first_pending : List ℕ → (from : ℕ) → ℕ
first_pending l from = first_from (messages - from) from (λ i. (meaning l).pending (message_at seats width i))

-- nothing is pending at the places before i, which is a place or their number
pub record NoneBefore (l : List ℕ) (i : ℕ) : Type 0 where
  pub within : i ≤ messages
  pub clear : (j : ℕ) → j < i → bit_set l pending_from j ≡ false
