-- The test of the pending messages, place by place: a place passes if no message is pending there or the message fits. Assumes nothing.
use Rattle.std.specs.Prelude.{ℕ, ◌+◌, Bool, not, ◌||◌, List}
use Rattle.memory.specs.Bits.{bit_set}
use Rattle.base.specs.Loops.{all}
use Rattle.graph.specs.Vector.{width}
use Rattle.protocol.specs.Numbering.{message_at}
use Rattle.protocol.specs.Sound.{message_ok}
use Rattle.record.specs.Layout.{seats, pending_from}
use Rattle.record.specs.Meaning.{seats_in}

module _ (l : List ℕ) where
  -- the message at place i fits
  abbrev pub fits : ℕ → Bool
  fits i = message_ok width (seats_in l) (message_at seats width i)

  -- place i passes
  abbrev pub passes : ℕ → Bool
  passes i = not (bit_set l pending_from i) || fits i

  -- the n places from i on pass
  abbrev pub places_pass : (i n : ℕ) → Bool
  places_pass i n = all n (λ j. passes (i + j))
