-- Messages sent one after the other, in the bytes: a bit each. Assumes nothing.
use Rattle.std.specs.Prelude.{ℕ, List, [], ◌∷◌}
use Rattle.memory.specs.Bits.{set_bit}
use Rattle.graph.specs.Vector.{width}
use Rattle.protocol.specs.Message.{Msg}
use Rattle.protocol.specs.Numbering.{place}
use Rattle.record.specs.Layout.{seats, pending_from}

unfoldable pub sent_bits : List Msg → List ℕ → List ℕ
sent_bits [] l = l
sent_bits (m ∷ s) l = sent_bits s (set_bit l pending_from (place seats width m))
