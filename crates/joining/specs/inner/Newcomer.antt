-- The bytes with MEET about a newcomer at its contact. Assumes nothing.
use Rattle.std.specs.Prelude.{ℕ, cond, List, ltb}
use Rattle.memory.specs.Bits.{set_bit}
use Rattle.graph.specs.Vector.{width}
use Rattle.protocol.specs.Message.{meet}
use Rattle.protocol.specs.Numbering.{place}
use Rattle.record.specs.Layout.{seats, pending_from}

-- MEET about s to the contact c, if that is a seat
abbrev pub greeted : List ℕ → (s c : ℕ) → List ℕ
greeted l s c = cond (ltb c seats) (set_bit l pending_from (place seats width (meet c s 0))) l
