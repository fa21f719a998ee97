-- The changing calls on the bytes (document 01, "Calls"): the refusal number, 0 if accepted, and the bytes after: those of the meaning
-- after the accepted change, or the same bytes. The rows after 1 and 2, and the change, are the protocol's. Assumes nothing.
use Rattle.std.specs.Prelude.{ℕ, List, ◌∷◌}
use Rattle.graph.specs.Vector.{width}
use Rattle.protocol.specs.Calls.{Call, rows, Outcome, accept, unless_refused}
use Rattle.protocol.specs.Refusals.{first}
use Rattle.record.specs.Layout.{seats}
use Rattle.record.specs.Meaning.{meaning, bytes_of}
use Rattle.record.specs.Reading.{size_row, sound_row}

unfoldable pub call_refusal : List ℕ → Call → ℕ
call_refusal l c = first (size_row l ∷ sound_row l ∷ rows seats width (meaning l).seats (meaning l).pending c)

unfoldable pub called : List ℕ → Call → Outcome (List ℕ)
called l c = let n = call_refusal l c in record { refused = n; after = unless_refused n l (bytes_of (accept seats width (meaning l) c)) }
