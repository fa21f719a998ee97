-- Whether messages are left, as the look in front of a call answers it, and that links name seats. Assumes nothing.
use Prim.Native.Nat.{ℕ}
use mathlib.Core.Path.{◌≡◌, sym}
use mathlib.Core.List.{List}
use native.Mathlib.Omega.{arith}
use Rattle.std.specs.Prelude.{None, Some}
use Rattle.std.specs.Prelude as code
use Rattle.std.specs.Option.{is_some}
use Rattle.graph.specs.Vector.{width}
use Rattle.protocol.specs.Numbering.{some_pending}
use Rattle.record.specs.Layout.{seats}
use Rattle.record.specs.Meaning.{meaning}
use Rattle.record.proofs.Links.{names-seat}
use Rattle.messages.specs.inner.Numbers.{first_pending}
use Rattle.messages.specs.inner.Places.{IsPlace}
use Rattle.messages.proofs.First.{quiet-pending, some-pending}
use Rattle.clearing.specs.inner.Steps.{Linked}

-- something is pending exactly if there is a first pending place
pub some-left : (l : List ℕ) (first : code.Option ℕ) → IsPlace first (first_pending l 0) → is_some first ≡ some_pending seats width (meaning l).pending
some-left l None e = sym (quiet-pending l (sym e) (omega arith))
some-left l (Some i) e = sym (some-pending l e.0 e.1)

-- links of any bytes name seats
pub meaning-linked : (l : List ℕ) → Linked (meaning l)
meaning-linked l x k y d e = names-seat l x k d y e
