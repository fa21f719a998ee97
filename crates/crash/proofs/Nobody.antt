-- The set 0 leaves every byte (document 02, #106), accepted or refused. Assumes only that the elements of the list are bytes.
use Prim.Native.Nat.{ℕ}
use mathlib.Core.Path.{◌≡◌, ap, ◌∙◌}
use mathlib.Core.List.{List}
use Rattle.memory.specs.Bytes.{AreBytes}
use Rattle.graph.specs.Vector.{width}
use Rattle.protocol.specs.Calls.{crash}
use Rattle.protocol.proofs.ReachedCrash.{crash-nobody}
use Rattle.record.specs.Layout.{seats}
use Rattle.record.specs.Meaning.{meaning, bytes_of}
use Rattle.record.specs.Call.{called}
use Rattle.record.proofs.Accepted.{accepted}
use Rattle.record.proofs.Call.{call-idle}
use Rattle.record.proofs.Round.{bytes-meaning}

pub idle-crash : (l : List ℕ) → AreBytes l → (called l (crash 0)).after ≡ l
idle-crash l b =
    call-idle l (crash 0) (λ e. ap bytes_of (crash-nobody seats width (meaning l)) ∙ bytes-meaning (accepted l (crash 0) b e).form)
