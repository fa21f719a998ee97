-- The place of the message that five numbers name tells whether it exists, and its bit whether it is pending. Assumes nothing.
use Prim.Native.Nat.{ℕ, ◌<◌}
use mathlib.Core.Path.{◌≡◌, refl, sym, ◌∙◌}
use mathlib.Core.Logic.{◌≢◌}
use mathlib.Core.Option.{Option, none, some}
use mathlib.Core.Bool.{Bool, true, false, cond}
use mathlib.Core.List.{List}
use native.Mathlib.Omega.{arith}
use lib.Dec.{T}
use Rattle.memory.specs.Bits.{bit_set}
use Rattle.graph.specs.Vector.{width}
use Rattle.base.proofs.Tests.{T_true, not-T-false}
use Rattle.protocol.specs.Message.{Msg}
use Rattle.protocol.specs.Numbering.{exists, place}
use Rattle.protocol.specs.State.{is_pending}
use Rattle.record.specs.Layout.{seats, messages, pending_from}
use Rattle.record.specs.Meaning.{meaning}
use Rattle.record.proofs.Places.{place-within}
use Rattle.record.proofs.Form.{meaning-pending, exists-pending}
use Rattle.messages.specs.inner.Places.{place_of, IsPlace}
use Rattle.std.specs.Prelude as code
use Rattle.std.specs.Prelude.{None, Some, MatchOption}

-- a message that exists has its place, and one that does not has none
placed : (m : Msg) → T (exists seats width m) → place_of (some m) ≡ place seats width m
unfolding place_of
placed m t = rw (T_true {b = exists seats width m} t)

place-exists : (m : Msg) → place_of (some m) ≢ messages → T (exists seats width m)
unfolding place_of
place-exists m ne = by (exists seats width m) ne
  where
    by : (b : Bool) → cond b (place seats width m) messages ≢ messages → T b
    by true f = tt
    by false f = absurd (f refl)

-- what the place that the code found says of the message
module _ (l : List ℕ) where
  no_place : (o : Option Msg) → messages ≡ place_of o → is_pending (meaning l).pending o ≡ false
  unfolding is_pending
  no_place none e = refl
  no_place (some m) e = not-T-false (λ t. let x = exists-pending l m t in omega (arith, e, placed m x, place-within m x))

  pending-at : (o : Option Msg) (i : ℕ) → i ≡ place_of o → i < messages → is_pending (meaning l).pending o ≡ bit_set l pending_from i
  unfolding is_pending place_of
  pending-at none i e h = absurd (omega (arith, e))
  pending-at (some m) i e h = let x = place-exists m (λ z. omega (arith, e, z)) in rw (e ∙ placed m x) (meaning-pending l m x)

  -- p is what `place_of` gave, and b the bit there
  pub pending-found : (o : Option Msg) (p : code.Option ℕ) (b : Bool) (Q : ℕ → Type 0) → IsPlace p (place_of o) → MatchOption p (b ≡ false) Q
      → ((i : ℕ) → Q i → b ≡ bit_set l pending_from i) → b ≡ is_pending (meaning l).pending o
  pending-found o None b Q h e f = e ∙ sym (no_place o (sym h))
  pending-found o (Some i) b Q h e f = f i e ∙ sym (pending-at o i h.0 h.1)
