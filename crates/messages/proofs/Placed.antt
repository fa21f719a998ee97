-- The place of the message that five numbers name tells whether it exists, and its bit whether it is pending. Assumes nothing.
use Prim.Native.Nat.{ℕ, ◌<◌}
use mathlib.Core.Path.{◌≡◌, refl}
use mathlib.Core.Logic.{◌≢◌}
use mathlib.Core.Option.{Option, none, some}
use mathlib.Core.Bool.{Bool, true, false, cond}
use mathlib.Core.List.{List}
use native.Mathlib.Omega.{arith}
use lib.Dec.{T}
use Rattle.memory.specs.Bits.{bit_set}
use Rattle.graph.specs.Vector.{width}
use Rattle.base.proofs.Tests.{T_true, not-T-false}
use Rattle.protocol.specs.Message.{Msg}
use Rattle.protocol.specs.Numbering.{exists, place}
use Rattle.protocol.specs.State.{is_pending}
use Rattle.record.specs.Layout.{seats, messages, pending_from}
use Rattle.record.specs.Meaning.{meaning}
use Rattle.record.proofs.Places.{place-within}
use Rattle.record.proofs.Form.{meaning-pending, exists-pending}
use Rattle.messages.specs.inner.Places.{place_of, is_message}

-- a message that exists has a place, and no other has
pub place-message : (o : Option Msg) → place_of o ≢ messages → T (is_message o)
unfolding place_of is_message
place-message none ne = absurd (ne refl)
place-message (some m) ne = by (exists seats width m) ne
  where
    by : (b : Bool) → cond b (place seats width m) messages ≢ messages → T b
    by true f = tt
    by false f = absurd (f refl)

pub message-place : (o : Option Msg) → T (is_message o) → place_of o < messages
unfolding place_of is_message
message-place none t = absurd t
message-place (some m) t = rw (T_true {b = exists seats width m} t) (place-within m t)

pub placed : (m : Msg) → T (exists seats width m) → place_of (some m) ≡ place seats width m
unfolding place_of
placed m t = rw (T_true {b = exists seats width m} t)

module _ (l : List ℕ) where
  -- its bit is whether it is pending
  pub pending-bit : (o : Option Msg) → T (is_message o) → is_pending (meaning l).pending o ≡ bit_set l pending_from (place_of o)
  unfolding is_pending is_message
  pending-bit none t = absurd t
  pending-bit (some m) t = rw (placed m t) (meaning-pending l m t)

  -- without a place it is not
  pub no_place : (o : Option Msg) → place_of o ≡ messages → is_pending (meaning l).pending o ≡ false
  unfolding is_pending is_message
  no_place none e = refl
  no_place (some m) e = not-T-false (λ t. let x = exists-pending l m t in omega (arith, e, placed m x, place-within m x))
