-- Message to place (`place_of`) and place to message (`message_at`) undo each other. Assumes nothing.
use Prim.Native.Nat.{ℕ, ◌<◌}
use mathlib.Core.Path.{◌≡◌, refl, ap, ◌∙◌}
use mathlib.Core.Option.{Option, none, some}
use lib.Dec.{T}
use Rattle.graph.specs.Vector.{width}
use Rattle.protocol.specs.Message.{Msg, Name, name_of, named}
use Rattle.protocol.specs.Numbering.{message_at}
use Rattle.protocol.proofs.Message.{name-named}
use Rattle.protocol.proofs.Numbering.{message_at-place}
use Rattle.record.specs.Layout.{seats, messages}
use Rattle.record.proofs.Places.{exists-at, place_at}
use Rattle.messages.specs.declared.Message.{Message}
use Rattle.messages.specs.inner.Places.{is_message, place_of}
use Rattle.messages.specs.Numbers.{numbers}
use Rattle.messages.specs.inner.Numbers.{Stands}
use Rattle.messages.proofs.Placed.{placed}
use Rattle.messages.proofs.Standing.{stands-named}

-- the numbers of the message at place i have place i
pub place-of-message-at : {i : ℕ} {r : Message} → i < messages → Stands i r → place_of (named (numbers r)) ≡ i
place-of-message-at {i} {r} h s = rw (stands-named s) (placed (message_at seats width i) (exists-at i h) ∙ place_at i h)

-- the message at the place of five numbers that name a message has those numbers
pub message-at-place-of : {r : Message} (n : Name) → T (is_message (named n)) → Stands (place_of (named n)) r → numbers r ≡ n
unfolding is_message
message-at-place-of {r} n = by (named n) (name-named n)
  where
    by : (o : Option Msg) → ((m : Msg) → o ≡ some m → name_of m ≡ n) → T (is_message o) → Stands (place_of o) r → numbers r ≡ n
    by none f t s = absurd t
    by (some m) f t s = s.is_named ∙ ap name_of (ap (message_at seats width) (placed m t) ∙ message_at-place seats width m t) ∙ f m refl
