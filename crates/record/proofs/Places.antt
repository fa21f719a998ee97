-- The size of a record, places of messages among the pending bits, sides by their numbers, and the list of a meaning's bytes. Assumes nothing.
use Prim.Native.Nat.{ℕ, zero, suc, ◌*◌, ◌≤◌, ◌<◌}
use mathlib.Core.Path.{◌≡◌, refl}
use native.Mathlib.Omega.{arith}
use lib.Dec.{T}
use lib.ListN.{length, get_or}
use Rattle.base.proofs.Tabulate.{length-tabulate, get_d_tabulate}
use Rattle.graph.specs.Side.{Side, left, right, side_number, side_of_number}
use Rattle.graph.specs.Vector.{width}
use Rattle.protocol.specs.Message.{Msg}
use Rattle.protocol.specs.Numbering.{exists, place, message_at}
use Rattle.protocol.specs.State.{Meaning}
use Rattle.protocol.proofs.Numbering.{place-lt, exists-message_at, place-message_at}
use Rattle.record.specs.Layout.{seats, byte_bits, messages, pending_size, size}
use Rattle.record.specs.Meaning.{byte_of, bytes_of}

-- places of messages that exist, and messages at places
pub place-within : (m : Msg) → T (exists seats width m) → place seats width m < messages
place-within m x = place-lt seats width m x

pub exists-at : (i : ℕ) → i < messages → T (exists seats width (message_at seats width i))
exists-at i h = exists-message_at seats width i h

pub place_at : (i : ℕ) → i < messages → place seats width (message_at seats width i) ≡ i
place_at i h = place-message_at seats width i h

-- document 01 allows a record of 32,768 bytes
pub size-allowed : size ≤ 32768
size-allowed = omega arith

-- the pending bits are whole bytes
pub messages-bits : messages ≡ pending_size * byte_bits
messages-bits = refl

-- a side by its number
pub side-side_number : (d : Side) → side_of_number (side_number d) ≡ d
side-side_number left = refl
side-side_number right = refl

pub side_number-side : (n : ℕ) → n < 2 → side_number (side_of_number n) ≡ n
side_number-side zero h = refl
side_number-side (suc zero) h = refl
side_number-side (suc (suc n)) h = absurd (omega arith)

-- the bytes of a meaning as a list
module _ (M : Meaning) where
  pub length-bytes_of : length (bytes_of M) ≡ size
  unfolding bytes_of
  length-bytes_of = length-tabulate size (byte_of M)

  pub get_d-bytes_of : (i : ℕ) → i < size → get_or (bytes_of M) i 0 ≡ byte_of M i
  unfolding bytes_of
  get_d-bytes_of i h = get_d_tabulate size (byte_of M) i h
