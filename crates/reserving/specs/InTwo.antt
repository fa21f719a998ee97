-- A join in two steps, and a reservation that is given back, on the bytes of a record (document 02, #105: "Confirming names the contact and does the
-- rest of the join; giving back frees the seat. The one-step join stays and does both"). Assumes nothing.
use Rattle.std.specs.Prelude.{ℕ, ◌≡◌, List, []}
use Rattle.graph.specs.Vector.{width}
use Rattle.protocol.specs.Calls.{join, reserve, confirm, give_back, sends}
use Rattle.record.specs.Layout.{seats}
use Rattle.record.specs.Meaning.{meaning}
use Rattle.record.specs.Call.{called}

-- the bytes with the reservation
abbrev pub reserving : List ℕ → (s n v : ℕ) → List ℕ
reserving l s n v = (called l (reserve s n v)).after

-- reserving and then confirming are accepted, leave the bytes that the join leaves, and send what it sends: reserving nothing, confirming all
pub record JoinInTwo (l : List ℕ) (s n v c : ℕ) : Type 0 where
  pub reserved : (called l (reserve s n v)).refused ≡ 0
  pub confirmed : (called (reserving l s n v) (confirm s c)).refused ≡ 0
  pub bytes : (called (reserving l s n v) (confirm s c)).after ≡ (called l (join s n v c)).after
  pub silent : sends seats width (meaning l) (reserve s n v) ≡ []
  pub messages : sends seats width (meaning (reserving l s n v)) (confirm s c) ≡ sends seats width (meaning l) (join s n v c)

-- giving back is accepted and leaves the bytes as they were before the reservation
pub record BackAgain (l : List ℕ) (s n v : ℕ) : Type 0 where
  pub returned : (called (reserving l s n v) (give_back s)).refused ≡ 0
  pub bytes : (called (reserving l s n v) (give_back s)).after ≡ l
