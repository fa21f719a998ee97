-- Lots joined by links and pending MEETs together, as they read, directly or through others (document 02, #107: a MEET still pending counts as a link
-- between its two lots), at any level. Assumes nothing.
use Rattle.std.specs.Prelude.{ℕ, ◌<◌, ◌≡◌, List}
use Rattle.graph.specs.Side.{Side, side_number}
use Rattle.protocol.specs.Message.{meet, name_of}
use Rattle.record.specs.Layout.{seats}
use Rattle.record.specs.Reading.{read_link, read_message}

pub data TiedIn (l : List ℕ) : ℕ → ℕ → Type 0 where
  same : {x : ℕ} → TiedIn l x x
  linked : {x y : ℕ} (k : ℕ) (d : Side) → read_link l x k (side_number d) ≡ record { refused = 0; seat = y } → y < seats → TiedIn l x y
  met : {x y : ℕ} (k : ℕ) → read_message l (name_of (meet x y k)) ≡ record { refused = 0; pending = 1 } → TiedIn l x y
  turned : {x y : ℕ} → TiedIn l x y → TiedIn l y x
  through : {x y z : ℕ} → TiedIn l x y → TiedIn l y z → TiedIn l x z
