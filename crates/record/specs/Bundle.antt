-- The bundle on the bytes (document 02, #101): refused by 1 and 2 alone; otherwise its deliveries, each by the definition that the contract of
-- the delivery cites; the answer is how many they are. Assumes nothing.
use Rattle.std.specs.Prelude.{ℕ, List, [], length}
use Rattle.graph.specs.Vector.{width}
use Rattle.protocol.specs.Message.{Name}
use Rattle.protocol.specs.Calls.{unless_refused}
use Rattle.protocol.specs.Bundle.{bundle_of, left_by}
use Rattle.record.specs.Layout.{seats}
use Rattle.record.specs.Meaning.{meaning}
use Rattle.record.specs.Reading.{record_refusal}
use Rattle.record.specs.Call.{called}

-- the messages that a bundle delivers: none if the record is refused
unfoldable pub bundle_in : List ℕ → (limit : ℕ) → List Name
bundle_in l n = unless_refused (record_refusal l) [] (bundle_of called seats width (λ k. (meaning k).pending) n l)

-- the refusal number, 0 if the bundle is accepted, how many messages it delivered, and the bytes after
pub record BundleOutcome : Type 0 where
  pub refused : ℕ
  pub delivered : ℕ
  pub after : List ℕ

unfoldable pub bundled : List ℕ → (limit : ℕ) → BundleOutcome
bundled l n = record { refused = record_refusal l; delivered = length (bundle_in l n); after = left_by called l (bundle_in l n) }
