-- The bytes of the meaning after an accepted merge: one message more. Assumes nothing.
use Prim.Native.Nat.{ℕ}
use mathlib.Core.Path.{◌≡◌, ap, ◌∙◌}
use mathlib.Core.List.{List}
use Rattle.memory.specs.Bits.{set_bit}
use Rattle.graph.specs.Vector.{width}
use Rattle.protocol.specs.Message.{meet}
use Rattle.protocol.specs.Numbering.{place}
use Rattle.protocol.specs.Calls.{merge, seats_after, links_after, sends, takes, accept}
use Rattle.protocol.proofs.Accepted.{Merges, merge-rows}
use Rattle.record.specs.Layout.{seats, pending_from}
use Rattle.record.specs.Meaning.{meaning, bytes_of}
use Rattle.record.proofs.Round.{bytes-meaning}
use Rattle.record.proofs.Sent.{meet-exists, bytes-with_message}
use Rattle.record.proofs.Accepted.{Accepted}

module _ {l : List ℕ} {a b : ℕ} (t : Accepted l (merge a b)) where
  pub merge-ok : Merges seats width (meaning l).seats (meaning l).pending a b
  merge-ok = merge-rows seats width (meaning l).seats (meaning l).pending a b t.row

  pub merge-bytes : bytes_of (accept seats width (meaning l) (merge a b)) ≡ set_bit l pending_from (place seats width (meet a b 0))
  unfolding accept seats_after links_after sends takes
  merge-bytes =
      bytes-with_message (meaning l) (meet a b 0) (meet-exists a b merge-ok.seats.0 merge-ok.seats.1)
      ∙ ap (λ (m : List ℕ). set_bit m pending_from (place seats width (meet a b 0))) (bytes-meaning t.form)
