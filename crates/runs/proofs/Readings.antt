-- What the readings answer on the bytes of a sound meaning. Assumes nothing.
use Prim.Native.Nat.{ℕ, ◌<◌}
use mathlib.Core.Path.{◌≡◌, refl, ap, ◌∙◌}
use mathlib.Core.Logic.{◌↔◌}
use mathlib.Core.Bool.{Bool, true, false, not}
use mathlib.Core.List.{List}
use lib.Dec.{T}
use Rattle.base.specs.Loops.{one_if, count}
use Rattle.graph.specs.Side.{Side, side_number}
use Rattle.graph.specs.Vector.{width}
use Rattle.base.proofs.Tests.{true-T}
use Rattle.protocol.specs.Message.{Name, named}
use Rattle.protocol.specs.Numbering.{some_pending}
use Rattle.protocol.specs.State.{Meaning, is_free, seated, is_pending}
use Rattle.protocol.specs.Sound.{Sound}
use Rattle.record.specs.Layout.{seats, levels}
use Rattle.record.specs.Meaning.{bytes_of, phase_byte, link_byte}
use Rattle.record.specs.Reading.{read_lot, read_link, read_message, CountAnswer, read_counts}
use Rattle.record.proofs.Places.{length-bytes_of}
use Rattle.record.proofs.Round.{meaning-bytes}
use Rattle.record.proofs.Sound.{bytes-sound}
use Rattle.record.proofs.Reading.{pending_count, pending_count-zero, lot-read, free-read, link-read, message-read, counts-read}
use Rattle.runs.specs.Run.{lot_of}

-- lots, phase and pending messages of a meaning
unfoldable pub counts_of : Meaning → CountAnswer
counts_of M = record {
  refused = 0;
  lots = count seats (seated M.seats);
  phase = phase_byte M.seats.phase;
  pending = pending_count M;
}

module _ (M : Meaning) (h : Sound seats width M) where
  abbrev b : List ℕ
  b = bytes_of M

  pub read-lot : (x : ℕ) → x < seats → read_lot b x ≡ lot_of M.seats x
  unfolding lot_of
  read-lot x p = by (is_free (M.seats.state x)) refl
    where
      by : (f : Bool) → is_free (M.seats.state x) ≡ f → read_lot b x ≡ lot_of M.seats x
      by true e = free-read b (length-bytes_of M) (bytes-sound h) x p (rw (meaning-bytes h) (true-T e)) ∙ rw e
      by false e = lot-read b (length-bytes_of M) (bytes-sound h) x p (rw (meaning-bytes h) (true-T (ap not e))) ∙ rw (meaning-bytes h, e)

  pub read-message : (n : Name) → read_message b n ≡ record { refused = 0; pending = one_if (is_pending M.pending (named n)) }
  read-message n = message-read b (length-bytes_of M) (bytes-sound h) n ∙ rw (meaning-bytes h)

  pub read-counts : read_counts b ≡ counts_of M
  unfolding counts_of
  read-counts = counts-read b (length-bytes_of M) (bytes-sound h) ∙ rw (meaning-bytes h)

  -- a seated lot's link
  pub read-link : (x k : ℕ) (d : Side) → x < seats → k < levels → T (seated M.seats x)
      → read_link b x k (side_number d) ≡ record { refused = 0; seat = link_byte (M.link x k d) }
  read-link x k d p q f =
      link-read b (length-bytes_of M) (bytes-sound h) x p (rw (meaning-bytes h) f) k d q ∙ rw (meaning-bytes h)

  -- none is counted exactly if none is pending
  pub count_none : ((counts_of M).pending ≡ 0) ↔ (some_pending seats width M.pending ≡ false)
  unfolding counts_of
  count_none = pending_count-zero M
