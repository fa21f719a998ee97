-- The bytes of the meaning after an accepted reservation, confirmation and return: the fields that change. Assumes nothing.
use Prim.Native.Nat.{ℕ, ◌<◌}
use mathlib.Core.Path.{◌≡◌, ap, ◌∙◌}
use mathlib.Core.List.{List}
use lib.ListN.{set}
use Rattle.graph.specs.Vector.{width}
use Rattle.protocol.specs.Rules.{free, staying, reserved}
use Rattle.protocol.specs.Calls.{reserve, confirm, give_back, seats_after, links_after, sends, takes, accept}
use Rattle.protocol.proofs.SoundFacts.{free-empty, held-empty}
use Rattle.protocol.proofs.Accepted.{Reserves, reserve-rows, confirm-rows, GivesBack, give-back-rows}
use Rattle.record.specs.Layout.{seats, state_at}
use Rattle.record.specs.Meaning.{meaning, bytes_of, state_byte}
use Rattle.record.proofs.Update.{with_state}
use Rattle.record.proofs.Entry.{with_lot}
use Rattle.record.proofs.Accepted.{Accepted}
use Rattle.record.specs.inner.Entry.{filled}
use Rattle.joining.specs.inner.Newcomer.{greeted}
use Rattle.joining.proofs.After.{filled-bytes, marked-bytes, silent-bytes, greeted-bytes}

module _ {l : List ℕ} {s n v : ℕ} (a : Accepted l (reserve s n v)) where
  reserve-ok : Reserves seats width (meaning l).seats (meaning l).pending s n
  reserve-ok = reserve-rows seats width (meaning l).seats (meaning l).pending s n v a.row

  pub reserve-seat : s < seats
  reserve-seat = reserve-ok.seat

  pub reserve-bytes : bytes_of (accept seats width (meaning l) (reserve s n v)) ≡ filled l s (state_byte reserved) n v
  unfolding accept seats_after links_after sends takes
  reserve-bytes =
      silent-bytes (with_lot (meaning l) s reserved n v)
      ∙ filled-bytes a.form a.fine s reserved n v reserve-seat (free-empty (meaning l).seats s reserve-ok.free)

module _ {l : List ℕ} {s c : ℕ} (a : Accepted l (confirm s c)) where
  pub confirm-seat : s < seats
  confirm-seat = (confirm-rows seats width (meaning l).seats (meaning l).pending s c a.row).seat

  pub confirm-bytes : bytes_of (accept seats width (meaning l) (confirm s c)) ≡ greeted (set l (state_at s) (state_byte staying)) s c
  unfolding accept seats_after links_after sends takes
  confirm-bytes =
      greeted-bytes (with_state (meaning l) s staying) s c confirm-seat
      ∙ ap (λ (m : List ℕ). greeted m s c) (marked-bytes a.form s staying confirm-seat)

module _ {l : List ℕ} {s : ℕ} (a : Accepted l (give_back s)) where
  give-back-ok : GivesBack seats width (meaning l).seats (meaning l).pending s
  give-back-ok = give-back-rows seats width (meaning l).seats (meaning l).pending s a.row

  pub give-back-seat : s < seats
  give-back-seat = give-back-ok.seat

  pub give-back-bytes : bytes_of (accept seats width (meaning l) (give_back s)) ≡ filled l s (state_byte free) 0 0
  unfolding accept seats_after links_after sends takes
  give-back-bytes =
      silent-bytes (with_lot (meaning l) s free 0 0)
      ∙ filled-bytes a.form a.fine s free 0 0 give-back-seat (held-empty (meaning l).seats s give-back-ok.reserved)
