-- The bytes of the meaning after an accepted join and leave: the fields that change. Three fields of a seat without links, the state alone, the MEET to
-- the contact, and no message, for any call that leaves them. Assumes nothing.
use Prim.Native.Nat.{ℕ, ◌<◌}
use mathlib.Core.Path.{◌≡◌, ap, ◌∙◌}
use mathlib.Core.Logic.{⊎_elim}
use mathlib.Core.Option.{none}
use mathlib.Core.Bool.{Bool, false}
use mathlib.Core.List.{List, []}
use lib.ListN.{set}
use borrow.Author.Tests.{lt-ltb, le-ltb}
use Rattle.graph.specs.Vector.{width}
use Rattle.base.proofs.Cases.{lt-or-ge}
use Rattle.protocol.specs.Message.{Msg, meet}
use Rattle.protocol.specs.Rules.{SeatState, staying, leaving}
use Rattle.protocol.specs.State.{Meaning, seated}
use Rattle.protocol.specs.Page.{pending_after}
use Rattle.protocol.specs.pages.Join.{greeting}
use Rattle.protocol.specs.Sound.{Sound}
use Rattle.protocol.specs.Calls.{join, leave, seats_after, links_after, sends, takes, accept}
use Rattle.protocol.proofs.Calls.{after_nothing}
use Rattle.protocol.proofs.SoundFacts.{free-empty, empty-unlinked}
use Rattle.protocol.proofs.Accepted.{Reserves, reserve-rows, join-reserve, leave-rows}
use Rattle.record.specs.Layout.{seats, state_at}
use Rattle.record.specs.Meaning.{meaning, bytes_of, state_byte}
use Rattle.record.specs.inner.Entry.{filled}
use Rattle.record.proofs.Form.{Form}
use Rattle.record.proofs.Round.{bytes-meaning}
use Rattle.record.proofs.Update.{with_state, with_pending, bytes-with_state}
use Rattle.record.proofs.Sent.{meet-exists, bytes-with_message}
use Rattle.record.proofs.Entry.{with_lot, bytes-with_lot-unlinked}
use Rattle.record.proofs.Accepted.{Accepted}
use Rattle.joining.specs.inner.Newcomer.{greeted}

-- a seat without a lot has no links, so three fields are all that changes of the entries
pub filled-bytes : {l : List ℕ} → Form l → Sound seats width (meaning l) → (s : ℕ) (t : SeatState) (n v : ℕ) → s < seats
    → seated (meaning l).seats s ≡ false → bytes_of (with_lot (meaning l) s t n v) ≡ filled l s (state_byte t) n v
filled-bytes {l} f h s t n v p e =
    bytes-with_lot-unlinked (meaning l) s t n v p (λ k d q. empty-unlinked h s k d e)
    ∙ ap (λ (m : List ℕ). filled m s (state_byte t) n v) (bytes-meaning f)

-- another state of a seat
pub marked-bytes : {l : List ℕ} → Form l → (s : ℕ) (t : SeatState) → s < seats → bytes_of (with_state (meaning l) s t) ≡ set l (state_at s) (state_byte t)
marked-bytes {l} f s t p =
    bytes-with_state (meaning l) s t p ∙ ap (λ (m : List ℕ). set m (state_at s) (state_byte t)) (bytes-meaning f)

-- no message
pub silent-bytes : (M : Meaning) → bytes_of (with_pending M (pending_after [] none M.pending)) ≡ bytes_of M
silent-bytes M = ap (λ (p : Msg → Bool). bytes_of (with_pending M p)) (after_nothing M.pending)

-- the contact's MEET
pub greeted-bytes : (M : Meaning) (s c : ℕ) → s < seats
    → bytes_of (with_pending M (pending_after (greeting seats s c) none M.pending)) ≡ greeted (bytes_of M) s c
greeted-bytes M s c p = ⊎_elim
    (λ h. rw (lt-ltb c seats h) (bytes-with_message M (meet c s 0) (meet-exists c s h p)))
    (λ h. rw (le-ltb c seats h) (silent-bytes M))
    (lt-or-ge c seats)

module _ {l : List ℕ} {s n v c : ℕ} (a : Accepted l (join s n v c)) where
  join-ok : Reserves seats width (meaning l).seats (meaning l).pending s n
  join-ok =
      let r = (meaning l).seats in
      let p = (meaning l).pending in
      reserve-rows seats width r p s n v (join-reserve seats width r p s n v c a.row)

  pub join-seat : s < seats
  join-seat = join-ok.seat

  pub join-bytes : bytes_of (accept seats width (meaning l) (join s n v c)) ≡ greeted (filled l s (state_byte staying) n v) s c
  unfolding accept seats_after links_after sends takes
  join-bytes =
      greeted-bytes (with_lot (meaning l) s staying n v) s c join-seat
      ∙ ap (λ (m : List ℕ). greeted m s c)
      (filled-bytes a.form a.fine s staying n v join-seat (free-empty (meaning l).seats s join-ok.free))

module _ {l : List ℕ} {s : ℕ} (a : Accepted l (leave s)) where
  pub leave-seat : s < seats
  leave-seat = (leave-rows seats width (meaning l).seats (meaning l).pending s a.row).seat

  pub leave-bytes : bytes_of (accept seats width (meaning l) (leave s)) ≡ set l (state_at s) (state_byte leaving)
  unfolding accept seats_after links_after sends takes
  leave-bytes = silent-bytes (with_state (meaning l) s leaving) ∙ marked-bytes a.form s leaving leave-seat
