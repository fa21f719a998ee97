-- The three demands meet, after every list and by demand 3 alone: with nothing pending the check says yes; in phase open the record is settled
-- and a search from any lot is accepted and names the right holder, else it is refused with 13; in clearing the turn meets no link to a freed
-- seat of a staying lot. Assumes nothing.
use Prim.Native.Nat.{ℕ, ◌<◌}
use mathlib.Core.Path.{◌≡◌, refl, sym, ap, ◌∙◌, subst}
use mathlib.Core.Logic.{◌≢◌, ◌⊎◌, ⊎_elim}
use mathlib.Core.Bool.{true}
use mathlib.Core.List.{List, []}
use lib.Dec.{T}
use Rattle.memory.specs.Bytes.{AreBytes}
use Rattle.graph.specs.Side.{Side, side_number}
use Rattle.graph.specs.Vector.{width}
use Rattle.protocol.specs.State.{open_phase, clearing, Seats, Meaning, nobody, seated, stays, leaves}
use Rattle.protocol.specs.Calls.{Call, turn}
use Rattle.protocol.specs.Bundle.{Item, spread}
use Rattle.protocol.specs.Refusals.{unsettled}
use Rattle.protocol.specs.Sound.{Sound}
use Rattle.protocol.specs.Run.{steps_from, steps, log_of, roster_of, pending_of, NothingPending}
use Rattle.record.specs.Layout.{seats, levels}
use Rattle.record.specs.Meaning.{seats_in, bytes_of}
use Rattle.record.specs.Reading.{open_refusal, open_bytes, read_link, read_counts}
use Rattle.record.specs.Call.{called}
use Rattle.record.specs.Bundle.{bundle_in}
use Rattle.record.proofs.Form.{meaning-seats}
use Rattle.record.proofs.Round.{meaning-bytes, bytes-bytes}
use Rattle.search.specs.Walk.{find}
use Rattle.search.specs.Right.{RightHolder}
use Rattle.find.specs.Find.{searched, find_in}
use Rattle.find.proofs.Scans.{settled-accepted, find-says}
use Rattle.check_links.specs.Check.{check_in}
use Rattle.check_links.specs.Settled.{settled}
use Rattle.runs.specs.Typed.{AllTyped}
use Rattle.runs.specs.Run.{bytes_run, list_run, meant, roster, sought_in, Demand3}
use Rattle.runs.proofs.Typed.{all_typed}
use Rattle.runs.proofs.Same.{run-same}
use Rattle.runs.proofs.Theorem.{bound, open-sized, every-list}
use Rattle.runs.proofs.Uses.{check-yes, is-settled-now, right-holder, waits-pending, waits-clearing}
use Rattle.runs.proofs.Unmet.{never_met, turn-keeps}

-- what find answers on the bytes of a sound meaning that are settled
module _ (M : Meaning) (h : Sound seats width M) where
  pub seats-bytes : seats_in (bytes_of M) ≡ M.seats
  seats-bytes = sym (meaning-seats (bytes_of M)) ∙ ap (λ (X : Meaning). X.seats) (meaning-bytes h)

  pub find-bytes : settled (bytes_of M) ≡ true → (s x : ℕ) → T (seated M.seats s)
      → find_in (bytes_of M) s x ≡ searched (find (stays M.seats) M.seats.number M.link x seats width s)
  find-bytes e s x m =
      find-says (bytes_of M) s x (settled-accepted (bytes_of M) (bytes-bytes M) e s (rw seats-bytes m))
      ∙ rw (seats-bytes, meaning-bytes h)

module _ (l : List ℕ) (e : open_refusal l ≡ 0) (is : List (Item Call)) (t : AllTyped is) where
  -- the bytes after the list, and the roster's seats
  abbrev here : List ℕ
  here = (list_run l is).now

  abbrev R : Seats
  R = (roster (list_run l is).history).seats

  pub run-bytes : AreBytes here
  unfolding list_run
  run-bytes = subst AreBytes (sym (run-same l (open-sized l e) (spread called bundle_in (λ c. c) (open_bytes l) is) (all_typed (open_bytes l) is t)).now)
      (bytes-bytes _)

  D : Demand3 bound (list_run l is)
  D = every-list l e is t

  -- while messages are pending or the phase is clearing a search from a lot waits
  pub waits : ((read_counts here).pending ≢ 0) ⊎ (R.phase ≡ clearing) → (s x : ℕ) → T (seated R s) → (find_in here s x).refused ≡ unsettled
  waits w s x m = ⊎_elim (waits-pending D run-bytes s x m) (waits-clearing D run-bytes s x m) w

  module _ (q : NothingPending seats width (meant (list_run l is).history)) where
    pub checked : check_in here ≡ record { refused = 0; yes = true }
    checked = check-yes D run-bytes q

    pub settles : R.phase ≡ open_phase → settled here ≡ true
    settles o = is-settled-now D run-bytes q o

    pub found : R.phase ≡ open_phase → (s x : ℕ) → T (seated R s)
        → ((find_in here s x).refused ≡ 0) × RightHolder (sought_in (roster (list_run l is).history) s) R.number x (find_in here s x).holder
    found o s x m = right-holder D run-bytes q o s x m

    -- no link of a staying lot reads as a leaving lot's seat
    pub unmet : R.phase ≡ clearing → (x k y : ℕ) (d : Side) → T (stays R x) → k < levels → T (leaves R y)
        → (read_link here x k (side_number d)).seat ≢ y
    unmet c = never_met D run-bytes c q

    -- and the turn leaves each of its links
    pub turn-links : R.phase ≡ clearing → (x k : ℕ) (d : Side) → T (stays R x) → k < levels
        → read_link (called here turn).after x k (side_number d) ≡ read_link here x k (side_number d)
    turn-links c = turn-keeps D run-bytes c q

-- an instance: a record that open has just written is settled
pub opened-settled : (l : List ℕ) → open_refusal l ≡ 0 → settled (list_run l []).now ≡ true
unfolding list_run spread bytes_run steps_from steps meant pending_of roster_of log_of nobody
opened-settled l e = settles l e [] tt (λ m. refl) refl
