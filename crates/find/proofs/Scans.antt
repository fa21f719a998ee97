-- Scans of every record, made by calls or not: on a settled one a search from any lot is accepted, on a sound one that is not settled it is
-- refused with 13, and every accepted search names the right holder among the staying lots of the start's component, by left steps that meet
-- each lot once. Assumes only that the elements of the list are bytes.
use Prim.Native.Nat.{ℕ, zero, suc, ◌≤◌, ◌<◌}
use mathlib.Core.Path.{◌≡◌, refl, sym, ap, ◌∙◌}
use mathlib.Core.Logic.{◌≢◌, ◌↔◌, inr}
use mathlib.Core.Option.{none, some}
use mathlib.Core.Bool.{true, false, cond}
use mathlib.Core.List.{List}
use native.Mathlib.Omega.{arith}
use lib.Dec.{T, eqb}
use borrow.Author.Tests.{ne_eqb}
use Rattle.base.proofs.Tests.{T_true, and-fst}
use Rattle.memory.specs.Bytes.{AreBytes}
use Rattle.graph.specs.Side.{Side}
use Rattle.graph.specs.Vector.{width}
use Rattle.graph.specs.Graph.{graph}
use Rattle.protocol.specs.Refusals.{unsettled}
use Rattle.protocol.specs.State.{open_phase, Seats, seated, stays, member}
use Rattle.protocol.proofs.SoundFacts.{stays-seated, seated-below}
use Rattle.record.specs.Layout.{seats}
use Rattle.record.specs.Meaning.{seats_in, meaning}
use Rattle.record.proofs.Refused.{Passed}
use Rattle.record.proofs.Sound.{sound-is}
use Rattle.search.specs.Walk.{Found}
use Rattle.search.specs.Right.{Holds, RightHolder}
use Rattle.search.specs.inner.Ordered.{Ordered}
use Rattle.search.specs.inner.Search.{Search}
use Rattle.search.proofs.Search.{path-search}
use Rattle.search.proofs.Hops.{search-seated}
use Rattle.search.proofs.Left.{left-once, left-ends, left_below, left-few, find-by}
use Rattle.search.proofs.Holder.{none-exactly, some-exactly, search-end, end-under}
use Rattle.search.proofs.Check.{checked-holder}
use Rattle.check_links.specs.Check.{components_in, members_in}
use Rattle.check_links.specs.Settled.{settled}
use Rattle.check_links.proofs.Facts.{link-wrong-no}
use Rattle.check_links.proofs.Settled.{Settled, settled_is, unsettled-exactly}
use Rattle.check_links.proofs.Whole.{lots-laws}
use Rattle.find.specs.Find.{FindAnswer, sought_from, searched, scan_of, find_refusal, find_in}
use Rattle.find.specs.Way.{moves, end, LeftSteps}
use Rattle.find.proofs.Fits.{sound-fit}
use Rattle.find.proofs.Refused.{Accepted, accepted, waits, answers}

-- all lots are members in phase open
pub seated-members : (r : Seats) → r.phase ≡ open_phase → member r ≡ seated r
unfolding member
seated-members r p = rw p

module _ (l : List ℕ) (b : AreBytes l) where
  below : Passed l → (s : ℕ) → T (seated (seats_in l) s) → s < seats
  unfolding meaning
  below p s m = seated-below ((sound-is l p.sized b).0 p.fine).1 s m

  -- a search from a lot of a settled record is not refused
  pub settled-accepted : settled l ≡ true → (s : ℕ) → T (seated (seats_in l) s) → find_refusal l s ≡ 0
  settled-accepted e s m = let p = (settled_is l e).passed in sym (answers l s p (below p s m) (T_true m) e)

  -- and one from a lot of a sound record that is not settled is refused with 13
  pub unsettled-refused : Passed l → settled l ≡ false → (s x : ℕ) → T (seated (seats_in l) s)
      → find_in l s x ≡ record { refused = unsettled; holder = none; hops = 0 }
  unfolding find_in
  unsettled-refused p e s x m = rw (← waits l s p (below p s m) (T_true m) e)

  -- so it is where one link of a member, at whatever level, is not the graph's
  pub wrong-refused : Passed l → (y k : ℕ) (d : Side) → T (member (seats_in l) y) → k ≤ width
      → (meaning l).link y k d ≢ graph seats width (members_in l) y k d
      → (s x : ℕ) → T (seated (seats_in l) s) → find_in l s x ≡ record { refused = unsettled; holder = none; hops = 0 }
  wrong-refused p y k d m h wrong s x t =
      unsettled-refused p ((unsettled-exactly l).1 (inr (inr (link-wrong-no l p.sized b p.fine y k d m h wrong)))) s x t

-- an accepted scan is the search on the meaning
pub find-says : (l : List ℕ) (s x : ℕ) → find_refusal l s ≡ 0 → find_in l s x ≡ searched (scan_of l s x)
unfolding find_in
find-says l s x e = rw e

pub find-refused : (l : List ℕ) (s x : ℕ) → (find_in l s x).refused ≡ find_refusal l s
unfolding find_in
find-refused l s x = by (find_refusal l s)
  where
    by : (n : ℕ) → (cond (eqb n 0) (searched (scan_of l s x)) (record { refused = n; holder = none; hops = 0 })).refused ≡ n
    by zero = refl
    by (suc n) = rw (ne_eqb (suc n) 0 (λ e. omega arith))

-- EVERY ACCEPTED SCAN
module _ (l : List ℕ) (b : AreBytes l) (s x : ℕ) (e : (find_in l s x).refused ≡ 0) where
  no_row : find_refusal l s ≡ 0
  no_row = sym (find-refused l s x) ∙ e

  A : Accepted l s
  A = accepted l s no_row

  o : Ordered seats width (seated (seats_in l)) (seats_in l).number (meaning l).link
  o = sound-fit l A.passed.sized b A.passed.fine

  -- the holder is of the staying lots of the start's component the one with the largest number that is not above the scanned one
  pub accepted-holder : RightHolder (sought_from l s) (seats_in l).number x (find_in l s x).holder
  accepted-holder = rw (ap (λ (f : FindAnswer). f.holder) (find-says l s x no_row)) held
    where
      S : Settled l
      S = settled_is l A.settles

      all : member (seats_in l) ≡ seated (seats_in l)
      all = seated-members (seats_in l) S.opens

      held : RightHolder (sought_from l s) (seats_in l).number x (scan_of l s x).holder
      held = checked-holder (lots-laws l S.passed.sized b S.passed.fine) width (meaning l).link S.right
          (stays (seats_in l)) (λ z t. rw all (stays-seated (seats_in l) z t)) x s (rw all A.lot)

  -- none exactly if none of them has a number that is not above it
  pub accepted-none : ((find_in l s x).holder ≡ none) ↔ ((z : ℕ) → T (sought_from l s z) → (seats_in l).number z ≤ x → ⊥)
  accepted-none = none-exactly accepted-holder

  -- a seat exactly if it is the holder's
  pub accepted-some : (h : ℕ) → ((find_in l s x).holder ≡ some h) ↔ Holds (sought_from l s) (seats_in l).number x h
  accepted-some = some-exactly (λ y z t u. o.differ y z (sought-seated y t) (sought-seated z u)) accepted-holder
    where
      sought-seated : (z : ℕ) → T (sought_from l s z) → T (seated (seats_in l) z)
      sought-seated z t = stays-seated (seats_in l) z (and-fst (stays (seats_in l) z) (eqb (components_in l s) (components_in l z)) t)

  -- the left steps visit each lot once and end, and there are at most the seated lots less one
  pub accepted-steps : LeftSteps l s x
  accepted-steps = record {
    hops = ap (λ (f : FindAnswer). f.hops) (find-says l s x no_row)
        ∙ ap (λ (f : Found). f.hops) (find-by (stays (seats_in l)) (seats_in l).number (meaning l).link x seats width s refl refl);
    once = left-once o (stays (seats_in l)) x (end l s x) m;
    ends = left-ends o (stays (seats_in l)) x (end l s x) m;
    below = left_below o (stays (seats_in l)) x (end l s x) m (end-under o m (search-end r));
    few = left-few o (stays (seats_in l)) x (end l s x) m;
  }
    where
      r : Search (seats_in l).number (meaning l).link x s width (moves l s x)
      r = path-search o A.lot

      m : T (seated (seats_in l) (end l s x))
      m = search-seated o A.lot (omega arith) r
