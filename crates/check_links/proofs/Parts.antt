-- The parts of the check of the links (search's LinkCheck), by the links that the code reads. Assumes nothing.
use Prim.Native.Nat.{ℕ, ◌<◌}
use mathlib.Core.Path.{◌≡◌, sym, ap, ◌∙◌}
use mathlib.Core.Logic.{⊎_elim}
use mathlib.Core.Option.{none, some}
use mathlib.Core.Bool.{Bool, true, false, not, ◌&&◌, ◌||◌}
use mathlib.Core.List.{List}
use native.Mathlib.Omega.{arith}
use lib.Dec.{T, eqb, leb}
use lib.ListN.{get_or}
use borrow.Author.Tests.{ne_eqb, lt-leb, le-leb}
use Rattle.base.proofs.Cases.{lt-or-ge}
use Rattle.base.proofs.Tests.{T_true}
use Rattle.graph.specs.Side.{Side, opp}
use Rattle.protocol.specs.State.{seated, stays, member, is_clearing}
use Rattle.record.specs.Layout.{seats, levels, link_at}
use Rattle.record.specs.Meaning.{link_of, seats_in, meaning}
use Rattle.record.proofs.Links.{link_of-some, link_of-none, link-read}
use Rattle.search.specs.Check.{same_link}
use Rattle.search.specs.inner.LinkCheck.{back_of}
use Rattle.check_links.specs.Check.{members_in}

-- a test of those that m picks, which r says: one that it does not pick, and one that it does
pub when-out : {r m : Bool} (b : Bool) → r ≡ m → r ≡ false → not r ≡ not m || b
when-out b e f = rw (← e, f)

pub when-in : {r m b s : Bool} → r ≡ m → r ≡ true → s ≡ b → s ≡ not m || b
when-in e t h = rw (← e, t) h

-- two links by their bytes
pub same-seat : (y x : ℕ) → x < seats → same_link (link_of y) (some x) ≡ eqb y x
unfolding same_link
same-seat y x h = ⊎_elim
    (λ q. rw (link_of-some y q))
    (λ q. rw (link_of-none y q, ne_eqb y x (λ e. omega arith)))
    (lt-or-ge y seats)

pub same_none : (y : ℕ) → same_link (link_of y) none ≡ leb seats y
unfolding same_link
same_none y = ⊎_elim (λ q. rw (link_of-some y q, lt-leb seats y q)) (λ q. rw (link_of-none y q, le-leb seats y q)) (lt-or-ge y seats)

module _ (l : List ℕ) where
  -- whether a seated lot is a member: c says whether the phase is clearing
  pub open-member : (s : ℕ) {c : Bool} → T (seated (seats_in l) s) → c ≡ is_clearing (seats_in l).phase → c ≡ false → not c ≡ member (seats_in l) s
  unfolding member
  open-member s t e f = rw (← e, f, T_true t)

  pub clearing-member : (s : ℕ) {c r : Bool} → c ≡ is_clearing (seats_in l).phase → c ≡ true → r ≡ stays (seats_in l) s → r ≡ member (seats_in l) s
  unfolding member
  clearing-member s e f h = rw (← e, f) h

  -- a link with its link back
  module _ (x k : ℕ) (d : Side) where
    pub back_none : none ≡ (meaning l).link x k d → true ≡ back_of (members_in l) (meaning l).link x k d ((meaning l).link x k d)
    unfolding back_of
    back_none e = rw (← e)

    pub back_some : (y : ℕ) → some y ≡ (meaning l).link x k d → back_of (members_in l) (meaning l).link x k d ((meaning l).link x k d)
        ≡ member (seats_in l) y && same_link ((meaning l).link y k (opp d)) (some x)
    unfolding back_of
    back_some y e = rw (← e)

    -- b is the byte of the link of y on the other side
    pub back_same : (y b : ℕ) {away : Side} → x < seats → y < seats → k < levels → away ≡ opp d → b ≡ get_or l (link_at y k away) 0
        → eqb b x ≡ same_link ((meaning l).link y k (opp d)) (some x)
    back_same y b {away} h q g s e = sym (ap (λ o. same_link o (some x)) (rw s at (link-read l y k away b q g e)) ∙ same-seat b x h)
