-- `soundness::entries::seats_fit` meets its contract. The loop's invariant: the seats below s pass, their lots are kept, and from `top` on none of
-- them is a lot. Assumes nothing.
use Rattle.soundness.proofs.entries.seats_fit.Invariants.{passes}
use borrow.Author.Rules.{rules}
use Prim.Native.Nat.{ℕ, ◌+◌, ◌≤◌, ◌<◌}
use mathlib.Core.Path.{◌≡◌, sym, ◌∙◌, ap}
use mathlib.Core.Bool.{false, not}
use native.Mathlib.Omega.{arith}
use borrow.Author.Tests.{not-false}
use Rattle.base.proofs.All.{all_none}
use Rattle.protocol.specs.State.{taken}
use Rattle.record.specs.Layout.{seats}
use Rattle.record.specs.Meaning.{seats_in}
use Rattle.base.proofs.Stops.{all-stop, all_go, all_end}
use Rattle.soundness.proofs.Numbers.{seat-clauses}
use Rattle.soundness.proofs.Kept.{none_above}
use Rattle.soundness.proofs.entries.seats_fit.Goals as goal
use Rattle.soundness.proofs.entries.seats_fit.Goals.{Joined-is_taken, then-is_taken, else-is_taken}

pub loop-s-init : goal.loop-s-init
loop-s-init c = (search rules, search rules, all_none _, c.requires c.args.rec.now, λ y h. absurd (omega arith))

pub returns-then-not-seat_fits : goal.returns-then-not-seat_fits
returns-then-not-seat_fits c = let l = c.args.rec.now in
    let s = c.loop-s.s in
    record { says = all-stop seats s (passes l) c.loop-s-test.true c.seat_fits.ensures.0 (ap not c.if-not-seat_fits.true) ∙ seat-clauses l; lots = tt }

-- where the last lot below s + 1 is
top-next : (c : Joined-is_taken) → let s = c.loop-s.s in
    let l = c.args.rec.now in
    (c.if-is_taken.top ≤ s + 1) × ((y : ℕ) → y < s + 1 → c.if-is_taken.top ≤ y → taken (seats_in l) y ≡ false)
top-next c =
    let i = c.loop-s.invariant in
    elim c.if-is_taken.branch [
      | then-is_taken w ↦ (omega arith, λ y h g. absurd (omega arith))
      | else-is_taken w ↦
          (omega (arith, i.1), λ y h g. none_above _ c.loop-s.s c.loop-s.top i.4 (sym c.is_taken.ensures ∙ w.if-is_taken.false) y h (omega arith))
    ]

pub loop-s-preserved : goal.loop-s-preserved
loop-s-preserved c = let i = c.loop-s.invariant in
    let fits = c.seat_fits.ensures in
    let passed = (ap not c.if-not-seat_fits.false) in
    let next = top-next (goal.at.loop-s-preserved c).Joined-is_taken in
    (search rules, next.0, all_go _ _ i.2 fits.0 passed, fits.1 (not-false _ passed), next.1)

pub returns : goal.returns
returns c = let i = c.loop-s.invariant in
    let s = c.loop-s.s in
    let l = c.args.rec.now in
    let end : s ≡ seats = omega (arith, i.0, c.loop-s-test.false) in record {
      says = all_end seats s (passes l) i.0 c.loop-s-test.false i.2 ∙ seat-clauses l;
      lots = (omega (arith, i.0, i.1), λ y g. i.3.number y (omega (arith, g, end)), λ y h. i.4 y (omega (arith, h, end)));
    }
