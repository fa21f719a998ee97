-- `soundness::pending::messages_fit` meets its contract. The loop's invariant: the places before the next pending one pass. Assumes nothing.
use Prim.Native.Nat.{◌+◌, ◌*◌, ◌/◌, ◌<◌}
use mathlib.Core.Path.{sym, ap, ◌∙◌}
use native.Mathlib.Omega.{arith}
use Rattle.record.specs.Layout.{messages}
use Rattle.record.specs.Sound.{messages_fit}
use Rattle.messages.proofs.First.{place-found, place-below}
use Rattle.soundness.proofs.PendingPasses.{Next, none_passes, next-first, next_more, next-fails, next-none, next-zero}
use Rattle.soundness.proofs.pending.messages_fit.Invariants.{place}
use Rattle.soundness.proofs.pending.messages_fit.Goals as goal
use Rattle.soundness.proofs.pending.messages_fit.Goals.{In-Some, After-first_pending-next-in-Some}

pub loop-next-init : goal.loop-next-init
loop-next-init c =
    let clear = c.requires in
    let e = c.first_pending-next.ensures in
    (rw (place-found _ e) (next-zero (next-first c.args.rec.now c.args.from clear.within (none_passes _ clear))), place-below _ _ e)

-- the place that is looked at
at-place : (c : In-Some) → Next c.args.rec.now 0 c.in-Some.i × (c.in-Some.i < messages)
at-place c = (rw (ap place c.in-Some.is) at c.loop-next.invariant.0, rw c.in-Some.is at c.loop-next.invariant.1)

pub word_fits-requires : goal.word_fits-requires
word_fits-requires c = let p = at-place (goal.at.word_fits-requires c).In-Some in omega (arith, p.1)

pub first_pending-next-requires-in-Some : goal.first_pending-next-requires-in-Some
first_pending-next-requires-in-Some c = let p = at-place (goal.at.first_pending-next-requires-in-Some c).In-Some in omega (arith, p.1)

pub returns-then-not-word_fits : goal.returns-then-not-word_fits
unfolding messages_fit
returns-then-not-word_fits c =
    let p = at-place (goal.at.returns-then-not-word_fits c).In-Some in
    let fails = sym c.word_fits.ensures ∙ c.if-not-word_fits.true in
    sym (next-fails c.args.rec.now (64 * (c.in-Some.i / 64)) 64 (omega (arith, p.1)) fails)

-- the place found next
found-next : (c : After-first_pending-next-in-Some) → Next c.args.rec.now 0 c.in-Some.i × (c.in-Some.i < messages)
    → Next c.args.rec.now (64 * (c.in-Some.i / 64) + 64) (place c.first_pending-next-in-Some.result)
found-next c p =
    let from = 64 * (c.in-Some.i / 64) in
    let ok = sym c.word_fits.ensures ∙ c.if-not-word_fits.false in
    rw (place-found _ c.first_pending-next-in-Some.ensures)
    (next-first _ (from + 64) (omega (arith, p.1)) (next_more _ from 64 p.0 (omega arith) ok))

pub loop-next-smaller : goal.loop-next-smaller
loop-next-smaller c =
    let at = goal.at.loop-next-smaller c in
    let p = at-place at.In-Some in
    let n = found-next at.After-first_pending-next-in-Some p in
    let e = ap place c.in-Some.is in
    omega (arith, n.low, n.high, e, p.1)

pub loop-next-preserved : goal.loop-next-preserved
loop-next-preserved c =
    let at = goal.at.loop-next-preserved c in
    (next-zero (found-next at.After-first_pending-next-in-Some (at-place at.In-Some)), place-below _ _ c.first_pending-next-in-Some.ensures)

pub returns : goal.returns
unfolding messages_fit
returns c = let n = rw (ap place c.in_default.is) at c.loop-next.invariant.0 in sym (next-none _ n (omega arith))
