-- `soundness::entries::repeats` meets its contract. The loop's invariant: y is the last lot of the bucket below some m, and who has the number
-- is below m. Assumes nothing.
use borrow.Author.Rules.{rules, Fits-under}
use mir.Syntax.{w64}
use Prim.Native.Nat.{ℕ, ◌-◌, ◌%◌, ◌<◌}
use mathlib.Core.Path.{◌≡◌, refl, sym, ap, ◌∙◌}
use native.Mathlib.Omega.{arith}
use lib.ListN.{get_or}
use borrow.Author.Tests.{eq-eqb, ne_eqb}
use Rattle.base.specs.Loops.{any}
use Rattle.base.proofs.Any.{any_here}
use Rattle.record.specs.Layout.{seats}
use Rattle.record.specs.Meaning.{seats_in}
use Rattle.record.proofs.SeatBytes.{number-bytes}
use Rattle.soundness.specs.inner.Buckets.{buckets, bucket_of, same_number, last_in}
use Rattle.soundness.proofs.Buckets.{LotOf, last-le, last-lot, any_below, any-end}
use Rattle.soundness.proofs.entries.Buckets.repeats.Goals as goal
use Rattle.soundness.proofs.entries.Buckets.repeats.Goals.{After-y-in-loop-y-1, In-loop-y}

pub overflow_cast-y : goal.overflow_cast-y
overflow_cast-y c =
    let b = c.bucket in
    Fits-under w64 _ seats (omega (arith, c.requires.0, c.requires.1.ends _ b.ensures.1, last-le c.args.rec.now c.args.s b.result)) tt

pub loop-y-init : goal.loop-y-init
loop-y-init c =
    let l = c.args.rec.now in
    let n = c.number-n.ensures ∙ sym (number-bytes l c.args.s (search rules)) in
    let b = c.bucket.ensures.0 ∙ ap (λ (k : ℕ). k % buckets) n in
    (n, (c.args.s, omega arith, c.requires.1.ends _ c.bucket.ensures.1 ∙ ap (last_in l c.args.s) b, refl))

-- the lot that is looked at
lot : (c : In-loop-y) →
    LotOf c.args.rec.now c.loop-y.invariant.1.0 (bucket_of c.args.rec.now c.args.s) (c.loop-y.y - 1)
lot c = last-lot _ _ _ _ c.loop-y.invariant.1.2 c.loop-y-test.true

pub offset_bounds-self-y : goal.offset_bounds-self-y
offset_bounds-self-y c = omega (arith, (lot (goal.at.offset_bounds-self-y c).In-loop-y).below, c.loop-y.invariant.1.1)

pub bounds-self-y : goal.bounds-self-y
bounds-self-y c = omega (arith, (lot (goal.at.bounds-self-y c).In-loop-y).below, c.loop-y.invariant.1.1)

pub returns-then-self-y : goal.returns-then-self-y
returns-then-self-y c =
    let l = c.args.rec.now in
    let x = lot (goal.at.returns-then-self-y c).In-loop-y in
    let m = c.loop-y.invariant in
    let y = c.loop-y.y - 1 in
    let same : (seats_in l).number c.args.s ≡ (seats_in l).number y =
    sym m.0 ∙ sym c.if-self-y.true ∙ c.requires.1.number y (omega (arith, x.below, m.1.1)) x.lot in
    sym (any_here c.args.s y (same_number l c.args.s) (omega (arith, x.below, m.1.1)) (rw (x.lot, eq-eqb _ _ same)))

pub bounds-self-y-in-loop-y : goal.bounds-self-y-in-loop-y
bounds-self-y-in-loop-y c = omega (arith, (lot (goal.at.bounds-self-y-in-loop-y c).In-loop-y).below, c.loop-y.invariant.1.1)

-- the lot before it in the bucket; those with the number are below it
goes_on : (c : After-y-in-loop-y-1) →
    let l = c.args.rec.now in
    let s = c.args.s in
    let x = c.loop-y.y - 1 in
    (get_or c.args.self.now.before x 0 ≡ last_in l x (bucket_of l s)) × (any s (same_number l s) ≡ any x (same_number l s))
goes_on c =
    let l = c.args.rec.now in
    let s = c.args.s in
    let x = c.loop-y.y - 1 in
    let m = c.loop-y.invariant in
    let found = last-lot _ _ _ _ m.1.2 c.loop-y-test.true in
    let below : x < s = omega (arith, found.below, m.1.1) in
    let at = c.requires.1.number x below found.lot in
    let other : (seats_in l).number s ≡ (seats_in l).number x → ⊥ = λ e. c.if-self-y.false (at ∙ sym e ∙ sym m.0) in (
      c.requires.1.links x below found.lot ∙ ap (last_in l x) found.same,
      m.1.3 ∙ any_below l s m.1.0 c.loop-y.y m.1.2 c.loop-y-test.true (rw found.lot (ne_eqb _ _ other)),
    )

pub overflow_cast-y-in-loop-y : goal.overflow_cast-y-in-loop-y
overflow_cast-y-in-loop-y c =
    let x = c.loop-y.y - 1 in
    let least = last-le c.args.rec.now x (bucket_of c.args.rec.now c.args.s) in
    let on = goes_on (goal.at.overflow_cast-y-in-loop-y c).After-y-in-loop-y-1 in
    let here = lot (goal.at.overflow_cast-y-in-loop-y c).In-loop-y in
    Fits-under w64 _ seats (omega (arith, c.requires.1, on.0, least, here.below, c.loop-y.invariant.1.1)) tt

pub loop-y-smaller : goal.loop-y-smaller
loop-y-smaller c =
    let on = goes_on (goal.at.loop-y-smaller c).After-y-in-loop-y-1 in
    omega (arith, on.0, last-le c.args.rec.now (c.loop-y.y - 1) (bucket_of c.args.rec.now c.args.s), c.loop-y-test.true)

pub loop-y-preserved : goal.loop-y-preserved
loop-y-preserved c =
    let on = goes_on (goal.at.loop-y-preserved c).After-y-in-loop-y-1 in
    let here = lot (goal.at.loop-y-preserved c).In-loop-y in
    (c.loop-y.invariant.0, (c.loop-y.y - 1, omega (arith, here.below, c.loop-y.invariant.1.1), on.0, on.1))

pub returns : goal.returns
returns c =
    let m = c.loop-y.invariant.1 in
    sym (m.3 ∙ any-end c.args.rec.now c.args.s m.0 c.loop-y.y m.2 c.loop-y-test.false)
