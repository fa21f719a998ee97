-- `deliver_rest` meets its contract: before each turn what is left to deliver comes to the same bytes, and the messages that are left fall. Assumes
-- nothing.
use Prim.Native.Nat.{◌<◌}
use mathlib.Core.Path.{refl, sym, ◌∙◌}
use native.Mathlib.Omega.{arith}
use borrow.Author.Tests.{eqb-true, eqb-false}
use Rattle.record.specs.Bundle.{bundled}
use Rattle.record.proofs.Bundle.{bundle-limit}
use Rattle.program.proofs.Settled.{settled-after, settled-falls, settled-less}
use Rattle.lines.proofs.settle.deliver_rest.Goals as goal

pub loop-init : goal.loop-init
loop-init c = (refl, λ j. omega (arith, c.type_inv.rec j), refl)

pub deliver_bundle-requires : goal.deliver_bundle-requires
deliver_bundle-requires c = tt

pub loop-smaller : goal.loop-smaller
loop-smaller c =
    let r = c.deliver_bundle.ensures in
    let l = c.loop.rec in
    rw r.1 (settled-falls l c.loop.invariant.1 65535 (omega arith) (eqb-true (bundled l 65535).delivered 65535 (sym r.0 ∙ c.loop-test.true)))

pub loop-preserved : goal.loop-preserved
loop-preserved c =
    let d = c.deliver_bundle in
    let l = c.loop.rec in (
      rw d.ensures.1 (settled-after l c.loop.invariant.1 65535) ∙ c.loop.invariant.0,
      λ j. omega (arith, c.type_inv.rec j),
      d.auto.rec ∙ c.loop.invariant.2,
    )

pub shape_of-rec : goal.shape_of-rec
shape_of-rec c = c.deliver_bundle.auto.rec ∙ c.loop.invariant.2

pub returns : goal.returns
returns c =
    let r = c.deliver_bundle.ensures in
    let l = c.loop.rec in
    let few : (bundled l 65535).delivered < 65535 = omega (
      arith,
      bundle-limit l 65535,
      eqb-false (bundled l 65535).delivered 65535 (sym r.0 ∙ c.loop-test.false),
    ) in
    r.1 ∙ sym (settled-less l c.loop.invariant.1 65535 few) ∙ c.loop.invariant.0
