-- `bundle::deliver_smallest` meets its contract. The loop's invariant: so many deliveries of the bundle are made, and the rest is to be done. Assumes
-- nothing.
use mathlib.Core.Path.{refl}
use native.Mathlib.Omega.{arith}
use borrow.Author.Rules.{rules}
use Rattle.memory.proofs.Zeros.{replicate-zero}
use Rattle.index.specs.inner.Index.{parts}
use Rattle.bundle.proofs.Going.{going-first, going-none, going-limit, going_on}
use Rattle.bundle.proofs.deliver_smallest.Goals as goal

pub loop-n-init : goal.loop-n-init
loop-n-init c =
    let (numbers, top) = c.new-index.ensures in
    rw (numbers, top) (going-first c.args.rec.now c.args.limit c.requires.0 (λ j. search rules) (λ i. replicate-zero parts i) refl c.requires.1)

pub next_word-requires : goal.next_word-requires
next_word-requires c = c.loop-n.invariant.tracks

pub returns-in_default : goal.returns-in_default
returns-in_default c = going-none c.loop-n.invariant c.in_default.ensures

pub loop-n-preserved : goal.loop-n-preserved
loop-n-preserved c = going_on c.loop-n.invariant c.loop-n-test.true c.in-Some.ensures.0 c.deliver_first.ensures

pub returns : goal.returns
returns c = going-limit c.loop-n.invariant (omega (arith, c.loop-n-test.false, c.loop-n.auto.n-end))
