-- `reading::opening::no_links` meets its contract. The loop's invariant: the links of the seats passed are none, and every other byte is 0.
-- Assumes nothing.
use mathlib.Core.Path.{◌≡◌, subst}
use Prim.Native.Nat.{ℕ}
use native.Mathlib.Omega.{arith}
use borrow.Author.Rules.{rules}
use Rattle.record.specs.Layout.{seats}
use Rattle.reading.proofs.Filled.{NoLinks, links-none, links-more, links-all}
use Rattle.reading.proofs.opening.no_links.Goals as goal

pub loop-s-init : goal.loop-s-init
loop-s-init c = links-none (search rules) c.requires

pub loop-s-preserved : goal.loop-s-preserved
loop-s-preserved c = let b = c.loop-s in
    links-more b.s (omega arith) b.invariant (omega arith) (c.fill.ensures.after (λ y e. e))

pub returns : goal.returns
returns c = let e : c.loop-s.s ≡ seats = omega arith in
    links-all (subst (λ (s : ℕ). NoLinks s c.loop-s.rec) e c.loop-s.invariant)
