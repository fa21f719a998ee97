-- `messages::next::below` meets its contract. Assumes nothing.
use Prim.Native.Nat.{ℕ, ◌*◌, ◌≤◌}
use native.Mathlib.Omega.{arith}
use native.Mathlib.Nat.{mul-le-mul}
use borrow.Author.Tests.{lt-ltb, le-ltb}
use Rattle.protocol.specs.inner.PlaceFrom.{below}
use Rattle.protocol.proofs.DigitOrder.{below-le}
use Rattle.record.specs.Layout.{seats, levels}
use Rattle.messages.proofs.next.below.Goals as goal

-- a digit by its size
product : {x bound size : ℕ} → x ≤ bound → bound ≤ seats → size ≤ seats * levels → x * size ≤ seats * (seats * levels)
product {x} a b c = let h : x ≤ seats = omega arith in mul-le-mul h c

pub returns-then-x-bound : goal.returns-then-x-bound
unfolding below
returns-then-x-bound c = let a = c.args in
    let e = lt-ltb a.x a.bound c.if-x-bound.true in
    (rw e, rw e at (below-le a.x a.bound c.requires.2))

pub returns-else-x-bound : goal.returns-else-x-bound
unfolding below
returns-else-x-bound c = (rw (le-ltb c.args.x c.args.bound c.if-x-bound.false), omega arith)
