-- `messages::next::place_from` meets its contract, kind by kind. Assumes nothing.
use Prim.Native.Nat.{ℕ, ◌≤◌}
use mathlib.Core.Path.{sym}
use mathlib.Core.Logic.{◌≢◌}
use native.Mathlib.Omega.{arith}
use Rattle.protocol.specs.inner.PlaceFrom.{digits_from, from_kind}
use Rattle.protocol.proofs.PlaceOrder.{from-rest}
use Rattle.messages.proofs.next.place_from.Goals as goal

-- a kind that is none of those before
past_three : (k : ℕ) → k ≢ 0 → k ≢ 1 → k ≢ 2 → k ≢ 3 → 4 ≤ k
past_three k a b c d = omega arith

past-seven : (k : ℕ) → 4 ≤ k → k ≢ 4 → k ≢ 5 → k ≢ 6 → k ≢ 7 → 8 ≤ k
past-seven k h a b c d = omega arith

pub returns-in-0 : goal.returns-in-0
unfolding from_kind
returns-in-0 c = (rw c.in-0.is, omega arith)

pub returns-in-1 : goal.returns-in-1
unfolding from_kind digits_from
returns-in-1 c = (rw c.in-1.is (omega (arith, c.digits_from.ensures.0)), omega (arith, c.digits_from.ensures.1))

pub returns-in-2 : goal.returns-in-2
unfolding from_kind digits_from
returns-in-2 c = (rw c.in-2.is (omega (arith, c.digits_from-in-2.ensures.0)), omega (arith, c.digits_from-in-2.ensures.1))

pub returns-in-3 : goal.returns-in-3
unfolding from_kind digits_from
returns-in-3 c = (rw c.in-3.is (omega (arith, c.digits_from-in-3.ensures.0)), omega (arith, c.digits_from-in-3.ensures.1))

pub returns-in-4 : goal.returns-in-4
unfolding from_kind digits_from
returns-in-4 c = (rw c.in-4.is (omega (arith, c.digits_from-in-4.ensures.0)), omega (arith, c.digits_from-in-4.ensures.1))

pub returns-in-5 : goal.returns-in-5
unfolding from_kind digits_from
returns-in-5 c = (rw c.in-5.is (omega (arith, c.digits_from-in-5.ensures.0)), omega (arith, c.digits_from-in-5.ensures.1))

pub returns-in-6 : goal.returns-in-6
unfolding from_kind digits_from
returns-in-6 c = (rw c.in-6.is (omega (arith, c.digits_from-in-6.ensures.0)), omega (arith, c.digits_from-in-6.ensures.1))

pub returns-in-7 : goal.returns-in-7
unfolding from_kind digits_from
returns-in-7 c = (rw c.in-7.is (omega (arith, c.digits_from-in-7.ensures.0)), omega (arith, c.digits_from-in-7.ensures.1))

pub returns-in-8-to-255 : goal.returns-in-8-to-255
returns-in-8-to-255 c = let r = c.in-8-to-255.in-8-to-255-own.rest in
    let low = past_three _ r.0.0.0.0.0.0.0.1 r.0.0.0.0.0.0.1 r.0.0.0.0.0.1 r.0.0.0.0.1 in
    (sym (from-rest _ _ _ _ (past-seven _ low r.0.0.0.1 r.0.0.1 r.0.1 r.1)), omega arith)
