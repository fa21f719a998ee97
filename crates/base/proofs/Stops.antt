-- The ways through a test that stops as soon as it is decided: r is what a part answered, a what that part tests. Assumes nothing.
use Prim.Native.Nat.{ℕ, ◌+◌, ◌≤◌, ◌<◌}
use mathlib.Core.Path.{◌≡◌, sym, ◌∙◌}
use mathlib.Core.Bool.{Bool, true, false, not, ◌&&◌}
use native.Mathlib.Omega.{arith}
use borrow.Author.Tests.{not-true, not-false}
use Rattle.base.specs.Loops.{all}
use Rattle.base.proofs.Cases.{and-true}
use Rattle.base.proofs.All.{all_more, all-fails}

-- the first part of a conjunction fails, or passes and the rest answers s
pub and-stop : {r a : Bool} (b : Bool) → r ≡ a → r ≡ false → r ≡ a && b
and-stop b e f = rw (← e, f)

pub and-go : {r a b s : Bool} → r ≡ a → r ≡ true → s ≡ b → s ≡ a && b
and-go e t h = rw (← e, t) h

-- the last part of a conjunction is known to pass
pub and_last : {r a b : Bool} → r ≡ a → b ≡ true → r ≡ a && b
and_last {a = a} e t = rw (t, and-true a) e

-- a loop over the numbers below n that leaves at the first that fails: it leaves at i, goes on from i, or ends
pub all-stop : (n i : ℕ) (p : ℕ → Bool) {r : Bool} → i < n → r ≡ p i → not r ≡ true → false ≡ all n p
all-stop n i p {r} h e f = sym (all-fails n i p h (sym e ∙ not-true r f))

pub all_go : (i : ℕ) (p : ℕ → Bool) {r : Bool} → all i p ≡ true → r ≡ p i → not r ≡ false → all (i + 1) p ≡ true
all_go i p {r} a e t = all_more i p a (sym e ∙ not-false r t)

pub all_end : (n i : ℕ) (p : ℕ → Bool) → i ≤ n → n ≤ i → all i p ≡ true → true ≡ all n p
all_end n i p l g a = let e : n ≡ i = omega arith in rw (e, a)
