-- How many numbers from 0 up to n `filter` lets pass, where the closure is a test. Assumes nothing.
use Prim.Native.Nat.{ℕ, zero, suc, ◌+◌}
use mathlib.Core.Path.{◌≡◌, refl, sym, ap, ◌∙◌}
use mathlib.Core.Bool.{Bool, true, false}
use native.Mathlib.Omega.{arith}
use mathlib.Core.List.{List, ◌∷◌}
use lib.ListN.{length}
use Rattle.std.specs.List.{filter, range_with_len}
use Rattle.base.specs.Loops.{one_if, count}
use Rattle.base.proofs.Count.{count_same}

-- the first number, and then the others
count-front : (n : ℕ) (p : ℕ → Bool) → count (suc n) p ≡ one_if (p 0) + count n (λ j. p (suc j))
unfolding count
count-front zero p = omega arith
count-front (suc n) p = omega (arith, count-front n p)

pass-first : {X : Type 0} (b : Bool) (x : X) (test : X → Bool) (xs : List X) → test x ≡ b → length (filter test (x ∷ xs)) ≡ one_if b + length (filter test xs)
pass-first true x test xs e = rw e (omega arith)
pass-first false x test xs e = rw e (omega arith)

length-passed : (n a : ℕ) (test : ℕ → Bool) → length (filter test (range_with_len a n)) ≡ count n (λ j. test (a + j))
unfolding count
length-passed zero a test = refl
length-passed (suc n) a test =
    pass-first (test a) a test (range_with_len (a + 1) n) refl
    ∙ ap (λ k. one_if (test a) + k) (length-passed n (a + 1) test ∙ count_same n _ _ (λ j h. ap test {x = a + 1 + j} {y = a + suc j} (omega arith)))
    ∙ ap (λ k. one_if (test k) + count n (λ j. test (a + suc j))) {x = a} {y = a + 0} (omega arith)
    ∙ sym (count-front n (λ j. test (a + j)))

-- from 0 on
pub passed-over : (n : ℕ) (test : ℕ → Bool) → length (filter test (range_with_len 0 n)) ≡ count n test
passed-over n test = length-passed n 0 test ∙ count_same n _ _ (λ j h. ap test (omega arith))
