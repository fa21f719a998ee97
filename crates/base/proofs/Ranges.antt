-- What `all` and `any` answer over the numbers from 0 up to n, where the closure is a test. Assumes nothing.
use Prim.Native.Nat.{ℕ, zero, suc, ◌+◌}
use mathlib.Core.Path.{◌≡◌, refl, sym, ap, ◌∙◌}
use mathlib.Core.Bool.{Bool, true, false, ◌&&◌, ◌||◌}
use mathlib.Core.List.{List}
use native.Mathlib.Omega.{arith}
use denote.Param.Members.{Mut}
use Rattle.std.proofs.iter.Yields.{nat_range_steps}
use Rattle.std.proofs.lemmas.Iterator.{YieldsList-from_range}
use Rattle.std.proofs.lemmas.Iterator.Search.{all_from_yields_List, any_from_yields_List}
use Rattle.std.specs.Prelude.{Option, MatchOption}
use Rattle.std.specs.Fn.{Called}
use Rattle.std.specs.Iterator.{YieldsThen}
use Rattle.std.specs.List.{FoldsTo, list_all, list_any, range_with_len}
use Rattle.std.specs.declared.ops.Range.{Range}
use Rattle.base.specs.Loops.{all, any}
use Rattle.base.proofs.All.{all_same}
use Rattle.base.proofs.Any.{any_same}
use Rattle.base.proofs.Cases.{and_assoc, and-true}

-- the first number, and then the others
all-front : (n : ℕ) (p : ℕ → Bool) → all (suc n) p ≡ p 0 && all n (λ j. p (suc j))
unfolding all
all-front zero p = sym (and-true (p 0))
all-front (suc n) p = ap (λ b. b && p (suc n)) (all-front n p) ∙ and_assoc (p 0) (all n (λ j. p (suc j))) (p (suc n))

or-swap : (a b c : Bool) → a || (b || c) ≡ b || (a || c)
or-swap true true c = refl
or-swap true false c = refl
or-swap false true c = refl
or-swap false false c = refl

any-front : (n : ℕ) (p : ℕ → Bool) → any (suc n) p ≡ p 0 || any n (λ j. p (suc j))
unfolding any
any-front zero p = refl
any-front (suc n) p = ap (λ b. p (suc n) || b) (any-front n p) ∙ or-swap (p (suc n)) (p 0) (any n (λ j. p (suc j)))

-- a test of the n numbers from a on, one after the other
list_all-range : (n a : ℕ) (test : ℕ → Bool) → list_all test (range_with_len a n) ≡ all n (λ j. test (a + j))
unfolding all
list_all-range zero a test = refl
list_all-range (suc n) a test =
    ap (λ b. test a && b) (list_all-range n (a + 1) test ∙ all_same n _ _ (λ j h. ap test {x = a + 1 + j} {y = a + suc j} (omega arith)))
    ∙ ap (λ k. test k && all n (λ j. test (a + suc j))) {x = a} {y = a + 0} (omega arith)
    ∙ sym (all-front n (λ j. test (a + j)))

list_any-range : (n a : ℕ) (test : ℕ → Bool) → list_any test (range_with_len a n) ≡ any n (λ j. test (a + j))
unfolding any
list_any-range zero a test = refl
list_any-range (suc n) a test =
    ap (λ b. test a || b) (list_any-range n (a + 1) test ∙ any_same n _ _ (λ j h. ap test {x = a + 1 + j} {y = a + suc j} (omega arith)))
    ∙ ap (λ k. test k || any n (λ j. test (a + suc j))) {x = a} {y = a + 0} (omega arith)
    ∙ sym (any-front n (λ j. test (a + j)))

module _ {F : Type 0} {g : Mut F (ℕ × Unit {0}) Bool} (n : ℕ) (test : ℕ → Bool) (u : Range ℕ) (f : F) (r : Bool) where
  pub all-over : (xs : List ℕ) × (o : Option ℕ) × (j : F) × YieldsThen nat_range_steps (record { start = 0; end = n }) xs o u
      × FoldsTo (λ p x q. Called g p (x, tt) true q) f xs j × MatchOption o (r ≡ true) (λ x. (r ≡ false) × ((h : F) × Called g j (x, tt) false h))
      → ((x : ℕ) (b : Bool) (q : F) → Called g f (x, tt) b q → (q ≡ f) × (b ≡ test x)) → r ≡ all n test
  all-over d k = all_from_yields_List test u f r d (YieldsList-from_range 0 n n refl (omega arith)) k
      ∙ list_all-range n 0 test ∙ all_same n _ _ (λ j h. ap test (omega arith))

  pub any-over : (xs : List ℕ) × (o : Option ℕ) × (j : F) × YieldsThen nat_range_steps (record { start = 0; end = n }) xs o u
      × FoldsTo (λ p x q. Called g p (x, tt) false q) f xs j × MatchOption o (r ≡ false) (λ x. (r ≡ true) × ((h : F) × Called g j (x, tt) true h))
      → ((x : ℕ) (b : Bool) (q : F) → Called g f (x, tt) b q → (q ≡ f) × (b ≡ test x)) → r ≡ any n test
  any-over d k = any_from_yields_List test u f r d (YieldsList-from_range 0 n n refl (omega arith)) k
      ∙ list_any-range n 0 test ∙ any_same n _ _ (λ j h. ap test (omega arith))
