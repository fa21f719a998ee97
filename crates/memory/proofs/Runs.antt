-- Lists tested and searched by runs of n elements, and the or of bytes, as code does it. Assumes nothing.
use Prim.Native.Nat.{ℕ, zero, suc, ◌+◌, ◌*◌, ◌≤◌, ◌<◌}
use mathlib.Core.Path.{◌≡◌, refl, sym, ap, ◌∙◌}
use mathlib.Core.Bool.{Bool, true, false, ◌&&◌}
use mathlib.Core.List.{List, [], ◌∷◌, ◌++◌}
use mathlib.Core.Logic.{◌⊎◌, inl, inr}
use native.Mathlib.Omega.{arith}
use native.Mathlib.Nat.{zero-mul, suc-mul, add_comm}
use native.Mathlib.Numerals.{one-add}
use lib.Bits.{bit_or, or_add_and, and_le_l, and_le_r}
use lib.Count.{ones, ones-le}
use lib.Dec.{eqb}
use lib.ListN.{length, get_or, take, drop}
use borrow.Author.Tests.{ne_eqb}
use Rattle.std.specs.List.{fold, list_all, prefix_len, sum_by, AllWithin, HoldsAt}
use Rattle.std.specs.Option.{MatchOption, unwrap_or}
use Rattle.std.specs.Simd.{first_chunks}
use Rattle.std.specs.declared.option.Option.{Option}
use Rattle.std.proofs.lemmas.Iterator.{index_from_first}
use Rattle.std.proofs.lemmas.List.{take-append-drop, length-take-le, length-drop, drop-drop}
use Rattle.std.proofs.lemmas.List.Folds.{list_all-append}
use Rattle.std.proofs.lemmas.List.Sums.{sum_by-cons}
use Rattle.base.proofs.Cases.{true-or-false, and-true, and_assoc, and_left, and_right, eqb-both}
use Rattle.base.specs.Loops.{all}
use Rattle.base.proofs.All.{all_none, all_append, all_same}

-- the or of two numbers, and of all in a list
or-zero : (x y : ℕ) → eqb (bit_or x y) 0 ≡ eqb x 0 && eqb y 0
or-zero x y =
    let s = or_add_and x y in
    eqb-both (bit_or x y) 0 x 0 y 0 (λ e. (omega (arith, and_le_r x y), omega (arith, and_le_l x y))) (λ e f. omega arith)

pub or-zeros : (a : ℕ) (xs : List ℕ) → eqb (fold bit_or a xs) 0 ≡ eqb a 0 && list_all (λ x. eqb x 0) xs
or-zeros a [] = sym (and-true (eqb a 0))
or-zeros a (x ∷ xs) = or-zeros (bit_or a x) xs ∙ rw or-zero (and_assoc (eqb a 0) (eqb x 0) (list_all (λ y. eqb y 0) xs))

-- the first element that fails, as `position` answers it
pub prefix-position : {X : Type 0} (p : X → Bool) (xs : List X) (r : Option ℕ)
    → MatchOption r (AllWithin (λ x. p x ≡ true) xs 0 (length xs))
    (λ i. (i < length xs) × HoldsAt (λ x. p x ≡ false) xs i × AllWithin (λ x. p x ≡ true) xs 0 i)
    → prefix_len p xs ≡ unwrap_or r (length xs)
prefix-position p xs r h = index_from_first (prefix_len p) (λ x. p x ≡ false) (λ x. p x ≡ true) refl (λ x ys e. rw e) (λ x ys e. rw e (omega arith)) xs r h

-- a prefix that ends in the second of two lists
prefix-append : (p : ℕ → Bool) (xs ys : List ℕ) → list_all p xs ≡ true → prefix_len p (xs ++ ys) ≡ length xs + prefix_len p ys
prefix-append p [] ys h = omega arith
prefix-append p (x ∷ xs) ys h =
    rw (and_left (p x) (list_all p xs) h, prefix-append p xs ys (and_right (p x) (list_all p xs) h)) (omega arith)

-- the runs of n elements at the start that pass are passed by a search for one that fails
pub prefix-runs : (p : ℕ → Bool) (n m : ℕ) (xs : List ℕ) → m * n ≤ length xs
    → let k = prefix_len (list_all p) (first_chunks n m xs) in prefix_len p xs ≡ k * n + prefix_len p (drop (k * n) xs)
prefix-runs p n zero xs h = rw (zero-mul n) (omega arith)
prefix-runs p n (suc m) xs h = by (true-or-false (list_all p (take n xs))) (prefix-runs p n m (drop n xs) (omega (arith, length-drop n xs, suc-mul m n)))
  where
    k : ℕ
    k = prefix_len (list_all p) (first_chunks n m (drop n xs))

    by : (list_all p (take n xs) ≡ true) ⊎ (list_all p (take n xs) ≡ false)
        → prefix_len p (drop n xs) ≡ k * n + prefix_len p (drop (k * n) (drop n xs))
        → let j = prefix_len (list_all p) (first_chunks n (suc m) xs) in prefix_len p xs ≡ j * n + prefix_len p (drop (j * n) xs)
    by (inl e) ih =
        let l : length (take n xs) ≡ n = length-take-le n xs (omega (arith, suc-mul m n)) in
        let first = ap (prefix_len p) (sym (take-append-drop n xs)) ∙ prefix-append p (take n xs) (drop n xs) e in
        let q : (1 + k) * n ≡ n + k * n = rw (one-add, suc-mul) (omega arith) in
        rw (e, q, ← drop-drop (k * n) n xs) (omega (arith, first, l, ih))
    by (inr e) ih = rw (e, zero-mul n) (omega arith)

-- tests of runs and of what is left
pub all-runs : (p : ℕ → Bool) (n m : ℕ) (xs : List ℕ) → list_all (list_all p) (first_chunks n m xs) && list_all p (drop (m * n) xs) ≡ list_all p xs
all-runs p n zero xs = rw (zero-mul n)
all-runs p n (suc m) xs =
    let d : drop (suc m * n) xs ≡ drop (m * n) (drop n xs) = rw (suc-mul m n, add_comm (m * n) n) (sym (drop-drop (m * n) n xs)) in
    rw (d, and_assoc, all-runs p n m (drop n xs))
    (sym (list_all-append p (take n xs) (drop n xs)) ∙ ap (list_all p) (take-append-drop n xs))

-- a test of each index and of each element
all_one : (q : ℕ → Bool) → all 1 q ≡ q 0
unfolding all
all_one q = refl

pub all-list : (p : ℕ → Bool) (xs : List ℕ) → all (length xs) (λ i. p (get_or xs i 0)) ≡ list_all p xs
all-list p [] = all_none (λ i. p (get_or [] i 0))
all-list p (x ∷ xs) =
    let tail = all_same (length xs) (λ i. p (get_or (x ∷ xs) (1 + i) 0)) (λ i. p (get_or xs i 0)) (λ i h. rw one-add) in
    rw (← one-add (length xs), all_append, all_one) (ap (λ (b : Bool). p x && b) (tail ∙ all-list p xs))

-- zeros add no ones
pub ones-prefix : (xs : List ℕ) → sum_by ones xs ≡ sum_by ones (drop (prefix_len (λ x. eqb x 0) xs) xs)
ones-prefix [] = refl
ones-prefix (zero ∷ xs) = rw one-add (sum_by-cons ones 0 xs ∙ omega (arith, ones-le 0 0 (omega arith), ones-prefix xs))
ones-prefix (suc x ∷ xs) = let e : eqb (suc x) 0 ≡ false = ne_eqb (suc x) 0 (λ q. omega arith) in rw e
