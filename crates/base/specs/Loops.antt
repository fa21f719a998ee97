-- What loops over the numbers below a bound answer: a test of all, a search, a count, a list made by its elements. Assumes nothing.
use Rattle.std.specs.Prelude.{ℕ, zero, suc, ◌+◌, Bool, true, false, cond, ◌&&◌, ◌||◌, List, [], ◌∷◌}

-- 1 if a test passes, else 0
abbrev pub one_if : Bool → ℕ
one_if true = 1
one_if false = 0

-- every number below n passes
unfoldable pub all : (n : ℕ) (p : ℕ → Bool) → Bool
all zero p = true
all (suc n) p = all n p && p n

-- one of the numbers below n passes
unfoldable pub any : (n : ℕ) (p : ℕ → Bool) → Bool
any zero p = false
any (suc n) p = p n || any n p

-- the first of the n numbers from i on that passes, else i + n
unfoldable pub first_from : (n i : ℕ) (p : ℕ → Bool) → ℕ
first_from zero i p = i
first_from (suc n) i p = let rest = first_from n (i + 1) p in cond (p i) i rest

-- how many numbers below n pass
unfoldable pub count : (n : ℕ) (p : ℕ → Bool) → ℕ
count zero p = 0
count (suc n) p = count n p + one_if (p n)

-- the n values of f from i on
unfoldable pub tabulate_from : (n i : ℕ) (f : ℕ → ℕ) → List ℕ
tabulate_from zero i f = []
tabulate_from (suc n) i f = f i ∷ tabulate_from n (i + 1) f

-- the first n values of f
abbrev pub tabulate : (n : ℕ) (f : ℕ → ℕ) → List ℕ
tabulate n f = tabulate_from n 0 f
