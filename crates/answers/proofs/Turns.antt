-- A turn of each loop over the lists, the numbers of a list and the bits of a vector: what was left before it and what is left after it. Assumes nothing.
use Prim.Native.Nat.{ℕ, suc, ◌+◌, ◌-◌, ◌<◌}
use mathlib.Core.Path.{◌≡◌, refl}
use mathlib.Core.Option.{Option, some}
use mathlib.Core.List.{List, [], ◌∷◌, ◌++◌}
use native.Mathlib.Omega.{arith}
use native.Mathlib.Numerals.{add-one}
use Rattle.base.specs.Loops.{one_if}
use Rattle.graph.specs.Vector.{bit}
use Rattle.graph.specs.Side.{right}
use Rattle.graph.specs.Graph.{Lots, Links}
use Rattle.command.specs.Ascii.{ascii}
use Rattle.command.specs.Text.{shown}
use Rattle.listing.specs.Lists.{first_of, next_first}
use Rattle.listing.specs.Text.{text_below, list_text}
use Rattle.listing.proofs.Steps.{next-none, next_more, lists_after, lists-more, numbers_from, numbers_more, digits_from, digits_more}

pub next-turn : (W : ℕ) (G : Lots) (L : Links) (n k : ℕ) (a : Option ℕ) → next_first W G L (n + 1) k a ≡ first_of W G L k a n (next_first W G L n k a)
next-turn W G L n k a = rw add-one (next_more W G L k n a)

pub below-none : (f : ℕ → List ℕ) → text_below 0 f ≡ []
unfolding text_below
below-none f = refl

pub below_turn : (n : ℕ) (f : ℕ → List ℕ) → text_below (n + 1) f ≡ text_below n f ++ f n
unfolding text_below
below_turn n f = rw add-one refl

module _ (m i : ℕ) (h : i < m) where
  pub lists-turn : (N W : ℕ) (G : Lots) (L : Links) (k : ℕ) (a : Option ℕ) (x : ℕ) → next_first W G L N k a ≡ some x
      → lists_after N W G L k (m - i) a ≡ list_text N W G L k x ++ lists_after N W G L k (m - (i + 1)) (some x)
  lists-turn N W G L k a x e = let n : m - i ≡ suc (m - (i + 1)) = omega arith in rw n (lists-more N W G L k (m - (i + 1)) a x e)

  pub numbers-turn : (number : ℕ → ℕ) (L : Links) (k x : ℕ)
      → numbers_from number L k (m - i) (some x) ≡ ascii " " ++ (shown (number x) ++ numbers_from number L k (m - (i + 1)) (L x k right))
  unfolding ascii
  numbers-turn number L k x = let n : m - i ≡ suc (m - (i + 1)) = omega arith in rw n (numbers_more number L k (m - (i + 1)) x)

  pub digits-turn : (W v : ℕ) → digits_from W v (m - i) i ≡ ((48 + one_if (bit W i v)) ∷ []) ++ digits_from W v (m - (i + 1)) (i + 1)
  digits-turn W v = let n : m - i ≡ suc (m - (i + 1)) = omega arith in rw n (digits_more W v (m - (i + 1)) i)

-- for the check
pub ruleset turns = (next-none, next-turn, below-none, below_turn)
