-- The definitions of specs/ case by case, as the code goes through them. Assumes nothing.
use Prim.Native.Nat.{ℕ, zero, suc, ◌+◌, ◌<◌}
use mathlib.Core.Path.{◌≡◌, refl}
use mathlib.Core.Option.{Option, none, some}
use mathlib.Core.Bool.{Bool, true, false, ◌||◌}
use mathlib.Core.List.{List, [], ◌∷◌, ◌++◌, map}
use native.Mathlib.Omega.{arith}
use lib.Dec.{ltb}
use borrow.Author.Tests.{eq-eqb, ne_eqb, le-ltb}
use Rattle.base.specs.Loops.{one_if, tabulate_from}
use Rattle.graph.specs.Side.{left, right}
use Rattle.graph.specs.Vector.{bit}
use Rattle.graph.specs.Graph.{Lots, Links}
use Rattle.command.specs.Ascii.{ascii}
use Rattle.command.specs.Text.{shown, spaced}
use Rattle.listing.specs.Lists.{is_there, onward, begins, right_from, shared_bits, comes_before, comes_after, earlier, first_of, next_first, firsts_after}
use Rattle.listing.specs.Text.{text_of_all, bits_text, list_text}

or-false : (b : Bool) → b || false ≡ b
or-false true = refl
or-false false = refl

-- which list comes first
module _ (W : ℕ) (G : Lots) (k : ℕ) where
  module _ (x y : ℕ) where
    pub before-bits : (shared_bits W G k x ≡ shared_bits W G k y → ⊥)
        → comes_before W G k x y ≡ ltb (shared_bits W G k x) (shared_bits W G k y)
    unfolding comes_before
    before-bits h = rw (ne_eqb _ _ h) (or-false (ltb (shared_bits W G k x) (shared_bits W G k y)))

    pub before-number : shared_bits W G k x ≡ shared_bits W G k y → comes_before W G k x y ≡ ltb (G.number x) (G.number y)
    unfolding comes_before
    before-number e = rw (eq-eqb _ _ e, le-ltb (shared_bits W G k x) (shared_bits W G k y) (omega arith))

    pub earlier-this : comes_before W G k x y ≡ true → earlier W G k x (some y) ≡ some x
    unfolding earlier
    earlier-this e = rw e

    pub earlier-that : comes_before W G k x y ≡ false → earlier W G k x (some y) ≡ some y
    unfolding earlier
    earlier-that e = rw e

    pub after-some : comes_after W G k (some x) y ≡ comes_before W G k x y
    unfolding comes_after
    after-some = refl

  pub after_none : (x : ℕ) → comes_after W G k none x ≡ true
  unfolding comes_after
  after_none x = refl

  pub earlier-none : (x : ℕ) → earlier W G k x none ≡ some x
  unfolding earlier
  earlier-none x = refl

module _ (W : ℕ) (G : Lots) (L : Links) (k : ℕ) where
  -- where a list begins
  module _ (x : ℕ) where
    pub begins-no-member : G.member x ≡ false → begins W G L k x ≡ false
    unfolding begins
    begins-no-member e = rw e

    pub begins-left : {y : ℕ} → G.member x ≡ true → L x k left ≡ some y → begins W G L k x ≡ false
    unfolding begins
    begins-left e f = rw (e, f)

    pub begins-right : G.member x ≡ true → L x k left ≡ none → begins W G L k x ≡ is_there (L x k right)
    unfolding begins
    begins-right e f = rw (e, f)

  -- a lot with which no list begins, one whose list comes too early, and one more to choose from
  module _ (a : Option ℕ) (x : ℕ) (o : Option ℕ) where
    pub first-no-list : begins W G L k x ≡ false → first_of W G L k a x o ≡ o
    unfolding first_of
    first-no-list e = rw e

    pub first-passed : begins W G L k x ≡ true → comes_after W G k a x ≡ false → first_of W G L k a x o ≡ o
    unfolding first_of
    first-passed e f = rw (e, f)

    pub first_found : begins W G L k x ≡ true → comes_after W G k a x ≡ true → first_of W G L k a x o ≡ earlier W G k x o
    unfolding first_of
    first_found e f = rw (e, f)

  pub next-none : (a : Option ℕ) → next_first W G L 0 k a ≡ none
  unfolding next_first
  next-none a = refl

  pub next_more : (n : ℕ) (a : Option ℕ) → next_first W G L (suc n) k a ≡ first_of W G L k a n (next_first W G L n k a)
  unfolding next_first
  next_more n a = refl

-- the texts of the lists that are left
module _ (N W : ℕ) (G : Lots) (L : Links) (k : ℕ) where
  abbrev pub lists_after : (n : ℕ) (a : Option ℕ) → List ℕ
  lists_after n a = text_of_all (list_text N W G L k) (firsts_after W G L N n k a)

  pub lists-zero : (a : Option ℕ) → lists_after 0 a ≡ []
  unfolding text_of_all firsts_after
  lists-zero a = refl

  pub lists-none : (n : ℕ) (a : Option ℕ) → next_first W G L N k a ≡ none → lists_after n a ≡ []
  unfolding text_of_all firsts_after onward
  lists-none zero a e = refl
  lists-none (suc n) a e = rw e

  pub lists-more : (n : ℕ) (a : Option ℕ) (x : ℕ) → next_first W G L N k a ≡ some x
      → lists_after (suc n) a ≡ list_text N W G L k x ++ lists_after n (some x)
  unfolding text_of_all firsts_after onward
  lists-more n a x e = rw e

-- the texts of the numbers that are left
module _ (number : ℕ → ℕ) (L : Links) (k : ℕ) where
  abbrev pub numbers_from : (n : ℕ) → Option ℕ → List ℕ
  numbers_from n o = spaced (map (λ z. shown (number z)) (right_from L n k o))

  pub numbers-zero : (o : Option ℕ) → numbers_from 0 o ≡ []
  unfolding spaced right_from
  numbers-zero o = refl

  pub numbers-none : (n : ℕ) → numbers_from n none ≡ []
  unfolding spaced right_from onward
  numbers-none zero = refl
  numbers-none (suc n) = refl

  pub numbers_more : (n x : ℕ) → numbers_from (suc n) (some x) ≡ ((32 ∷ []) ++ shown (number x)) ++ numbers_from n (L x k right)
  unfolding spaced right_from onward
  numbers_more n x = refl

-- the digits of the bits that are left
abbrev pub digits_from : (W v n j : ℕ) → List ℕ
digits_from W v n j = tabulate_from n j (λ i. 48 + one_if (bit W i v))

pub bits_none : (W v : ℕ) → bits_text W 0 v ≡ 45 ∷ []
unfolding bits_text ascii
bits_none W v = refl

pub bits-all : (W k v : ℕ) → 0 < k → bits_text W k v ≡ digits_from W v k 0
unfolding bits_text
bits-all W zero v h = absurd (omega arith)
bits-all W (suc k) v h = refl

pub digits-zero : (W v j : ℕ) → digits_from W v 0 j ≡ []
unfolding tabulate_from
digits-zero W v j = refl

pub digits_more : (W v n j : ℕ) → digits_from W v (suc n) j ≡ ((48 + one_if (bit W j v)) ∷ []) ++ digits_from W v n (j + 1)
unfolding tabulate_from
digits_more W v n j = refl
