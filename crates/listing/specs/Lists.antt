-- The lists of a level in the order in which they are printed (document 01, "The program": each list of two or more, bits ascending), by the lots
-- with which they begin, and the lots of a list. Over any links; in a skip graph a lot's links are its neighbours in its list. Assumes nothing.
use Rattle.std.specs.Prelude.{ℕ, zero, suc, ◌-◌, ◌/◌, ◌^◌, Bool, true, false, not, cond, ◌&&◌, ◌||◌, List, [], ◌∷◌, eqb, ltb}
use Rattle.std.proofs.Math.Option.{Option, none, some}
use Rattle.graph.specs.Side.{left, right}
use Rattle.graph.specs.Graph.{Lots, Links}

-- whether there is a lot
abbrev pub is_there : Option ℕ → Bool
is_there none = false
is_there (some x) = true

-- nothing without a lot, else what goes on from it
unfoldable pub onward : Option ℕ → (ℕ → List ℕ) → List ℕ
onward none f = []
onward (some x) f = f x

-- the lots of a list from one on, if there is one, to the right along level k; n at most
unfoldable pub right_from : Links → (n k : ℕ) → Option ℕ → List ℕ
right_from L zero k o = []
right_from L (suc n) k o = onward o (λ x. x ∷ right_from L n k (L x k right))

-- which list comes first
module _ (W : ℕ) (G : Lots) where
  -- the bits that the lots of x's list of level k share, as a number
  unfoldable pub shared_bits : (k x : ℕ) → ℕ
  shared_bits k x = G.vector x / 2 ^ (W - k)

  -- the list of x comes before that of y: by its bits, and where they are equal, in another component, by its first number
  unfoldable pub comes_before : (k x y : ℕ) → Bool
  comes_before k x y = ltb (shared_bits k x) (shared_bits k y) || (eqb (shared_bits k x) (shared_bits k y) && ltb (G.number x) (G.number y))

  -- it comes after that of a, if there is one
  unfoldable pub comes_after : (k : ℕ) → Option ℕ → ℕ → Bool
  comes_after k none x = true
  comes_after k (some a) x = comes_before k a x

  -- x, or the lot y that was found before if its list does not come after that of x
  unfoldable pub earlier : (k x : ℕ) → Option ℕ → Option ℕ
  earlier k x none = some x
  earlier k x (some y) = cond (comes_before k x y) (some x) (some y)

module _ (W : ℕ) (G : Lots) (L : Links) where
  -- a list of two or more lots of level k begins with x: a member with nobody on its left and somebody on its right
  unfoldable pub begins : (k x : ℕ) → Bool
  begins k x = G.member x && (not (is_there (L x k left)) && is_there (L x k right))

  -- of the lists of level k after that of a the first: that of x, if it is one of them, or the one that was found before
  unfoldable pub first_of : (k : ℕ) (a : Option ℕ) (x : ℕ) → Option ℕ → Option ℕ
  first_of k a x o = cond (begins k x && comes_after W G k a x) (earlier W G k x o) o

  -- by the lot that it begins with, of those on seats below n
  unfoldable pub next_first : (n k : ℕ) (a : Option ℕ) → Option ℕ
  next_first zero k a = none
  next_first (suc n) k a = first_of k a n (next_first n k a)

  -- the lots on N seats with which the lists of level k after that of a begin, in order; n at most
  unfoldable pub firsts_after : (N n k : ℕ) (a : Option ℕ) → List ℕ
  firsts_after N zero k a = []
  firsts_after N (suc n) k a = onward (next_first N k a) (λ x. x ∷ firsts_after N n k (some x))

  -- of all lists of level k
  abbrev pub firsts : (N k : ℕ) → List ℕ
  firsts N k = firsts_after N N k none
