-- The lots with which lists begin: each that is found begins a list that comes after the one before it. Assumes nothing.
use Prim.Native.Nat.{ℕ, zero, suc, ◌≤◌, ◌<◌}
use mathlib.Core.Path.{◌≡◌, refl, sym, ◌∙◌}
use mathlib.Core.Logic.{◌⊎◌, inl, inr}
use mathlib.Core.Option.{Option, none, some}
use mathlib.Core.Bool.{Bool, true, false, cond, ◌&&◌}
use native.Mathlib.Omega.{arith}
use lib.Dec.{T, eqb, ltb, eqb→eq, ltb→lt, lt→ltb, eqb_refl}
use Rattle.base.proofs.Cases.{lt-or-ge}
use Rattle.base.proofs.Tests.{true-T, and-fst, and-snd, and_T, or_cases, or_left, or_right, none-some, some_inj}
use Rattle.graph.specs.Graph.{Lots, Links}
use Rattle.listing.specs.Lists.{shared_bits, comes_before, comes_after, earlier, begins, first_of, next_first}

-- the order of lists, as a relation: by bits, then by number
data Before (b c m n : ℕ) : Type 0 where
  bits : b < c → Before b c m n
  number : b ≡ c → m < n → Before b c m n

module _ (W : ℕ) (G : Lots) (k : ℕ) where
  before-rel : (x y : ℕ) → T (comes_before W G k x y) → Before (shared_bits W G k x) (shared_bits W G k y) (G.number x) (G.number y)
  unfolding comes_before
  before-rel x y t = by (or_cases (ltb b c) (eqb b c && ltb m n) t)
    where
      b : ℕ
      b = shared_bits W G k x

      c : ℕ
      c = shared_bits W G k y

      m : ℕ
      m = G.number x

      n : ℕ
      n = G.number y

      by : T (ltb b c) ⊎ T (eqb b c && ltb m n) → Before b c m n
      by (inl u) = bits (ltb→lt b c u)
      by (inr u) = number (eqb→eq b c (and-fst (eqb b c) (ltb m n) u)) (ltb→lt m n (and-snd (eqb b c) (ltb m n) u))

  rel-before : (x y : ℕ) → Before (shared_bits W G k x) (shared_bits W G k y) (G.number x) (G.number y) → T (comes_before W G k x y)
  unfolding comes_before
  rel-before x y (bits h) =
      or_left (ltb (shared_bits W G k x) (shared_bits W G k y)) _ (lt→ltb (shared_bits W G k x) (shared_bits W G k y) h)
  rel-before x y (number e h) =
      or_right (ltb (shared_bits W G k x) (shared_bits W G k y)) (eqb (shared_bits W G k x) (shared_bits W G k y) && ltb (G.number x) (G.number y))
      (and_T (eqb (shared_bits W G k x) (shared_bits W G k y)) (ltb (G.number x) (G.number y))
      (rw e (eqb_refl (shared_bits W G k y))) (lt→ltb (G.number x) (G.number y) h))

  pub before-trans : (x y z : ℕ) → T (comes_before W G k x y) → T (comes_before W G k y z) → T (comes_before W G k x z)
  before-trans x y z t u = rel-before x z (by (before-rel x y t) (before-rel y z u))
    where
      by : Before (shared_bits W G k x) (shared_bits W G k y) (G.number x) (G.number y)
          → Before (shared_bits W G k y) (shared_bits W G k z) (G.number y) (G.number z)
          → Before (shared_bits W G k x) (shared_bits W G k z) (G.number x) (G.number z)
      by (bits h) (bits g) = bits (omega arith)
      by (bits h) (number e g) = bits (omega arith)
      by (number e h) (bits g) = bits (omega arith)
      by (number e h) (number f g) = number (e ∙ f) (omega arith)

  pub before-total : (x y : ℕ) → (G.number x ≡ G.number y → ⊥) → T (comes_before W G k x y) ⊎ T (comes_before W G k y x)
  before-total x y ne = by (lt-or-ge (shared_bits W G k x) (shared_bits W G k y)) (lt-or-ge (shared_bits W G k y) (shared_bits W G k x))
      (lt-or-ge (G.number x) (G.number y))
    where
      by : (shared_bits W G k x < shared_bits W G k y) ⊎ (shared_bits W G k y ≤ shared_bits W G k x)
          → (shared_bits W G k y < shared_bits W G k x) ⊎ (shared_bits W G k x ≤ shared_bits W G k y)
          → (G.number x < G.number y) ⊎ (G.number y ≤ G.number x) → T (comes_before W G k x y) ⊎ T (comes_before W G k y x)
      by (inl p) q r = inl (rel-before x y (bits p))
      by (inr p) (inl q) r = inr (rel-before y x (bits q))
      by (inr p) (inr q) (inl r) = inl (rel-before x y (number (omega arith) r))
      by (inr p) (inr q) (inr r) = inr (rel-before y x (number (omega arith) (omega (arith, ne))))

  pub before-irr : (x : ℕ) → T (comes_before W G k x x) → ⊥
  before-irr x t = by (before-rel x x t)
    where
      by : Before (shared_bits W G k x) (shared_bits W G k x) (G.number x) (G.number x) → ⊥
      by (bits h) = omega arith
      by (number e h) = omega arith

module _ (W : ℕ) (G : Lots) (L : Links) (k : ℕ) where
  -- a list of level k begins with x, and comes after that of a
  pub record Listed (a : Option ℕ) (x : ℕ) : Type 0 where
    pub starts : T (begins W G L k x)
    pub follows : T (comes_after W G k a x)

  earlier-is : (x y : ℕ) (o : Option ℕ) → earlier W G k x o ≡ some y → (y ≡ x) ⊎ (o ≡ some y)
  unfolding earlier
  earlier-is x y none e = inl (sym (some_inj e))
  earlier-is x y (some z) e = by (comes_before W G k x z) e
    where
      by : (b : Bool) → cond b (some x) (some z) ≡ some y → (y ≡ x) ⊎ (some z ≡ some y)
      by true f = inl (sym (some_inj f))
      by false f = inr f

  pub next-listed : (n : ℕ) (a : Option ℕ) (x : ℕ) → next_first W G L n k a ≡ some x → Listed a x × (x < n)
  unfolding next_first first_of
  next-listed zero a x e = none-some refl e
  next-listed (suc n) a x e = by (begins W G L k n) (comes_after W G k a n) refl refl (λ f. let r = next-listed n a x f in (r.0, omega arith)) e
    where
      by : (b c : Bool) → begins W G L k n ≡ b → comes_after W G k a n ≡ c → (next_first W G L n k a ≡ some x → Listed a x × (x < suc n))
          → cond (b && c) (earlier W G k n (next_first W G L n k a)) (next_first W G L n k a) ≡ some x → Listed a x × (x < suc n)
      by false c p q below f = below f
      by true false p q below f = below f
      by true true p q below f = go (earlier-is n x (next_first W G L n k a) f)
        where
          go : (x ≡ n) ⊎ (next_first W G L n k a ≡ some x) → Listed a x × (x < suc n)
          go (inl r) = (rw r (record { starts = true-T p; follows = true-T q }), omega arith)
          go (inr r) = below r
