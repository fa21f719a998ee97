-- The lots with which the lists of a level begin are found each once, in order, and all of them. Assumes the laws of the lots.
use Prim.Native.Nat.{ℕ, zero, suc, ◌≤◌, ◌<◌}
use mathlib.Core.Path.{◌≡◌, refl}
use mathlib.Core.Logic.{◌≢◌, ◌⊎◌, inl, inr}
use mathlib.Core.Option.{Option, none, some}
use mathlib.Core.Bool.{Bool, true, false, cond, ◌&&◌}
use mathlib.Core.List.Memᴰ
use mathlib.Core.List.{◌∷◌, Memᴰ}
use native.Mathlib.Omega.{arith}
use lib.Dec.{T}
use Rattle.base.specs.Loops.{count}
use Rattle.base.proofs.Cases.{eq-or-ne}
use Rattle.base.proofs.Tests.{true-T, false-T, and_T, and-fst, and-snd}
use Rattle.search.proofs.Count.{count_less}
use Rattle.graph.specs.Graph.{Lots, Links, Laws, graph}
use Rattle.graph.proofs.Below.{below_suc}
use Rattle.listing.specs.Lists.{onward, comes_before, comes_after, earlier, begins, first_of, next_first, firsts_after}
use Rattle.listing.specs.Whole.{InOrder}
use Rattle.listing.specs.Whole as whole
use Rattle.listing.proofs.Firsts.{before-trans, before-total, before-irr, Listed, next-listed}
use Rattle.listing.proofs.Graph.{begins-member}
use Rattle.listing.proofs.Few.{follows_on}

module _ {N W : ℕ} {G : Lots} (laws : Laws N G) (k : ℕ) (h : k ≤ W) where
  abbrev K : Links
  K = graph N W G

  -- lists that begin, and come after that of a
  pub after : (a : Option ℕ) (x : ℕ) → Bool
  after a x = begins W G K k x && comes_after W G k a x

  listed-after : (a : Option ℕ) (x : ℕ) → Listed W G K k a x → T (after a x)
  unfolding after
  listed-after a x i = and_T (begins W G K k x) (comes_after W G k a x) i.starts i.follows

  after-listed : (a : Option ℕ) (x : ℕ) → T (after a x) → Listed W G K k a x
  unfolding after
  after-listed a x t = record { starts = and-fst (begins W G K k x) (comes_after W G k a x) t; follows = and-snd (begins W G K k x) (comes_after W G k a x) t }

  -- of two lists one comes first
  either_first : (x y : ℕ) → T (begins W G K k x) → T (begins W G K k y) → x ≢ y → T (comes_before W G k x y) ⊎ T (comes_before W G k y x)
  either_first x y s t ne = before-total W G k x y (λ e. ne (laws.differ x y (begins-member W G K k x s) (begins-member W G K k y t) e))

  -- what is found is the first
  Least : (a : Option ℕ) (n : ℕ) → Option ℕ → Type 0
  Least a n none = (y : ℕ) → y < n → Listed W G K k a y → ⊥
  Least a n (some x) = T (begins W G K k x) × ((y : ℕ) → y < n → Listed W G K k a y → (y ≡ x) ⊎ T (comes_before W G k x y))

  next-least : (a : Option ℕ) (n : ℕ) → Least a n (next_first W G K n k a)
  unfolding Least next_first first_of earlier
  next-least a zero = λ y l i. absurd (omega arith)
  next-least a (suc n) = by (begins W G K k n) (comes_after W G k a n) refl refl (next-least a n)
    where
      pass : (Listed W G K k a n → ⊥) → (o : Option ℕ) → Least a n o → Least a (suc n) o
      pass f none g = λ y l i. below_suc {A = λ z. Listed W G K k a z → ⊥} g f y l i
      pass f (some x) g = (g.0, below_suc {A = λ z. Listed W G K k a z → (z ≡ x) ⊎ T (comes_before W G k x z)} g.1 (λ i. absurd (f i)))

      before-then : (x z : ℕ) → T (comes_before W G k n x) → (z ≡ x) ⊎ T (comes_before W G k x z) → (z ≡ n) ⊎ T (comes_before W G k n z)
      before-then x z t (inl q) = inr (rw q t)
      before-then x z t (inr u) = inr (before-trans W G k n x z t u)

      behind : (x : ℕ) → T (begins W G K k n) → T (begins W G K k x) → comes_before W G k n x ≡ false → (n ≡ x) ⊎ (n ≡ x → ⊥)
          → (n ≡ x) ⊎ T (comes_before W G k x n)
      behind x s t e (inl q) = inl q
      behind x s t e (inr ne) = go (either_first n x s t ne)
        where
          go : T (comes_before W G k n x) ⊎ T (comes_before W G k x n) → (n ≡ x) ⊎ T (comes_before W G k x n)
          go (inl u) = false-T e u
          go (inr u) = inr u

      choose : T (begins W G K k n) → (o : Option ℕ) → Least a n o → Least a (suc n) (earlier W G k n o)
      choose s none g =
          (s, below_suc {A = λ z. Listed W G K k a z → (z ≡ n) ⊎ T (comes_before W G k n z)} (λ z l i. absurd (g z l i)) (λ i. inl refl))
      choose s (some x) g = go (comes_before W G k n x) refl
        where
          go : (b : Bool) → comes_before W G k n x ≡ b → Least a (suc n) (cond b (some n) (some x))
          go true e = (
            s,
            below_suc {A = λ z. Listed W G K k a z → (z ≡ n) ⊎ T (comes_before W G k n z)}
                (λ z l i. before-then x z (true-T e) (g.1 z l i)) (λ i. inl refl),
          )
          go false e = (
            g.0,
            below_suc {A = λ z. Listed W G K k a z → (z ≡ x) ⊎ T (comes_before W G k x z)} g.1
                (λ i. behind x s g.0 e (eq-or-ne n x)),
          )

      by : (b c : Bool) → begins W G K k n ≡ b → comes_after W G k a n ≡ c → Least a n (next_first W G K n k a)
          → Least a (suc n) (cond (b && c) (earlier W G k n (next_first W G K n k a)) (next_first W G K n k a))
      by false c p q g = pass (λ i. false-T p i.starts) (next_first W G K n k a) g
      by true false p q g = pass (λ i. false-T q i.follows) (next_first W G K n k a) g
      by true true p q g = choose (true-T p) (next_first W G K n k a) g

  -- all of them are found
  pub after-all : (n : ℕ) (a : Option ℕ) (y : ℕ) → Listed W G K k a y → count N (after a) ≤ n → Memᴰ y (firsts_after W G K N n k a)
  unfolding firsts_after onward comes_after Least
  after-all zero a y i l =
      absurd (omega (
        arith,
        count_less N (λ z. false) (after a) y (laws.seat y (begins-member W G K k y i.starts)) (listed-after a y i) (λ f. f)
            (λ z f. absurd f),
      ))
  after-all (suc n) a y i l = by (next_first W G K N k a) refl (next-least a N) (λ x. after-all n (some x) y)
    where
      seat : y < N
      seat = laws.seat y (begins-member W G K k y i.starts)

      by : (o : Option ℕ) → next_first W G K N k a ≡ o → Least a N (next_first W G K N k a)
          → ((x : ℕ) → Listed W G K k (some x) y → count N (after (some x)) ≤ n → Memᴰ y (firsts_after W G K N n k (some x)))
          → Memᴰ y (onward (next_first W G K N k a) (λ x. x ∷ firsts_after W G K N n k (some x)))
      by none e g ih = absurd ((rw e at g) y seat i)
      by (some x) e g ih = rw e (go ((rw e at g).1 y seat i))
        where
          j : Listed W G K k a x
          j = (next-listed W G K k N a x e).0

          fewer : count N (after (some x)) < count N (after a)
          fewer = count_less N (after (some x)) (after a) x (laws.seat x (begins-member W G K k x j.starts)) (listed-after a x j)
              (λ t. before-irr W G k x (after-listed (some x) x t).follows)
              (λ z t. let r = after-listed (some x) z t in
              listed-after a z (record { starts = r.starts; follows = follows_on laws k h a x z j.follows r.follows }))

          go : (y ≡ x) ⊎ T (comes_before W G k x y) → Memᴰ y (x ∷ firsts_after W G K N n k (some x))
          go (inl q) = Memᴰ.head q
          go (inr t) = Memᴰ.tail (ih x (record { starts = i.starts; follows = t }) (omega (arith, fewer)))

  -- and nothing else, in order
  pub after-only : (n : ℕ) (a : Option ℕ) (y : ℕ) → Memᴰ y (firsts_after W G K N n k a) → T (begins W G K k y)
  unfolding firsts_after onward
  after-only zero a y i = absurd (Memᴰ.not-nil i)
  after-only (suc n) a y i = by (next_first W G K N k a) refl (λ x. after-only n (some x) y) i
    where
      by : (o : Option ℕ) → next_first W G K N k a ≡ o → ((x : ℕ) → Memᴰ y (firsts_after W G K N n k (some x)) → T (begins W G K k y))
          → Memᴰ y (onward o (λ x. x ∷ firsts_after W G K N n k (some x))) → T (begins W G K k y)
      by none e ih m = absurd (Memᴰ.not-nil m)
      by (some x) e ih m = go (Memᴰ.cases_cons m)
        where
          go : (y ≡ x) ⊎ Memᴰ y (firsts_after W G K N n k (some x)) → T (begins W G K k y)
          go (inl q) = rw q (next-listed W G K k N a x e).0.starts
          go (inr j) = ih x j

  cons-ordered : (n x : ℕ) → InOrder W G k (firsts_after W G K N n k (some x)) → InOrder W G k (x ∷ firsts_after W G K N n k (some x))
  unfolding firsts_after onward comes_after
  cons-ordered zero x r = whole.InOrder.single
  cons-ordered (suc n) x r = by (next_first W G K N k (some x)) refl r
    where
      by : (o : Option ℕ) → next_first W G K N k (some x) ≡ o → InOrder W G k (onward o (λ y. y ∷ firsts_after W G K N n k (some y)))
          → InOrder W G k (x ∷ onward o (λ y. y ∷ firsts_after W G K N n k (some y)))
      by none e r = whole.InOrder.single
      by (some y) e r = whole.InOrder.later (next-listed W G K k N (some x) y e).0.follows r

  pub after-ordered : (n : ℕ) (a : Option ℕ) → InOrder W G k (firsts_after W G K N n k a)
  unfolding firsts_after onward
  after-ordered zero a = whole.InOrder.nothing
  after-ordered (suc n) a = by (next_first W G K N k a) (λ x. cons-ordered n x (after-ordered n (some x)))
    where
      by : (o : Option ℕ) → ((x : ℕ) → InOrder W G k (x ∷ firsts_after W G K N n k (some x)))
          → InOrder W G k (onward o (λ x. x ∷ firsts_after W G K N n k (some x)))
      by none ih = whole.InOrder.nothing
      by (some x) ih = ih x
