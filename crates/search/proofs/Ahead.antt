-- What the run along a chain finds: the first lot to the right that has the bit, or that there is none. Assumes the laws of the lots, and links
-- that name members on their side.
use Prim.Native.Nat.{ℕ, zero, suc, ◌≤◌, ◌<◌}
use mathlib.Core.Path.{◌≡◌, refl, subst}
use mathlib.Core.Option.{Option, none, some}
use mathlib.Core.Bool.{Bool, true, false, cond}
use native.Mathlib.Omega.{arith}
use lib.Dec.{T}
use Rattle.base.proofs.Tests.{none-some, true-false}
use Rattle.graph.specs.Side.{right}
use Rattle.graph.specs.Vector.{same_bit, bit}
use Rattle.graph.specs.Graph.{Lots, Links, Laws}
use Rattle.graph.proofs.Shared.{same-eq, eq-same}
use Rattle.graph.proofs.Walk.{Walk, here, there, walk-zero, Sorted}
use Rattle.search.specs.inner.LinkCheck.{ahead, ahead_of}
use Rattle.search.specs.inner.Ordered.{rank}
use Rattle.search.proofs.Ordered.{sorted-ordered, rank_less, rank-bound}

-- the first lot right of u at level k that has bit k as b, or none
pub data FirstWith (W : ℕ) (G : Lots) (L : Links) (k : ℕ) (b : Bool) (u : ℕ) : Option ℕ → Type 0 where
  found : {y j : ℕ} → Walk L k right (suc j) u y → b ≡ bit W k (G.vector y)
      → ((i z : ℕ) → i < j → Walk L k right (suc i) u z → b ≡ bit W k (G.vector z) → ⊥) → FirstWith W G L k b u (some y)
  nowhere : ((i z : ℕ) → Walk L k right (suc i) u z → b ≡ bit W k (G.vector z) → ⊥) → FirstWith W G L k b u none

-- what follows the first link of a walk
walk-tail : {L : Links} {k i u y z : ℕ} → L u k right ≡ some y → Walk L k right (suc i) u z → Walk L k right i y z
walk-tail {L} {k} {i} {u} {y} {z} e (there {y = v} f w) = let q : v ≡ y = cc in subst (λ (a : ℕ). Walk L k right i a z) q w

no-tail : {L : Links} {k i u z : ℕ} → L u k right ≡ none → Walk L k right (suc i) u z → ⊥
no-tail e (there f w) = none-some e f

module _ {W : ℕ} {G : Lots} {L : Links} {k : ℕ} {b : Bool} where
  -- the next lot has not the bit
  past : {u y : ℕ} {o : Option ℕ} → L u k right ≡ some y → (b ≡ bit W k (G.vector y) → ⊥) → FirstWith W G L k b y o
      → FirstWith W G L k b u o
  past {u} {y} e n (found {j = j} w q f) = found (there e w) q (λ i z l v p. by i z l (walk-tail e v) p)
    where
      by : (i z : ℕ) → i < suc j → Walk L k right i y z → b ≡ bit W k (G.vector z) → ⊥
      by zero z l v p = let r = walk-zero v in n (rw r p)
      by (suc i) z l v p = f i z (omega arith) v p
  past {u} {y} e n (nowhere f) = nowhere (λ i z v p. by i z (walk-tail e v) p)
    where
      by : (i z : ℕ) → Walk L k right i y z → b ≡ bit W k (G.vector z) → ⊥
      by zero z v p = let r = walk-zero v in n (rw r p)
      by (suc i) z v p = f i z v p

module _ {N W : ℕ} {G : Lots} {L : Links} (laws : Laws N G) (sorted : Sorted W G L) {k : ℕ} (low : k ≤ W) where
  run-first : (b : Bool) (n u : ℕ) → T (G.member u) → rank N G.member G.number right u ≤ n
      → FirstWith W G L k b u (ahead W G L n k b (L u k right))
  unfolding ahead
  run-first b zero u m r = by (L u k right) refl
    where
      by : (o : Option ℕ) → L u k right ≡ o → FirstWith W G L k b u o
      by none e = nowhere (λ i z w p. no-tail e w)
      by (some y) e = absurd (omega (arith, rank_less (sorted-ordered laws sorted) (sorted.within m low e) (sorted.order m low e)))
  run-first b (suc n) u m r = by (L u k right) refl (λ y e. let i = sorted.within m low e in
      run-first b n y i (omega (arith, rank_less (sorted-ordered laws sorted) i (sorted.order m low e))))
    where
      by : (o : Option ℕ) → L u k right ≡ o
          → ((y : ℕ) → L u k right ≡ some y → FirstWith W G L k b y (ahead W G L n k b (L y k right)))
          → FirstWith W G L k b u (ahead W G L (suc n) k b o)
      by none e on = nowhere (λ i z w p. no-tail e w)
      by (some y) e on = go (same_bit b (bit W k (G.vector y))) refl
        where
          go : (t : Bool) → same_bit b (bit W k (G.vector y)) ≡ t
              → FirstWith W G L k b u (cond t (some y) (ahead W G L n k b (L y k right)))
          go true q = found (there e here) (same-eq b (bit W k (G.vector y)) q) (λ i z l. absurd (omega arith))
          go false q = past e (λ p. true-false (eq-same b (bit W k (G.vector y)) p) q) (on y e)

  pub ahead-first : (x : ℕ) → T (G.member x) → FirstWith W G L k (bit W k (G.vector x)) x (ahead_of N W G L x k)
  ahead-first x m = run-first (bit W k (G.vector x)) N x m (rank-bound N G.member G.number right x)
