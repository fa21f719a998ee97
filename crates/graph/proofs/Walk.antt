-- Iterated links as walks of a given length. Along sorted links a walk keeps to members and to its side,
-- and is no longer than the numbers are apart. Assumes what each law names.
use Prim.Native.Nat.{ℕ, zero, suc, ◌+◌, ◌-◌, ◌≤◌, ◌<◌}
use mathlib.Core.Path.{◌≡◌, refl, subst}
use mathlib.Core.Logic.{◌⊎◌, inl, inr}
use mathlib.Core.Option.{Option, none, some}
use native.Mathlib.Omega.{arith}
use lib.Dec.{T}
use Rattle.graph.specs.Side.{Side, opp}
use Rattle.graph.specs.Graph.{Lots, Links}
use Rattle.graph.specs.Constraints.{next, iterate, Constraints}
use Rattle.base.proofs.Tests.{some_inj, none-some}
use Rattle.graph.specs.inner.Order.{Lt, to_l, to_r}
use Rattle.graph.proofs.Order.{lt_trans, on-lt}

-- j links of level k on side d, from one lot to another
pub data Walk (L : Links) (k : ℕ) (d : Side) : ℕ → ℕ → ℕ → Type 0 where
  here : {x : ℕ} → Walk L k d 0 x x
  there : {j x y z : ℕ} → L x k d ≡ some y → Walk L k d j y z → Walk L k d (suc j) x z

module _ {L : Links} {k : ℕ} {d : Side} where
  pub walk-iterate : {j x z : ℕ} → Walk L k d j x z → iterate L k d j x ≡ some z
  unfolding iterate next
  walk-iterate here = refl
  walk-iterate (there e w) = rw e (walk-iterate w)

  pub iterate-walk : (j : ℕ) {x z : ℕ} → iterate L k d j x ≡ some z → Walk L k d j x z
  unfolding iterate next
  iterate-walk zero {x} e = subst (Walk L k d 0 x) (some_inj e) here
  iterate-walk (suc j) {x} {z} e = by (L x k d) refl e (λ y f. iterate-walk j f)
    where
      by : (o : Option ℕ) → L x k d ≡ o → next o (iterate L k d j) ≡ some z
          → ((y : ℕ) → iterate L k d j y ≡ some z → Walk L k d j y z) → Walk L k d (suc j) x z
      by none f q ih = none-some refl q
      by (some y) f q ih = there f (ih y q)

  pub walk-append : {i j x y z : ℕ} → Walk L k d i x y → Walk L k d j y z → Walk L k d (i + j) x z
  walk-append {j = j} {x = x} {z = z} here v = let e : j ≡ 0 + j = omega arith in subst (λ (n : ℕ). Walk L k d n x z) e v
  walk-append {j = j} {x = x} {z = z} (there {j = i} e w) v = let f : suc (i + j) ≡ suc i + j = omega arith in
      subst (λ (n : ℕ). Walk L k d n x z) f (there e (walk-append w v))

  pub walk-snoc : {j x y z : ℕ} → Walk L k d j x y → L y k d ≡ some z → Walk L k d (suc j) x z
  walk-snoc here e = there e here
  walk-snoc (there f w) e = there f (walk-snoc w e)

  pub walk-zero : {x y : ℕ} → Walk L k d 0 x y → x ≡ y
  walk-zero here = refl

  -- of two walks from one lot the longer goes on where the shorter ends
  pub walk-rest : {i j x y z : ℕ} → i ≤ j → Walk L k d i x y → Walk L k d j x z → (n : ℕ) × (i + n ≡ j) × Walk L k d n y z
  walk-rest {j = j} l here v = (j, omega arith, v)
  walk-rest l (there e w) here = absurd (omega arith)
  walk-rest l (there {y = u} e w) (there {j = j} {y = v} {z = z} f q) =
      let s : v ≡ u = cc in
      let r = walk-rest (omega arith) w (subst (λ (a : ℕ). Walk L k d j a z) s q) in
      (r.0, omega (arith, r.1), r.2)

-- links name members and lie on their side
pub record Sorted (W : ℕ) (G : Lots) (L : Links) : Type 0 where
  pub within : {x k y : ℕ} {d : Side} → T (G.member x) → k ≤ W → L x k d ≡ some y → T (G.member y)
  pub order : {x k y : ℕ} {d : Side} → T (G.member x) → k ≤ W → L x k d ≡ some y → Lt G.number d x y

pub constraints-sorted : {W : ℕ} {G : Lots} {L : Links} → Constraints W G L → Sorted W G L
constraints-sorted {G = G} c = record {
  within = λ {x} {k} {y} {d} m l e. c.within x k y d m l e;
  order = λ {x} {k} {y} {d} m l e. on-lt G.number d x y (c.order x k y d m l e);
}

-- how far two numbers are apart
pub distance : ℕ → ℕ → ℕ
distance a b = (a - b) + (b - a)

pub distance-less : {num : ℕ → ℕ} {d : Side} {x y z : ℕ} → Lt num d x y → (z ≡ y) ⊎ Lt num d y z
    → distance (num y) (num z) < distance (num x) (num z)
unfolding distance
distance-less (to_l p) (inl e) = rw e (omega arith)
distance-less (to_r p) (inl e) = rw e (omega arith)
distance-less (to_l p) (inr (to_l q)) = omega arith
distance-less (to_r p) (inr (to_r q)) = omega arith

module _ {W : ℕ} {G : Lots} {L : Links} (sorted : Sorted W G L) {k : ℕ} (l : k ≤ W) {d : Side} where
  pub walk-member : {j x z : ℕ} → T (G.member x) → Walk L k d j x z → T (G.member z)
  walk-member m here = m
  walk-member m (there e w) = walk-member (sorted.within m l e) w

  pub walk-order : {j x z : ℕ} → T (G.member x) → Walk L k d (suc j) x z → Lt G.number d x z
  walk-order m (there e here) = sorted.order m l e
  walk-order m (there e (there f w)) = lt_trans (sorted.order m l e) (walk-order (sorted.within m l e) (there f w))

  pub walk-beyond : {j x z : ℕ} → T (G.member x) → Walk L k d j x z → (z ≡ x) ⊎ Lt G.number d x z
  walk-beyond m here = inl refl
  walk-beyond m (there e w) = inr (walk-order m (there e w))

  pub walk-length : {j x z : ℕ} → T (G.member x) → Walk L k d j x z → j ≤ distance (G.number x) (G.number z)
  walk-length m here = omega arith
  walk-length m (there e w) = let n = sorted.within m l e in
      omega (arith, walk-length n w, distance-less (sorted.order m l e) (walk-beyond n w))

-- the way back
pub walk-reverse : {W k : ℕ} {G : Lots} {L : Links} {d : Side} {j x z : ℕ} → Constraints W G L → k ≤ W → T (G.member x)
    → Walk L k d j x z → Walk L k (opp d) j z x
walk-reverse c l m here = here
walk-reverse {k = k} {d = d} c l m (there {x = x} {y = y} e w) =
    walk-snoc (walk-reverse c l (c.within x k y d m l e) w) (c.back x k y d m l e)
