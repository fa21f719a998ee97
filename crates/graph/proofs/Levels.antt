-- How Constraints 5 and 6 tie a level to the next: a walk between lots that agree in one bit more is a walk one level up,
-- and a link is a walk one level down, so a walk at level 0. Assumes the constraints.
use Prim.Native.Nat.{ℕ, zero, suc, ◌+◌, ◌≤◌, ◌<◌}
use mathlib.Core.Path.{◌≡◌, refl, subst}
use mathlib.Core.Logic.{◌⊎◌, inl, inr}
use mathlib.Core.Option.{Option, none, some}
use native.Mathlib.Omega.{arith}
use native.Mathlib.Decide.{dec_lt}
use lib.Dec.{T}
use Rattle.graph.specs.Side.{Side}
use Rattle.graph.specs.Vector.{shared}
use Rattle.graph.specs.Graph.{Lots, Links}
use Rattle.graph.specs.Constraints.{iterate, Agree, Constraints}
use Rattle.base.proofs.Tests.{none-some, dec_some}
use Rattle.graph.proofs.Below.{First, first_below}
use Rattle.graph.proofs.Shared.{shared-sym, shared-trans}
use Rattle.graph.proofs.Walk.{Walk, here, there, walk-iterate, iterate-walk, walk-append, walk-zero, walk-rest}
use Rattle.graph.proofs.Walk.{constraints-sorted, distance, walk-length}

module _ (W : ℕ) (G : Lots) (L : Links) where
  -- the iterate of a number of links agrees with x in one bit more
  record Agrees (k x : ℕ) (d : Side) (i : ℕ) : Type 0 where
    lot : ℕ
    iterated : iterate L k d (suc i) x ≡ some lot
    agree : Agree W G k x lot

  dec-agrees : (k x : ℕ) (d : Side) (i : ℕ) → Dec (Agrees k x d i)
  dec-agrees k x d i = by (iterate L k d (suc i) x) refl
    where
      by : (o : Option ℕ) → iterate L k d (suc i) x ≡ o → Dec (Agrees k x d i)
      by none e = no (λ a. none-some e a.iterated)
      by (some z) e = go (dec_lt k (shared W (G.vector x) (G.vector z)))
        where
          go : Dec (Agree W G k x z) → Dec (Agrees k x d i)
          go (yes a) = yes (record { lot = z; iterated = e; agree = a })
          go (no n) = no (λ a. let s = a.iterated in let r : a.lot ≡ z = cc in n (rw r at a.agree))

  -- the link of x one level up, on the way from x to z
  record Up (k x : ℕ) (d : Side) (i z : ℕ) : Type 0 where
    lot : ℕ
    link : L x (suc k) d ≡ some lot
    agree : Agree W G k x lot
    steps : ℕ
    walk : Walk L k d (suc steps) x lot
    left_over : ℕ
    total : suc steps + left_over ≡ suc i
    onward : Walk L k d left_over lot z

module _ {W : ℕ} {G : Lots} {L : Links} (c : Constraints W G L) where
  -- the first on a walk that agrees is the link one level up
  up : {k x i z : ℕ} {d : Side} → T (G.member x) → k < W → Walk L k d (suc i) x z → Agree W G k x z → Up W G L k x d i z
  up {k} {x} {i} {z} {d} m l w a = by (first_below (Agrees W G L k x d) (dec-agrees W G L k x d) (suc i))
    where
      by : First (Agrees W G L k x d) (suc i) ⊎ ((n : ℕ) → n < suc i → Agrees W G L k x d n → ⊥) → Up W G L k x d i z
      by (inr f) = absurd (f i (omega arith) (record { lot = z; iterated = walk-iterate w; agree = a }))
      by (inl f) =
          let h = f.holds in
          let v = iterate-walk (suc f.at) h.iterated in
          let r = walk-rest f.below v w in
          record {
            lot = h.lot;
            link = c.first x k h.lot f.at d m l h.iterated h.agree (λ n y b e g.
                f.before n b (record { lot = y; iterated = e; agree = g }));
            agree = h.agree;
            steps = f.at;
            walk = v;
            left_over = r.0;
            total = r.1;
            onward = r.2;
          }

  climb : (n : ℕ) {k x z : ℕ} {d : Side} (j : ℕ) → j < n → T (G.member x) → k < W → Walk L k d (suc j) x z → Agree W G k x z
      → (i : ℕ) × Walk L (suc k) d (suc i) x z
  climb zero j b m l w a = absurd (omega arith)
  climb (suc n) {k} {x} {z} {d} j b m l w a =
      by u.left_over u.total u.onward (λ i p v. climb n i p (c.within x (suc k) u.lot d m l u.link) l v onward-agree)
    where
      u : Up W G L k x d j z
      u = up m l w a

      onward-agree : Agree W G k u.lot z
      onward-agree = let s = shared-sym W (G.vector u.lot) (G.vector x) in
          shared-trans W (suc k) (G.vector u.lot) (G.vector x) (G.vector z) (rw s u.agree) a

      by : (r : ℕ) → suc u.steps + r ≡ suc j → Walk L k d r u.lot z
          → ((i : ℕ) → i < n → Walk L k d (suc i) u.lot z → (h : ℕ) × Walk L (suc k) d (suc h) u.lot z)
          → (h : ℕ) × Walk L (suc k) d (suc h) x z
      by zero t v ih = (0, subst (Walk L (suc k) d 1 x) (walk-zero v) (there u.link here))
      by (suc r) t v ih = let q = ih r (omega arith) v in (suc q.0, there u.link q.1)

  -- a walk between lots that agree in one bit more is a walk one level up
  pub walk_up : {k j x z : ℕ} {d : Side} → T (G.member x) → k < W → Walk L k d (suc j) x z → Agree W G k x z
      → (i : ℕ) × Walk L (suc k) d (suc i) x z
  walk_up {j = j} m l w a = climb (suc j) j (omega arith) m l w a

  -- it cannot be that a link is no walk one level down to a lot that agrees
  not-not-lower : {k x y : ℕ} {d : Side} → T (G.member x) → k < W → L x (suc k) d ≡ some y
      → ((j : ℕ) → Walk L k d (suc j) x y → Agree W G k x y → ⊥) → ⊥
  not-not-lower {k} {x} {y} {d} m l e f = none-some (c.last x k d m l (λ j i z b q a. below (up m l (iterate-walk (suc i) q) a))) e
    where
      below : {i z : ℕ} → Up W G L k x d i z → ⊥
      below u = let g = u.link in let s : u.lot ≡ y = cc in
          f u.steps (subst (Walk L k d (suc u.steps) x) s u.walk) (rw s at u.agree)

  pub link-agree : {k x y : ℕ} {d : Side} → T (G.member x) → k < W → L x (suc k) d ≡ some y → Agree W G k x y
  link-agree {k} {x} {y} m l e = by (dec_lt k (shared W (G.vector x) (G.vector y)))
    where
      by : Dec (Agree W G k x y) → Agree W G k x y
      by (yes a) = a
      by (no n) = absurd (not-not-lower m l e (λ j w. n))

  -- a link is a walk one level down: it is sought as far as the numbers are apart
  pub link-down : {k x y : ℕ} {d : Side} → T (G.member x) → k < W → L x (suc k) d ≡ some y → (j : ℕ) × Walk L k d (suc j) x y
  link-down {k} {x} {y} {d} m l e = by (first_below Meets (λ j. dec_some (iterate L k d (suc j) x) y) far)
    where
      far : ℕ
      far = distance (G.number x) (G.number y)

      Meets : ℕ → Type 0
      Meets j = iterate L k d (suc j) x ≡ some y

      by : First Meets far ⊎ ((j : ℕ) → j < far → Meets j → ⊥) → (j : ℕ) × Walk L k d (suc j) x y
      by (inl f) = (f.at, iterate-walk (suc f.at) f.holds)
      by (inr n) = absurd (not-not-lower m l e (λ j w a. n j (walk-length (constraints-sorted c) (omega arith) m w) (walk-iterate w)))

  -- a link of a level shares the level's bits
  pub link-bits : (k : ℕ) {x y : ℕ} {d : Side} → T (G.member x) → k ≤ W → L x k d ≡ some y → k ≤ shared W (G.vector x) (G.vector y)
  link-bits zero m l e = omega arith
  link-bits (suc k) m l e = link-agree m l e

  ground : {k : ℕ} {d : Side} → k ≤ W → ((x y : ℕ) → T (G.member x) → L x k d ≡ some y → (i : ℕ) × Walk L 0 d i x y)
      → {j x y : ℕ} → T (G.member x) → Walk L k d j x y → (i : ℕ) × Walk L 0 d i x y
  ground l f m here = (0, here)
  ground {k} {d} l f m (there {x = x} {y = y} e w) =
      let a = f x y m e in let b = ground l f (c.within x k y d m l e) w in (a.0 + b.0, walk-append a.1 b.1)

  -- a link of any level is a walk at level 0
  pub link-ground : (k : ℕ) {x y : ℕ} {d : Side} → T (G.member x) → k ≤ W → L x k d ≡ some y → (i : ℕ) × Walk L 0 d i x y
  link-ground zero m l e = (1, there e here)
  link-ground (suc k) m l e = ground (omega arith) (λ a b n f. link-ground k n (omega arith) f) m (link-down m l e).1
