-- The lots of a walk: each lies beyond the one before it and none beyond x. So none comes twice, all lie between the start and x, and there
-- are fewer moves than seated lots. Assumes ordered links.
use Prim.Native.Nat.{ℕ, ◌+◌, ◌≤◌, ◌<◌}
use mathlib.Core.Path.{◌≡◌, sym}
use mathlib.Core.Logic.{◌⊎◌, inl, inr}
use mathlib.Core.List.Memᴰ
use mathlib.Core.List.{List, [], ◌∷◌, Memᴰ}
use mathlib.Core.Bool.{Bool}
use native.Mathlib.Omega.{arith}
use lib.Dec.{T}
use lib.ListN.{length}
use Rattle.graph.specs.Side.{Side}
use Rattle.graph.specs.Graph.{Links}
use Rattle.graph.specs.inner.Order.{Lt, to_l, to_r}
use Rattle.graph.proofs.Order.{lt_trans, lt-irr, lt-eq}
use Rattle.search.specs.Walk.{last_of, path}
use Rattle.search.specs.Right.{Once, nothing, new, Between}
use Rattle.base.specs.Loops.{count}
use Rattle.search.specs.inner.Ordered.{Ordered, rank}
use Rattle.search.proofs.Ordered.{rank_less, rank_most}
use Rattle.search.proofs.Step.{Upto, upto_l, upto_r, upto-some}
use Rattle.search.specs.inner.Search.{Search, found, moves, drops, ends}
use Rattle.search.proofs.Search.{move-on, path-search}

-- seated lots, each on side d of the one before it, the first of s, and none beyond the number x
pub data Toward (seated : ℕ → Bool) (number : ℕ → ℕ) (x : ℕ) (d : Side) : (s : ℕ) → List ℕ → Type 0 where
  stay : {s : ℕ} → Toward seated number x d s []
  onward : {s y : ℕ} {p : List ℕ} → T (seated y) → Lt number d s y → Upto d (number y) x → Toward seated number x d y p
      → Toward seated number x d s (y ∷ p)

module _ {seated : ℕ → Bool} {number : ℕ → ℕ} {x : ℕ} {d : Side} where
  pub toward-last : {s : ℕ} {p : List ℕ} → T (seated s) → Toward seated number x d s p → T (seated (last_of s p))
  toward-last m stay = m
  toward-last m (onward n l u c) = toward-last n c

  pub toward-at : {s z : ℕ} {p : List ℕ} → Toward seated number x d s p → Memᴰ z p → Lt number d s z × Upto d (number z) x
  toward-at stay i = absurd (Memᴰ.not-nil i)
  toward-at {s} {z} (onward {y = y} {p = p} n l u c) i = by (Memᴰ.cases_cons i) (λ j. toward-at c j)
    where
      by : (z ≡ y) ⊎ Memᴰ z p → (Memᴰ z p → Lt number d y z × Upto d (number z) x) → Lt number d s z × Upto d (number z) x
      by (inl e) f = (lt-eq l (sym e), rw e u)
      by (inr j) f = (lt_trans l (f j).0, (f j).1)

  pub toward-once : {s : ℕ} {p : List ℕ} → Toward seated number x d s p → Once (s ∷ p)
  toward-once stay = new (λ i. Memᴰ.not-nil i) nothing
  toward-once (onward n l u c) = new (λ i. lt-irr (toward-at (onward n l u c) i).0) (toward-once c)

  toward-between : {s z : ℕ} {p : List ℕ} → Upto d (number s) x → Toward seated number x d s p → Memᴰ z (s ∷ p)
      → Between (number s) x (number z)
  toward-between {s} {z} {p} u c i = by (Memᴰ.cases_cons i)
    where
      on : {d : Side} → Lt number d s z → Upto d (number z) x → Between (number s) x (number z)
      on (to_l l) (upto_l v) = omega arith
      on (to_r l) (upto_r v) = omega arith

      by : (z ≡ s) ⊎ Memᴰ z p → Between (number s) x (number z)
      by (inl e) = rw e (omega arith)
      by (inr j) = on (toward-at c j).0 (toward-at c j).1

module _ {N W : ℕ} {seated : ℕ → Bool} {number : ℕ → ℕ} {L : Links} {x : ℕ} (o : Ordered N W seated number L) where
  pub toward-rank : {d : Side} {s : ℕ} {p : List ℕ} → Toward seated number x d s p
      → length p + rank N seated number d (last_of s p) ≤ rank N seated number d s
  toward-rank stay = omega arith
  toward-rank (onward n l u c) = omega (arith, rank_less o n l, toward-rank c)

  -- the walk goes to one side, toward x
  pub search-toward : {d : Side} {s k : ℕ} {p : List ℕ} → T (seated s) → k ≤ W → Upto d (number s) x → Search number L x s k p
      → Toward seated number x d s p
  search-toward m l u (found e) = stay
  search-toward m l u (moves e r) = let (n, a, v) = move-on o m l u e in onward n a v (search-toward n l v r)
  search-toward m l u (drops e r) = search-toward m (omega arith) u r
  search-toward m l u (ends e) = stay

  pub search-seated : {s k : ℕ} {p : List ℕ} → T (seated s) → k ≤ W → Search number L x s k p → T (seated (last_of s p))
  search-seated {s} m l r = toward-last m (search-toward m l (upto-some (number s) x).1 r)

  pub search-once : {s k : ℕ} {p : List ℕ} → T (seated s) → k ≤ W → Search number L x s k p → Once (s ∷ p)
  search-once {s} m l r = toward-once (search-toward m l (upto-some (number s) x).1 r)

  pub search-between : {s k z : ℕ} {p : List ℕ} → T (seated s) → k ≤ W → Search number L x s k p → Memᴰ z (s ∷ p)
      → Between (number s) x (number z)
  search-between {s} m l r i = let (d, u) = upto-some (number s) x in toward-between u (search-toward m l u r) i

  pub search-hops : {s k : ℕ} {p : List ℕ} → T (seated s) → k ≤ W → Search number L x s k p → length p < count N seated
  search-hops {s} m l r = let (d, u) = upto-some (number s) x in
      omega (arith, toward-rank (search-toward m l u r), rank_most o d s m)

-- the same of the path of specs/
module _ {N W : ℕ} {seated : ℕ → Bool} {number : ℕ → ℕ} {L : Links} (o : Ordered N W seated number L) (x s : ℕ) (m : T (seated s)) where
  pub path-once : Once (s ∷ path number L x N W s)
  path-once = search-once {x = x} o m (omega arith) (path-search o m)

  pub path-between : {z : ℕ} → Memᴰ z (s ∷ path number L x N W s) → Between (number s) x (number z)
  path-between i = search-between o m (omega arith) (path-search o m) i

  pub path-hops : length (path number L x N W s) < count N seated
  path-hops = search-hops {x = x} o m (omega arith) (path-search o m)
