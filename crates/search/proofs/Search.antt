-- The search as a relation, step by step as code takes it. On ordered links the path that specs/ compute is the one such search: their
-- fuel is enough. Assumes ordered links.
use Prim.Native.Nat.{ℕ, zero, suc, ◌+◌, ◌≤◌, ◌<◌}
use mathlib.Core.Path.{◌≡◌, refl, sym, ◌∙◌, ap}
use mathlib.Core.Option.{some}
use mathlib.Core.List.{List, [], ◌∷◌}
use mathlib.Core.Bool.{Bool}
use native.Mathlib.Omega.{arith}
use lib.Dec.{T}
use lib.ListN.{length}
use Rattle.graph.specs.Side.{Side}
use Rattle.graph.specs.Graph.{Links}
use Rattle.graph.specs.inner.Order.{Lt, to_l, to_r}
use Rattle.search.specs.Walk.{Step, stop, move, drop, step_at, walk, path}
use Rattle.search.specs.inner.Search.{Search, found, moves, drops, ends, gap}
use Rattle.base.proofs.Count.{count-le}
use Rattle.search.specs.inner.Ordered.{Ordered, rank}
use Rattle.search.proofs.Ordered.{rank_less, rank_most}
use Rattle.search.proofs.Step.{Upto, upto_l, upto_r, upto-some, upto-side, Stepped, is_move, at-stepped}

module _ (number : ℕ → ℕ) (L : Links) (x : ℕ) where
  -- the walk after a step
  abbrev rest : (f s k : ℕ) → Step → List ℕ
  rest f s k stop = []
  rest f s k (move y) = y ∷ walk number L x f y k
  rest f s zero drop = []
  rest f s (suc k) drop = walk number L x f s k

  walk_step : (f s k : ℕ) {t : Step} → step_at number L x s k ≡ t → walk number L x (suc f) s k ≡ rest f s k t
  unfolding walk
  walk_step f s k e = by (step_at number L x s k) k ∙ ap (rest f s k) e
    where
      by : (t : Step) (k : ℕ) → elim t as (λ u. List ℕ) [
        | stop ↦ []
        | move y ↦ y ∷ walk number L x f y k
        | drop ↦ elim k as (λ j. List ℕ) [ zero ↦ [] | suc j ↦ walk number L x f s j ]
      ] ≡ rest f s k t
      by stop k = refl
      by (move y) k = refl
      by drop zero = refl
      by drop (suc k) = refl

  -- a search is the walk with more fuel than moves and drops
  search-walk : {s k : ℕ} {p : List ℕ} (f : ℕ) → length p + k < f → Search number L x s k p → walk number L x f s k ≡ p
  search-walk zero l r = absurd (omega arith)
  search-walk (suc f) l (found {s} {k} e) = walk_step f s k e
  search-walk (suc f) l (moves {s} {k} {y} e r) = walk_step f s k e ∙ ap (λ (q : List ℕ). y ∷ q) (search-walk f (omega arith) r)
  search-walk (suc f) l (drops {s} {k} e r) = walk_step f s (suc k) e ∙ search-walk f (omega arith) r
  search-walk (suc f) l (ends {s} e) = walk_step f s 0 e

-- there is one search
pub search-unique : {number : ℕ → ℕ} {L : Links} {x s k : ℕ} {p q : List ℕ} → Search number L x s k p → Search number L x s k q → p ≡ q
search-unique {number} {L} {x} {s} {k} {p} {q} r t =
    let f = suc (length p + length q + k) in
    sym (search-walk number L x f (omega arith) r) ∙ search-walk number L x f (omega arith) t

module _ {N W : ℕ} {seated : ℕ → Bool} {number : ℕ → ℕ} {L : Links} {x : ℕ} (o : Ordered N W seated number L) where
  -- a move goes to a seated lot on the side of x, and not beyond x
  pub move-on : {d : Side} {s k y : ℕ} → T (seated s) → k ≤ W → Upto d (number s) x → step_at number L x s k ≡ move y
      → T (seated y) × Lt number d s y × Upto d (number y) x
  move-on {d} {s} {k} {y} m l u e = by (at-stepped e)
    where
      by : Stepped number L x s k (move y) → T (seated y) × Lt number d s y × Upto d (number y) x
      by (is_move {d = c} b link v) =
          let q = upto-side u b in
          let f : L s k d ≡ some y = rw (← q) link in
          (o.within m l f, o.order m l f, rw q at v)

  -- each move lowers the rank on the side of x, each drop the level
  fueled : (f : ℕ) {d : Side} (s k : ℕ) → T (seated s) → k ≤ W → Upto d (number s) x → rank N seated number d s + k < f
      → Search number L x s k (walk number L x f s k)
  fueled zero s k m l u r = absurd (omega arith)
  fueled (suc f) {d} s k m l u r = by (step_at number L x s k) k refl
      (λ y e. let (n, a, v) = move-on m l u e in fueled f y k n l v (omega (arith, rank_less o n a)))
      (λ j e. fueled f s j m (omega arith) u (omega arith))
    where
      by : (t : Step) (k : ℕ) → step_at number L x s k ≡ t
          → ((y : ℕ) → step_at number L x s k ≡ move y → Search number L x y k (walk number L x f y k))
          → ((j : ℕ) → k ≡ suc j → Search number L x s j (walk number L x f s j)) → Search number L x s k (walk number L x (suc f) s k)
      by stop k e go down = rw (walk_step number L x f s k e) (found e)
      by (move y) k e go down = rw (walk_step number L x f s k e) (moves e (go y e))
      by drop zero e go down = rw (walk_step number L x f s 0 e) (ends e)
      by drop (suc j) e go down = rw (walk_step number L x f s (suc j) e) (drops e (down j refl))

  -- the walk from any level, with fuel for N moves and k drops
  pub walk-search : {s k f : ℕ} → T (seated s) → k ≤ W → N + k < f → Search number L x s k (walk number L x f s k)
  walk-search {s} {k} {f} m l r = let (d, u) = upto-some (number s) x in
      fueled f s k m l u (omega (arith, rank_most o d s m, count-le N seated))

  pub path-search : {s : ℕ} → T (seated s) → Search number L x s W (path number L x N W s)
  unfolding path
  path-search m = walk-search m (omega arith) (omega arith)

  pub search-path : {s : ℕ} {p : List ℕ} → T (seated s) → Search number L x s W p → path number L x N W s ≡ p
  search-path m r = search-unique (path-search m) r

-- a move goes nearer to x
pub move-nearer : {N W : ℕ} {seated : ℕ → Bool} {number : ℕ → ℕ} {L : Links} → Ordered N W seated number L → (x s : ℕ) {k y : ℕ}
    → T (seated s) → k ≤ W → step_at number L x s k ≡ move y → T (seated y) × (gap (number y) x < gap (number s) x)
move-nearer {seated = seated} {number = number} o x s {y = y} m l e =
    let (d, u) = upto-some (number s) x in
    let (n, a, v) = move-on o m l u e in
    (n, by u a v)
  where
    by : {d : Side} → Upto d (number s) x → Lt number d s y → Upto d (number y) x → gap (number y) x < gap (number s) x
    by (upto_l u) (to_l a) (upto_l v) = omega arith
    by (upto_r u) (to_r a) (upto_r v) = omega arith
