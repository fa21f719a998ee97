-- What the tests of the link check say of the links, test by test. Assumes that members sit below N.
use Prim.Native.Nat.{ℕ, suc, ◌≤◌, ◌<◌}
use mathlib.Core.Path.{◌≡◌, refl}
use mathlib.Core.Logic.{◌↔◌}
use mathlib.Core.Option.{Option, none, some}
use mathlib.Core.Bool.{◌&&◌}
use native.Mathlib.Omega.{arith}
use lib.Dec.{T}
use Rattle.base.specs.Loops.{all}
use Rattle.base.proofs.Tests.{and_T, and-fst, and-snd}
use Rattle.graph.specs.Side.{Side, right, opp}
use Rattle.graph.specs.Graph.{Lots, Links}
use Rattle.search.specs.Check.{same_link}
use Rattle.search.specs.inner.LinkCheck.{back_of, backs_ok, ahead_of, above_ok, lot_backs, lot_aboves, constraints_ok}
use Rattle.search.proofs.Count.{all-passes, passes-all}
use Rattle.search.proofs.Check.{link-eq, eq-link, both_at, at_both, members-at}

-- the links of members name members, and have their links back
pub record Backs (W : ℕ) (G : Lots) (L : Links) : Type 0 where
  pub within : (x k y : ℕ) (d : Side) → T (G.member x) → k ≤ W → L x k d ≡ some y → T (G.member y)
  pub back : (x k y : ℕ) (d : Side) → T (G.member x) → k ≤ W → L x k d ≡ some y → L y k (opp d) ≡ some x

-- above level 0 their right links are the lots that the run finds
abbrev pub Aboves : (N W : ℕ) → Lots → Links → Type 0
Aboves N W G L = (x k : ℕ) → T (G.member x) → k < W → L x (suc k) right ≡ ahead_of N W G L x k

module _ (G : Lots) (L : Links) where
  back_at : (x k y : ℕ) (d : Side) → T (back_of G L x k d (L x k d)) → L x k d ≡ some y → T (G.member y) × (L y k (opp d) ≡ some x)
  unfolding back_of
  back_at x k y d t e =
      let b = same_link (L y k (opp d)) (some x) in
      let u : T (G.member y && b) = rw e at t in
      (and-fst (G.member y) b u, link-eq (L y k (opp d)) (some x) (and-snd (G.member y) b u))

  at_back : (x k : ℕ) (d : Side) → ((y : ℕ) → L x k d ≡ some y → T (G.member y) × (L y k (opp d) ≡ some x)) → T (back_of G L x k d (L x k d))
  unfolding back_of
  at_back x k d h = by (L x k d) refl
    where
      by : (o : Option ℕ) → L x k d ≡ o → T (back_of G L x k d o)
      by none e = tt
      by (some y) e = let (m, b) = h y e in and_T (G.member y) (same_link (L y k (opp d)) (some x)) m (eq-link b)

  -- the test of both sides
  backs-at : (x k : ℕ) → T (backs_ok G L x k) → (d : Side) → T (back_of G L x k d (L x k d))
  unfolding backs_ok
  backs-at x k t d = both_at (λ d. back_of G L x k d (L x k d)) d t

  at-backs : (x k : ℕ) → ((d : Side) → T (back_of G L x k d (L x k d))) → T (backs_ok G L x k)
  unfolding backs_ok
  at-backs x k h = at_both (λ d. back_of G L x k d (L x k d)) h

module _ (N W : ℕ) (G : Lots) (L : Links) (seat : (x : ℕ) → T (G.member x) → x < N) where
  -- the links back, of all members at all levels
  all-backs : T (all N (lot_backs W G L)) ↔ Backs W G L
  unfolding lot_backs
  all-backs = let (to, from) = members-at N G.member (λ x. all (suc W) (backs_ok G L x)) seat in (
    (λ t. let at : (x k : ℕ) → T (G.member x) → k ≤ W → T (backs_ok G L x k) =
        λ x k m l. all-passes (suc W) (backs_ok G L x) k (omega arith) (to t x m) in
        record {
          within = λ x k y d m l e. (back_at G L x k y d (backs-at G L x k (at x k m l) d) e).0;
          back = λ x k y d m l e. (back_at G L x k y d (backs-at G L x k (at x k m l) d) e).1;
        }),
    (λ b. from (λ x m. passes-all (suc W) (backs_ok G L x) (λ k l. at-backs G L x k (λ d.
        at_back G L x k d (λ y e. (b.within x k y d m (omega arith) e, b.back x k y d m (omega arith) e)))))),
  )

  -- the right links above level 0
  all-aboves : T (all N (lot_aboves N W G L)) ↔ Aboves N W G L
  unfolding lot_aboves above_ok
  all-aboves = let (to, from) = members-at N G.member (λ x. all W (above_ok N W G L x)) seat in (
    (λ t x k m l. link-eq (L x (suc k) right) (ahead_of N W G L x k) (all-passes W (above_ok N W G L x) k l (to t x m))),
    (λ h. from (λ x m. passes-all W (above_ok N W G L x) (λ k l. eq-link (h x k m l)))),
  )

  pub tests-say : T (constraints_ok N W G L) ↔ (Backs W G L × Aboves N W G L)
  unfolding constraints_ok
  tests-say = let b = all N (lot_backs W G L) in let a = all N (lot_aboves N W G L) in (
    (λ t. (all-backs.0 (and-fst b a t), all-aboves.0 (and-snd b a t))),
    (λ h. and_T b a (all-backs.1 h.0) (all-aboves.1 h.1)),
  )
