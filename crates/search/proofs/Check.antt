-- The check of specs/ says yes exactly if the links are the graph's, so for the components of the links exactly if Constraints 1 to 6 hold.
-- Where it says yes, find names the right holder. Assumes that members sit below N, and for the constraints the laws of the lots.
use Prim.Native.Nat.{ℕ, suc, ◌≤◌, ◌<◌}
use mathlib.Core.Path.{◌≡◌, refl, ap}
use mathlib.Core.Logic.{◌↔◌}
use mathlib.Core.Option.{Option, none, some}
use mathlib.Core.Bool.{Bool, true, not, ◌&&◌, ◌||◌}
use native.Mathlib.Omega.{arith}
use lib.Dec.{T, eqb, eqb→eq, eqb_refl}
use Rattle.graph.specs.Side.{Side, left, right}
use Rattle.graph.specs.Graph.{Lots, Links, Laws, graph, IsGraph}
use Rattle.graph.specs.Constraints.{Constraints}
use Rattle.graph.specs.Components.{by_links}
use Rattle.base.proofs.Tests.{T_true, true-T, and_T, and-fst, and-snd}
use Rattle.graph.proofs.Labels.{theorem-5-links}
use Rattle.base.specs.Loops.{all}
use Rattle.search.specs.Check.{same_link, level_right, check}
use Rattle.search.specs.Walk.{find}
use Rattle.search.proofs.Count.{when-T, T-when, all-passes, passes-all}
use Rattle.search.specs.Right.{RightHolder}
use Rattle.search.proofs.Holder.{find-holder}

pub link-eq : (a b : Option ℕ) → T (same_link a b) → a ≡ b
unfolding same_link
link-eq none none t = refl
link-eq none (some y) t = absurd t
link-eq (some x) none t = absurd t
link-eq (some x) (some y) t = ap some (eqb→eq x y t)

pub eq-link : {a b : Option ℕ} → a ≡ b → T (same_link a b)
unfolding same_link
eq-link {a} {b} e = rw e (by b)
  where
    by : (o : Option ℕ) → T (same_link o o)
    by none = tt
    by (some y) = eqb_refl y

-- a test on both sides
pub both_at : (p : Side → Bool) (d : Side) → T (p left && p right) → T (p d)
both_at p left t = and-fst (p left) (p right) t
both_at p right t = and-snd (p left) (p right) t

pub at_both : (p : Side → Bool) → ((d : Side) → T (p d)) → T (p left && p right)
at_both p h = and_T (p left) (p right) (h left) (h right)

-- a test of every member
pub members-at : (N : ℕ) (member p : ℕ → Bool) → ((x : ℕ) → T (member x) → x < N)
    → T (all N (λ x. not (member x) || p x)) ↔ ((x : ℕ) → T (member x) → T (p x))
members-at N member p seat = (
  (λ t x m. T-when (member x) (p x) (all-passes N (λ x. not (member x) || p x) x (seat x m) t) m),
  (λ h. passes-all N (λ x. not (member x) || p x) (λ x l. when-T (member x) (p x) (h x))),
)

module _ (N W : ℕ) (G : Lots) (L : Links) where
  same_at : (x k : ℕ) → Side → Bool
  same_at x k d = same_link (L x k d) (graph N W G x k d)

  -- the test of a lot, level by level and on both sides
  lot-right : (x : ℕ) → T (all (suc W) (level_right N W G L x)) ↔ ((k : ℕ) (d : Side) → k ≤ W → L x k d ≡ graph N W G x k d)
  unfolding level_right same_at
  lot-right x = (
    (λ t k d l. link-eq (L x k d) (graph N W G x k d) (both_at (same_at x k) d (all-passes (suc W) (level_right N W G L x) k (omega arith) t))),
    (λ h. passes-all (suc W) (level_right N W G L x) (λ k l. at_both (same_at x k) (λ d. eq-link (h k d (omega arith))))),
  )

pub check-graph : {N W : ℕ} {G : Lots} {L : Links} → ((x : ℕ) → T (G.member x) → x < N) → (check N W G L ≡ true) ↔ IsGraph N W G L
unfolding check
check-graph {N} {W} {G} {L} seat =
    let r = members-at N G.member (λ x. all (suc W) (level_right N W G L x)) seat in (
      (λ e. record { link = λ x k d m l. (lot-right N W G L x).0 (r.0 (true-T e) x m) k d l }),
      (λ g. T_true (r.1 (λ x m. (lot-right N W G L x).1 (λ k d l. g.link x k d m l)))),
    )

-- with the components of the links: Constraints 1 to 6, by Theorem 5
pub check-constraints : (N W : ℕ) (G : Lots) (L : Links) → Laws N G → (check N W (by_links N W G L) L ≡ true) ↔ Constraints W G L
check-constraints N W G L laws =
    let (to, back) = check-graph {G = by_links N W G L} laws.seat in
    let (graph, constraints) = theorem-5-links N W G L laws in
    (λ e. constraints (to e), λ c. back (graph c))

-- where the check says yes, the holder is right: of those members of the start's component that stay
pub checked-holder : {N : ℕ} {G : Lots} → Laws N G → (W : ℕ) (L : Links) → check N W G L ≡ true
    → (staying : ℕ → Bool) → ((z : ℕ) → T (staying z) → T (G.member z)) → (x s : ℕ) → T (G.member s)
    → RightHolder (λ z. staying z && eqb (G.component s) (G.component z)) G.number x (find staying G.number L x N W s).holder
checked-holder laws W L e staying within x s m = find-holder laws ((check-graph laws.seat).0 e) staying within x s m
