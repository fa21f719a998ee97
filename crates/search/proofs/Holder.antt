-- On the graph of the members, find names the right holder of those of the start's component that stay. Assumes the laws of the lots, and links
-- that are the graph's.
use Prim.Native.Nat.{ℕ, ◌≤◌, ◌<◌}
use mathlib.Core.Path.{◌≡◌, refl, sym, ap, ◌∙◌, subst}
use mathlib.Core.Logic.{◌↔◌, ◌⊎◌, inl, inr}
use mathlib.Core.Option.{Option, none, some}
use mathlib.Core.List.{List}
use mathlib.Core.Bool.{Bool, true, false, cond, ◌&&◌}
use native.Mathlib.Omega.{arith}
use native.Mathlib.Decide.{ℕ_discrete, dec_lt}
use lib.Dec.{T, eqb, eqb→eq, eqb_refl}
use Rattle.graph.specs.Side.{Side, left}
use Rattle.graph.specs.Graph.{Lots, Links, Laws, IsGraph}
use Rattle.base.proofs.Cases.{true-or-false}
use Rattle.base.proofs.Tests.{T_true, true-T, false-T, true-false, and_T, and-fst, and-snd, none-some, some_inj}
use Rattle.graph.specs.inner.Order.{Lt, to_l, to_r}
use Rattle.graph.proofs.Order.{lt-asym, lt-irr, lt-side}
use Rattle.graph.proofs.Neighbour.{InList, nobody_there, nearest-first, nearest-list}
use Rattle.graph.proofs.SkipGraph.{link-nearest}
use Rattle.search.specs.Walk.{stop, drop, last_of, printable, left_steps, find}
use Rattle.search.specs.Right.{Holds, RightHolder, holds, nobody}
use Rattle.search.proofs.Ordered.{graph-ordered}
use Rattle.search.proofs.Step.{Beyond, Upto, upto_l, upto_r, upto-not, Stepped, is_found, is_past, is_last, at-stepped}
use Rattle.search.specs.inner.Ordered.{Ordered}
use Rattle.search.specs.inner.Search.{Search, found, moves, drops, ends, Leftward, nowhere, arrives, passes}
use Rattle.search.proofs.Search.{path-search}
use Rattle.search.proofs.Hops.{search-seated}
use Rattle.search.proofs.Left.{is-printable, printable-is, stands, goes_left, find-by}

-- none exactly if there is none
pub none-exactly : {sought : ℕ → Bool} {number : ℕ → ℕ} {x : ℕ} {o : Option ℕ} → RightHolder sought number x o
    → (o ≡ none) ↔ ((z : ℕ) → T (sought z) → number z ≤ x → ⊥)
none-exactly (holds {h = h} r) = (λ e. none-some e refl, λ f. absurd (f h r.found r.below))
none-exactly (nobody f) = (λ e. f, λ g. refl)

-- a seat exactly if it is the holder; the numbers of the lots that are sought differ
pub some-exactly : {sought : ℕ → Bool} {number : ℕ → ℕ} {x : ℕ} {o : Option ℕ}
    → ((y z : ℕ) → T (sought y) → T (sought z) → number y ≡ number z → y ≡ z) → RightHolder sought number x o
    → (h : ℕ) → (o ≡ some h) ↔ Holds sought number x h
some-exactly {sought} {number} {x} differ (holds {h = g} r) h = (
  (λ e. subst (Holds sought number x) (some_inj e) r),
  (λ q. ap some (differ g h r.found q.found
      (omega (arith, r.largest h q.found q.below, q.largest g r.found r.below)))),
)
some-exactly differ (nobody f) h = (λ e. none-some refl e, λ q. absurd (f h q.found q.below))

-- where the walk ends x is found, or there is no step more at level 0
pub data End (number : ℕ → ℕ) (L : Links) (x e : ℕ) : Type 0 where
  at_x : number e ≡ x → End number L x e
  at_drop : Stepped number L x e 0 drop → End number L x e

pub search-end : {number : ℕ → ℕ} {L : Links} {x s k : ℕ} {p : List ℕ} → Search number L x s k p → End number L x (last_of s p)
search-end {number} {L} {x} (found {s} {k} e) = by (at-stepped e)
  where
    by : Stepped number L x s k stop → End number L x s
    by (is_found q) = at_x q
search-end (moves e r) = search-end r
search-end (drops e r) = search-end r
search-end (ends e) = at_drop (at-stepped e)

-- its left link does not lie above x
pub end-under : {N W : ℕ} {seated : ℕ → Bool} {number : ℕ → ℕ} {L : Links} → Ordered N W seated number L
    → {x e : ℕ} → T (seated e) → End number L x e → (y : ℕ) → L e 0 left ≡ some y → number y ≤ x
end-under {number = number} {L = L} o {x} {e} m c y f = by (o.order m (omega arith) f) c
  where
    by : Lt number left e y → End number L x e → number y ≤ x
    by (to_l l) (at_x q) = omega arith
    by (to_l l) (at_drop (is_past (to_l b) g (to_l w))) = rw (some_inj (sym f ∙ g)) (omega arith)
    by (to_l l) (at_drop (is_past (to_r b) g w)) = omega arith
    by (to_l l) (at_drop (is_last (to_l b) g)) = none-some g f
    by (to_l l) (at_drop (is_last (to_r b) g)) = omega arith

lt-upto : {number : ℕ → ℕ} {x a z : ℕ} {d : Side} → Lt number d a z → Upto d (number z) x → Beyond d (number a) x
lt-upto {number} {x} {a} (to_l l) (upto_l u) = to_l {x = number a} {y = x} (omega arith)
lt-upto {number} {x} {a} (to_r l) (upto_r u) = to_r {x = number a} {y = x} (omega arith)

module _ {N W : ℕ} {G : Lots} {L : Links} (laws : Laws N G) (g : IsGraph N W G L) (c : ℕ) where
  -- the members of component c
  abbrev inside : ℕ → Bool
  inside z = G.member z && eqb c (G.component z)

  inside-member : (z : ℕ) → T (inside z) → T (G.member z)
  inside-member z m = and-fst (G.member z) (eqb c (G.component z)) m

  inside-label : (z : ℕ) → T (inside z) → c ≡ G.component z
  inside-label z m = eqb→eq c (G.component z) (and-snd (G.member z) (eqb c (G.component z)) m)

  listed : (e z : ℕ) → T (inside e) → T (inside z) → InList W G 0 e z
  listed e z m n = record { member = inside-member z n; same = sym (inside-label e m) ∙ inside-label z n; bits = omega arith }

  -- their links name them again
  link-inside : {x k y : ℕ} {d : Side} → T (inside x) → k ≤ W → L x k d ≡ some y → T (inside y)
  link-inside {x} {y = y} m l e =
      let p = nearest-list (link-nearest laws g (inside-member x m) l e) in
      let same : c ≡ G.component y = inside-label x m ∙ p.same in
      and_T (G.member y) (eqb c (G.component y)) p.member (rw same (eqb_refl (G.component y)))

  o : Ordered N W inside G.number L
  o = let r = graph-ordered laws g in record {
    seat = λ x m. r.seat x (inside-member x m);
    differ = λ x y m n e. r.differ x y (inside-member x m) (inside-member y n) e;
    within = λ m l e. link-inside m l e;
    order = λ {x} m l e. r.order (inside-member x m) l e;
  }

  -- nobody of them lies between the end of the walk and x
  clear : {x e z : ℕ} {d : Side} → T (inside e) → End G.number L x e → T (inside z) → Lt G.number d e z → Upto d (G.number z) x → ⊥
  clear m (at_x q) n l u = lt-irr (rw q at (lt-upto l u))
  clear {e = e} {z = z} {d = d} m (at_drop (is_last {d = b} w f)) n l u =
      let q : b ≡ d = lt-side w (lt-upto l u) in
      nobody_there (link-nearest laws g (inside-member e m) (omega arith) (rw q at f)) z (listed e z m n) l
  clear {x} {e} {z} {d} m (at_drop (is_past {d = b} {y = y} v f w)) n l u =
      by (nearest-first (link-nearest laws g (inside-member e m) (omega arith) (rw q at f)) z (listed e z m n) l)
    where
      q : b ≡ d
      q = lt-side v (lt-upto l u)

      by : (z ≡ y) ⊎ Lt G.number d y z → ⊥
      by (inl r) = upto-not (rw r at u) (rw q at w)
      by (inr t) = lt-asym (lt-upto t u) (rw q at w)

  -- so the end of the walk is not below one of them that is not above x
  end-most : {x e : ℕ} → T (inside e) → End G.number L x e → (z : ℕ) → T (inside z) → G.number z ≤ x → G.number z ≤ G.number e
  end-most {x} {e} m a z n q = by (dec_lt (G.number e) (G.number z))
    where
      by : Dec (G.number e < G.number z) → G.number z ≤ G.number e
      by (yes t) = absurd (clear m a n (to_r t) (upto_r q))
      by (no t) = omega arith

  module _ (staying : ℕ → Bool) (within : (z : ℕ) → T (staying z) → T (G.member z)) (x : ℕ) where
    -- those that are sought: they stay
    abbrev sought : ℕ → Bool
    sought z = staying z && eqb c (G.component z)

    sought-stays : (z : ℕ) → T (sought z) → T (staying z)
    sought-stays z n = and-fst (staying z) (eqb c (G.component z)) n

    sought-inside : (z : ℕ) → T (sought z) → T (inside z)
    sought-inside z n =
        let same = eqb c (G.component z) in
        and_T (G.member z) same (within z (sought-stays z n)) (and-snd (staying z) same n)

    inside-sought : (z : ℕ) → T (inside z) → staying z ≡ true → T (sought z)
    inside-sought z m e = let same = eqb c (G.component z) in and_T (staying z) same (true-T e) (and-snd (G.member z) same m)

    -- all that are not above x lie left of s
    abbrev AllLeft : ℕ → Type 0
    AllLeft s = (z : ℕ) → T (sought z) → G.number z ≤ x → G.number z < G.number s

    abbrev prints : ℕ → Bool
    prints = printable staying G.number x

    -- the lot h if it may be printed
    abbrev printed : ℕ → Option ℕ
    printed h = cond (prints h) (some h) none

    not-printable : {s : ℕ} → staying s ≡ false → prints s ≡ false
    unfolding printable
    not-printable e = rw e

    -- of such a lot the left link: each of them is it, or lies left of it
    link-next : {s y : ℕ} → T (inside s) → AllLeft s → L s 0 left ≡ some y → (z : ℕ) → T (sought z) → G.number z ≤ x
        → (z ≡ y) ⊎ Lt G.number left y z
    link-next {s} m all e z n q =
        nearest-first (link-nearest laws g (inside-member s m) (omega arith) e) z (listed s z m (sought-inside z n)) (to_l (all z n q))

    -- from such a lot, if its left link is not above x, the left steps lead to the right answer
    left-holder : (s : ℕ) {o : Option ℕ} {p : List ℕ} → T (inside s) → AllLeft s → ((y : ℕ) → L s 0 left ≡ some y → G.number y ≤ x)
        → prints s ≡ false → L s 0 left ≡ o → Leftward staying L o p
        → RightHolder sought G.number x (printed (last_of s p))
    left-holder s m all under t e nowhere = rw t (nobody (λ z n q.
        nobody_there (link-nearest laws g {k = 0} (inside-member s m) (omega arith) e) z (listed s z m (sought-inside z n)) (to_l (all z n q))))
    left-holder s m all under t e (arrives {y} q) = rw (is-printable staying G.number x y q (under y e)) (holds (record {
      found = inside-sought y (link-inside m (omega arith) e) q;
      below = under y e;
      largest = λ z n l. by z (link-next m all e z n l);
    }))
      where
        by : (z : ℕ) → (z ≡ y) ⊎ Lt G.number left y z → G.number z ≤ G.number y
        by z (inl r) = rw r (omega arith)
        by z (inr (to_l r)) = omega arith
    left-holder s m all under t e (passes {y} q r) =
        left-holder y n (λ z k l. by z k (link-next m all e z k l)) (λ z f. below z (o.order n (omega arith) f)) (not-printable q) refl r
      where
        n : T (inside y)
        n = link-inside m (omega arith) e

        by : (z : ℕ) → T (sought z) → (z ≡ y) ⊎ Lt G.number left y z → G.number z < G.number y
        by z k (inl w) = false-T q (rw w at (sought-stays z k))
        by z k (inr (to_l w)) = w

        below : (z : ℕ) → Lt G.number left y z → G.number z ≤ x
        below z (to_l w) = omega (arith, under y e)

    -- from the end of the walk
    end-holder : {e : ℕ} → T (inside e) → End G.number L x e
        → RightHolder sought G.number x (printed (last_of e (left_steps staying G.number L x N e)))
    end-holder {e} m a = by (true-or-false (prints e))
      where
        most : (z : ℕ) → T (sought z) → G.number z ≤ x → G.number z ≤ G.number e
        most z n l = end-most m a z (sought-inside z n) l

        all : prints e ≡ false → AllLeft e
        all t z n l = apart (ℕ_discrete (G.number z) (G.number e))
          where
            apart : Dec (G.number z ≡ G.number e) → G.number z < G.number e
            apart (yes w) =
                let u : T (staying e) = rw (← o.differ z e (sought-inside z n) m w) (sought-stays z n) in
                true-false (is-printable staying G.number x e (T_true u) (rw (← w) l)) t
            apart (no w) = omega (arith, most z n l)

        by : (prints e ≡ true) ⊎ (prints e ≡ false) → RightHolder sought G.number x (printed (last_of e (left_steps staying G.number L x N e)))
        by (inl t) = let (u, v) = printable-is staying G.number x e t in
            rw (stands o staying x e m t, t) (holds (record { found = inside-sought e m u; below = v; largest = most }))
        by (inr t) = left-holder e m (all t) (end-under o m a) t refl (goes_left o staying x e m t)

    inside-holder : (s : ℕ) → T (inside s) → RightHolder sought G.number x (find staying G.number L x N W s).holder
    inside-holder s m =
        let r = path-search {x = x} o m in
        rw (find-by staying G.number L x N W s refl refl) (end-holder (search-seated o m (omega arith) r) (search-end r))

-- the answer of find is the right one: of those that stay in the component of s
pub find-holder : {N W : ℕ} {G : Lots} {L : Links} → Laws N G → IsGraph N W G L
    → (staying : ℕ → Bool) → ((z : ℕ) → T (staying z) → T (G.member z)) → (x s : ℕ) → T (G.member s)
    → RightHolder (λ z. staying z && eqb (G.component s) (G.component z)) G.number x (find staying G.number L x N W s).holder
find-holder {G = G} laws g staying within x s m = let c = G.component s in
    inside-holder laws g c staying within x s (and_T (G.member s) (eqb c c) m (eqb_refl c))
