-- The labels that are computed from the links are the connected components, so that Theorem 5 of document 000 holds with them. Assumes that
-- members sit below N, and for Theorem 5 the laws of the lots.
use Prim.Native.Nat.{ℕ, zero, suc, ◌≤◌, ◌<◌}
use mathlib.Core.Path.{◌≡◌, refl, sym, ap, subst}
use mathlib.Core.Logic.{◌↔◌, ◌⊎◌, ⊎_elim, inl, inr}
use mathlib.Core.Option.{Option, none, some}
use mathlib.Core.Bool.{Bool, true, false, ◌&&◌, ◌||◌}
use native.Mathlib.Omega.{arith}
use native.Mathlib.Decide.{ℕ_discrete}
use lib.Dec.{T, eqb, eqb→eq, eqb_refl}
use Rattle.base.specs.Loops.{first_from}
use Rattle.base.proofs.Tests.{T_true, true-T, and_T, and-fst, and-snd, or_cases, or_left, or_right, false-T}
use Rattle.base.proofs.Cases.{same_test, lt-or-ge}
use Rattle.base.proofs.Any.{any-in, any_out, any_same}
use Rattle.base.proofs.First.{first, first-same}
use Rattle.graph.specs.Side.{Side, left, right}
use Rattle.graph.specs.Graph.{Lots, Links, IsGraph, Laws}
use Rattle.graph.specs.Constraints.{Node, Constraints, Joined, same, linked, turned, through, Labels}
use Rattle.graph.specs.Components.{names, links_to, linked_with, joined_below, component_of, by_links}
use Rattle.graph.proofs.Components.{joined-member, theorem-5}

names-some : (o : Option ℕ) (y : ℕ) → T (names o y) → o ≡ some y
unfolding names
names-some none y t = absurd t
names-some (some z) y t = ap some (eqb→eq z y t)

some-names : {o : Option ℕ} {y : ℕ} → o ≡ some y → T (names o y)
unfolding names
some-names {y = y} e = rw e (eqb_refl y)

module _ (W : ℕ) (member : ℕ → Bool) (L : Links) where
  link-to : {x y k : ℕ} (d : Side) → k ≤ W → L x k d ≡ some y → T (links_to W member L x y)
  unfolding links_to
  link-to {x} {y} {k} d l e = any-in (suc W) (λ i. names (L x i left) y || names (L x i right) y) k (omega arith) (by d e)
    where
      by : (d : Side) → L x k d ≡ some y → T (names (L x k left) y || names (L x k right) y)
      by left f = or_left (names (L x k left) y) (names (L x k right) y) (some-names f)
      by right f = or_right (names (L x k left) y) (names (L x k right) y) (some-names f)

  to-link : (x y : ℕ) → T (links_to W member L x y) → (k : ℕ) × (d : Side) × (k ≤ W) × (L x k d ≡ some y)
  unfolding links_to
  to-link x y t = let (k, l, u) = any_out (suc W) (λ i. names (L x i left) y || names (L x i right) y) t in
      ⊎_elim
      (λ n. (k, left, omega arith, names-some (L x k left) y n))
      (λ n. (k, right, omega arith, names-some (L x k right) y n))
      (or_cases (names (L x k left) y) (names (L x k right) y) u)

  -- two nodes, and a link of one to the other
  with-linked : (x y : ℕ) → T (linked_with W member L x y)
      ↔ ((T (member x) × T (member y)) × (T (links_to W member L x y) ⊎ T (links_to W member L y x)))
  unfolding linked_with
  with-linked x y =
      let m = member x && member y in
      let to = links_to W member L x y in
      let from = links_to W member L y x in (
        (λ t. let n = and-fst m (to || from) t in
            ((and-fst (member x) (member y) n, and-snd (member x) (member y) n), or_cases to from (and-snd m (to || from) t))),
        (λ p. and_T m (to || from) (and_T (member x) (member y) p.0.0 p.0.1) (⊎_elim (or_left to from) (or_right to from) p.1)),
      )

  with-sym : (x y : ℕ) → T (linked_with W member L x y) → T (linked_with W member L y x)
  with-sym x y t = let ((m, n), h) = (with-linked x y).0 t in (with-linked y x).1 ((n, m), ⊎_elim (λ u. inr u) (λ u. inl u) h)

  -- joined through nodes below n, step by step
  abbrev Below : (n x y : ℕ) → Type 0
  Below n x y = T (joined_below W member L n x y)

  none_below : (x y : ℕ) → Below 0 x y ↔ ((x ≡ y) ⊎ T (linked_with W member L x y))
  unfolding joined_below
  none_below x y = (
    (λ t. ⊎_elim (λ e. inl (eqb→eq x y e)) (λ u. inr u) (or_cases (eqb x y) (linked_with W member L x y) t)),
    ⊎_elim
        (λ e. or_left (eqb x y) (linked_with W member L x y) (rw e (eqb_refl y)))
        (λ u. or_right (eqb x y) (linked_with W member L x y) u),
  )

  more-below : (n x y : ℕ) → Below (suc n) x y ↔ (Below n x y ⊎ (Below n x n × Below n n y))
  unfolding joined_below
  more-below n x y =
      let direct = joined_below W member L n x y in
      let to = joined_below W member L n x n in
      let from = joined_below W member L n n y in (
        (λ t. ⊎_elim (λ u. inl u) (λ u. inr (and-fst to from u, and-snd to from u)) (or_cases direct (to && from) t)),
        ⊎_elim (λ u. or_left direct (to && from) u) (λ p. or_right direct (to && from) (and_T to from p.0 p.1)),
      )

  with-below : (n x y : ℕ) → (x ≡ y) ⊎ T (linked_with W member L x y) → Below n x y
  with-below zero x y h = (none_below x y).1 h
  with-below (suc n) x y h = (more-below n x y).1 (inl (with-below n x y h))

  below-refl : (n x : ℕ) → Below n x x
  below-refl n x = with-below n x x (inl refl)

  below-sym : (n x y : ℕ) → Below n x y → Below n y x
  below-sym zero x y t = (none_below y x).1 (⊎_elim (λ e. inl (sym e)) (λ u. inr (with-sym x y u)) ((none_below x y).0 t))
  below-sym (suc n) x y t = (more-below n y x).1
      (⊎_elim (λ u. inl (below-sym n x y u)) (λ p. inr (below-sym n n y p.1, below-sym n x n p.0)) ((more-below n x y).0 t))

  -- to the seat that came last there is nothing new
  below_last : (n x : ℕ) → Below (suc n) x n → Below n x n
  below_last n x t = ⊎_elim (λ u. u) (λ p. p.0) ((more-below n x n).0 t)

  below-through : (n x z y : ℕ) → z < n → Below n x z → Below n z y → Below n x y
  below-through zero x z y l s t = absurd (omega arith)
  below-through (suc n) x z y l s t = by (ℕ_discrete z n) (λ a b h. below-through n a z b h)
    where
      last : z ≡ n → Below n x n × Below n n y
      last e =
          let u : Below (suc n) x n = subst (λ (i : ℕ). Below (suc n) x i) e s in
          let v : Below (suc n) n y = subst (λ (i : ℕ). Below (suc n) i y) e t in
          (below_last n x u, below-sym n y n (below_last n y (below-sym (suc n) n y v)))

      four : ((a b : ℕ) → Below n a z → Below n z b → Below n a b) → Below n x z ⊎ (Below n x n × Below n n z)
          → Below n z y ⊎ (Below n z n × Below n n y) → Below n x y ⊎ (Below n x n × Below n n y)
      four on (inl a) (inl c) = inl (on x y a c)
      four on (inl a) (inr d) = inr (on x n a d.0, d.1)
      four on (inr b) (inl c) = inr (b.0, on n y b.1 c)
      four on (inr b) (inr d) = inr (b.0, d.1)

      by : Dec (z ≡ n) → ((a b : ℕ) → z < n → Below n a z → Below n z b → Below n a b) → Below (suc n) x y
      by (yes e) on = (more-below n x y).1 (inr (last e))
      by (no e) on = (more-below n x y).1 (four (λ a b. on a b (omega arith)) ((more-below n x z).0 s) ((more-below n z y).0 t))

-- links that are the same for every node, at every level, give the same labels
module _ (W : ℕ) (member : ℕ → Bool) (L M : Links) (agree : (x k : ℕ) (d : Side) → T (member x) → k ≤ W → L x k d ≡ M x k d) where
  to_same : (x y : ℕ) → T (member x) → links_to W member L x y ≡ links_to W member M x y
  unfolding links_to
  to_same x y m = any_same (suc W) (λ k. names (L x k left) y || names (L x k right) y) (λ k. names (M x k left) y || names (M x k right) y) (λ k l.
      rw (agree x k left m (omega arith), agree x k right m (omega arith)))

  with-same : (x y : ℕ) → linked_with W member L x y ≡ linked_with W member M x y
  unfolding linked_with
  with-same x y = by (member x) (member y) (to_same x y) (to_same y x)
    where
      by : (a b : Bool) → (T a → links_to W member L x y ≡ links_to W member M x y) → (T b → links_to W member L y x ≡ links_to W member M y x)
          → (a && b) && (links_to W member L x y || links_to W member L y x) ≡ (a && b) && (links_to W member M x y || links_to W member M y x)
      by true true h i = rw (h tt, i tt)
      by true false h i = refl
      by false b h i = refl

  below-same : (n x y : ℕ) → joined_below W member L n x y ≡ joined_below W member M n x y
  unfolding joined_below
  below-same zero x y = rw (with-same x y)
  below-same (suc n) x y = rw (below-same n x y, below-same n x n, below-same n n y)

  pub component-same : (N x : ℕ) → component_of W member L N x ≡ component_of W member M N x
  unfolding component_of
  component-same N x = first-same N 0 (joined_below W member L N x) (joined_below W member M N x) (λ z a b. below-same N x z)

module _ (N W : ℕ) (G : Lots) (L : Links) (seat : (x : ℕ) → Node G x → x < N) where
  abbrev On : (x y : ℕ) → Type 0
  On x y = Below W G.member L N x y

  abbrev label : ℕ → ℕ
  label x = component_of W G.member L N x

  -- the label of a node: the first seat that passes is there, since its own does
  label-on : (x : ℕ) → Node G x → On x (label x)
  unfolding component_of
  label-on x m =
      let p = joined_below W G.member L N x in
      let f = first N 0 p in
      ⊎_elim
      (λ l. true-T (f.found (omega (arith, l))))
      (λ l. false-T (f.before x (omega arith) (omega (arith, seat x m, l))) (below-refl W G.member L N x))
      (lt-or-ge (first_from N 0 p) N)

  on-label : (x y : ℕ) → Node G x → Node G y → On x y → label x ≡ label y
  unfolding component_of
  on-label x y m n t =
      let on = joined_below W G.member L N in
      let back = below-sym W G.member L N x y t in
      first-same N 0 (on x) (on y) (λ z a b.
      same_test (on x z) (on y z)
      (λ e. T_true (below-through W G.member L N y x z (seat x m) back (true-T e)))
      (λ e. T_true (below-through W G.member L N x y z (seat y n) t (true-T e))))

  -- what is joined in the computed sense is joined, and the other way for nodes
  below-joined : (n x y : ℕ) → Below W G.member L n x y → Joined W G L x y
  below-joined zero x y t = by ((none_below W G.member L x y).0 t)
    where
      by : (x ≡ y) ⊎ T (linked_with W G.member L x y) → Joined W G L x y
      by (inl e) = subst (Joined W G L x) e same
      by (inr u) = let ((m, n), h) = (with-linked W G.member L x y).0 u in
          ⊎_elim
          (λ v. let (k, d, l, e) = to-link W G.member L x y v in linked m n l e)
          (λ v. let (k, d, l, e) = to-link W G.member L y x v in turned (linked n m l e))
          h
  below-joined (suc n) x y t = by ((more-below W G.member L n x y).0 t) (λ a b. below-joined n a b)
    where
      by : Below W G.member L n x y ⊎ (Below W G.member L n x n × Below W G.member L n n y)
          → ((a b : ℕ) → Below W G.member L n a b → Joined W G L a b) → Joined W G L x y
      by (inl u) on = on x y u
      by (inr p) on = through (on x n p.0) (on n y p.1)

  joined-on : {x y : ℕ} → Node G x → Joined W G L x y → On x y
  joined-on {x} m same = below-refl W G.member L N x
  joined-on {x} {y} m (linked {d = d} mx my l e) =
      with-below W G.member L N x y (inr ((with-linked W G.member L x y).1 ((mx, my), inl (link-to W G.member L d l e))))
  joined-on {x} {y} m (turned j) = below-sym W G.member L N y x (joined-on ((joined-member j).1 m) j)
  joined-on {x} {y = z} m (through {y = y} i j) = let n = (joined-member i).0 m in
      below-through W G.member L N x y z (seat y n) (joined-on m i) (joined-on n j)

  -- two nodes have one label exactly if they are joined
  pub component-joined : (x y : ℕ) → Node G x → Node G y → (component_of W G.member L N x ≡ component_of W G.member L N y) ↔ Joined W G L x y
  component-joined x y m n = (
    (λ e. through (below-joined N x (label x) (label-on x m))
        (turned (below-joined N y (label x) (rw e (label-on y n))))),
    (λ j. on-label x y m n (joined-on m j)),
  )

-- so the labels by the links are the connected components
pub components-labels : (N W : ℕ) (G : Lots) (L : Links) → ((x : ℕ) → Node G x → x < N) → Labels W (by_links N W G L) L
components-labels N W G L seat = record { label = component-joined N W (by_links N W G L) L seat }

-- and other labels that are the connected components tell the same nodes apart
pub components-agree : (N W : ℕ) (G : Lots) (L : Links) → ((x : ℕ) → Node G x → x < N) → Labels W G L → (x y : ℕ) → Node G x → Node G y
    → (G.component x ≡ G.component y) ↔ (component_of W G.member L N x ≡ component_of W G.member L N y)
components-agree N W G L seat labels x y m n =
    let (to, from) = labels.label x y m n in
    let (join, one) = component-joined N W G L seat x y m n in
    (λ e. one (to e), λ e. from (join e))

-- lots with other labels
abbrev pub labelled : (ℕ → ℕ) → Lots → Lots
labelled c G = record { member = G.member; number = G.number; vector = G.vector; component = c }

-- the constraints do not look at labels
pub constraints-labelled : {W : ℕ} {G : Lots} {L : Links} (c : ℕ → ℕ) → Constraints W G L → Constraints W (labelled c G) L
constraints-labelled c h = record { within = h.within; order = h.order; back = h.back; first = h.first; last = h.last }

pub laws-labelled : {N : ℕ} {G : Lots} (c : ℕ → ℕ) → Laws N G → Laws N (labelled c G)
laws-labelled c laws = record { seat = laws.seat; differ = laws.differ }

-- Theorem 5 with the labels by the links, whatever those of the lots are
pub theorem-5-links : (N W : ℕ) (G : Lots) (L : Links) → Laws N G → Constraints W G L ↔ IsGraph N W (by_links N W G L) L
theorem-5-links N W G L laws =
    let (to, from) = theorem-5 (laws-labelled (component_of W G.member L N) laws) (components-labels N W G L laws.seat) in
    (λ h. to (constraints-labelled (component_of W G.member L N) h), λ g. constraints-labelled G.component (from g))
