-- With nothing pending in phase open the links are the skip graph: links are symmetric, what is connected at a level is a walk to one
-- side, so each link names the nearest lot, and the segments carry connection one level up. Assumes nothing.
use Prim.Native.Nat.{ℕ, zero, suc, ◌+◌, ◌-◌, ◌≤◌, ◌<◌}
use mathlib.Core.Path.{◌≡◌, refl, sym, ◌∙◌, ap, subst}
use mathlib.Core.Logic.{◌⊎◌, inl, inr}
use mathlib.Core.Option.{none, some, get_or}
use native.Mathlib.Omega.{arith}
use native.Mathlib.Decide.{dec_lt}
use native.Mathlib.Nat.{lt-suc_self}
use Rattle.graph.specs.Side.{Side, left, right, opp}
use Rattle.graph.specs.inner.Order.{Lt, to_l, to_r}
use Rattle.graph.proofs.Order.{opp-opp, lt-irr, lt-side, lt-then}
use Rattle.base.proofs.Tests.{none-some}
use Rattle.protocol.specs.Message.{meet}
use Rattle.protocol.proofs.World.{World, State, Quiet, share, Pair, pair-lower, share-sym, share-trans}
use Rattle.protocol.proofs.Open.{Proper}
use Rattle.protocol.proofs.Back.{WayBack, WaysBack}
use Rattle.protocol.proofs.Conn.{Conn, crefl, clink, cmeet, csym, ctrans, Whole}
use Rattle.protocol.proofs.Segment.{Segment, Done, joined, todo, out, home, pullb, pullf, Segments}

-- each link has its link back
pub record Sym (S : State) : Type 0 where
  pub back : {x k y : ℕ} {d : Side} → S.link x k d ≡ some y → S.link y k (opp d) ≡ some x

-- the distance of two numbers
unfoldable pub dist : ℕ → ℕ → ℕ
dist a b = (a - b) + (b - a)

pub dist-less : {num : ℕ → ℕ} {d : Side} {x v y : ℕ} → Lt num d x v → Lt num d v y
    → (dist (num v) (num x) < dist (num x) (num y)) × (dist (num v) (num y) < dist (num x) (num y))
unfolding dist
dist-less (to_l p) (to_l q) = (omega arith, omega arith)
dist-less (to_r p) (to_r q) = (omega arith, omega arith)

module _ {G : World} where
  sym-below : {S : State} → WaysBack G S → Quiet S → (f : ℕ) {x k y : ℕ} {d : Side} → dist (G.num x) (G.num y) < f → S.link x k d ≡ some y
      → S.link y k (opp d) ≡ some x
  sym-below i q zero l e = absurd (omega arith)
  sym-below {S} i q (suc f) {x} {k} {y} {d} l e = by (i.way e) (λ n b. sym-below i q f (omega (arith, (dist-less (i.way e).after n).0)) b)
    where
      by : (w : WayBack G S x k d y) → (Lt G.num d w.lot y → S.link w.lot k (opp d) ≡ some x → S.link x k (opp (opp d)) ≡ some w.lot)
          → S.link y k (opp d) ≡ some x
      by w ih = go w.backs w.upto
        where
          go : (S.link w.lot k (opp d) ≡ some x) ⊎ S.pend (meet w.lot x k) → (w.lot ≡ y) ⊎ Lt G.num d w.lot y
              → S.link y k (opp d) ≡ some x
          go (inr p) u = absurd (q _ p)
          go (inl b) (inl u) = rw u at b
          go (inl b) (inr n) = let r : S.link x k d ≡ some w.lot = rw (opp-opp d) at (ih n b) in let u : w.lot ≡ y = cc in rw u at b

  pub quiet-sym : {S : State} → WaysBack G S → Quiet S → Sym S
  quiet-sym i q = record { back = λ e. sym-below i q (suc _) (lt-suc_self _) e }

-- a walk along the links of a level to one side
pub data Path (S : State) (k : ℕ) (d : Side) : ℕ → ℕ → Type 0 where
  here : {x : ℕ} → Path S k d x x
  there : {x y z : ℕ} → S.link x k d ≡ some y → Path S k d y z → Path S k d x z

path-app : {S : State} {k : ℕ} {d : Side} {x y z : ℕ} → Path S k d x y → Path S k d y z → Path S k d x z
path-app here q = q
path-app (there e p) q = there e (path-app p q)

path-rev : {S : State} {k : ℕ} {d : Side} {x y : ℕ} → Sym S → Path S k d x y → Path S k (opp d) y x
path-rev h here = here
path-rev h (there e p) = path-app (path-rev h p) (there (h.back e) here)

path-det : {S : State} {k : ℕ} {d : Side} {x y z : ℕ} → Path S k d x y → Path S k d x z → Path S k d y z ⊎ Path S k d z y
path-det here q = inl q
path-det (there e p) here = inr (there e p)
path-det {S} {k} {d = d} (there {y = v} e p) (there {y = w} {z = z} f q) =
    let r : v ≡ w = cc in
    path-det p (subst (λ (a : ℕ). Path S k d a z) (sym r) q)

same-or-opp : (d e : Side) → (d ≡ e) ⊎ (opp d ≡ e)
same-or-opp left left = inl refl
same-or-opp left right = inr refl
same-or-opp right left = inr refl
same-or-opp right right = inl refl

path_join : {S : State} {k x y z : ℕ} {d e : Side} → Sym S → Path S k d x y → Path S k e y z → (c : Side) × Path S k c x z
path_join {S} {k} {x} {y} {z} {d} {e} h p q = by (same-or-opp d e)
  where
    turn : Path S k (opp d) x z ⊎ Path S k (opp d) z x → (c : Side) × Path S k c x z
    turn (inl r) = (opp d, r)
    turn (inr r) = (opp (opp d), path-rev h r)

    by : (d ≡ e) ⊎ (opp d ≡ e) → (c : Side) × Path S k c x z
    by (inl s) = (e, path-app (subst (λ (c : Side). Path S k c x y) s p) q)
    by (inr s) = turn (path-det (path-rev h p) (subst (λ (c : Side). Path S k c y z) (sym s) q))

conn-path : {S : State} {k x y : ℕ} → Sym S → Quiet S → Conn S k x y → (c : Side) × Path S k c x y
conn-path h q crefl = (left, here)
conn-path h q (clink {d = d} e) = (d, there e here)
conn-path h q (cmeet p) = absurd (q _ p)
conn-path h q (csym c) = let r = conn-path h q c in (opp r.0, path-rev h r.1)
conn-path h q (ctrans c e) = path_join h (conn-path h q c).1 (conn-path h q e).1

module _ (G : World) where
  -- y is the nearest on side d of x of the lots of its component that share k bits with x
  pub record Next (k x : ℕ) (d : Side) (y : ℕ) : Type 0 where
    pub pair : Pair G k x y
    pub side : Lt G.num d x y
    pub least : (z : ℕ) → Pair G k x z → Lt G.num d x z → (z ≡ y) ⊎ Lt G.num d y z

  pub record Exact (S : State) (k : ℕ) : Type 0 where
    pub next : {x y : ℕ} {d : Side} → S.link x k d ≡ some y → Next k x d y
    pub last : {x : ℕ} {d : Side} → S.link x k d ≡ none → (z : ℕ) → Pair G k x z → Lt G.num d x z → ⊥

module _ {G : World} where
  path-lt : {S : State} {k : ℕ} {d : Side} {x y : ℕ} → Proper G S → Path S k d x y → (x ≡ y) ⊎ Lt G.num d x y
  path-lt h here = inl refl
  path-lt h (there e p) = inr (lt-then (h.link_side e) (path-lt h p))

  -- a walk on side e to a lot that lies on side d begins with the link on side d
  first : {S : State} {k x z : ℕ} {d e : Side} → Proper G S → Path S k e x z → Lt G.num d x z
      → (y : ℕ) × (S.link x k d ≡ some y) × Path S k d y z
  first h here l = absurd (lt-irr l)
  first {S} {k} {x} {z} {d} {e} h (there {y = y} f p) l =
      let s : e ≡ d = lt-side (lt-then (h.link_side f) (path-lt h p)) l in
      (y, rw s at f, rw s at p)

  exact : {S : State} {k : ℕ} → Proper G S → Sym S → Quiet S → Whole G S k → Exact G S k
  exact {S} {k} h sy q w = record {
    next = λ e. record { pair = h.link-pair e; side = h.link_side e; least = λ z p l. near e (go p l) };
    last = λ e z p l. none-some e (go p l).1;
  }
    where
      go : {x z : ℕ} {d : Side} → Pair G k x z → Lt G.num d x z → (y : ℕ) × (S.link x k d ≡ some y) × Path S k d y z
      go p l = first h (conn-path sy q (w.conn p)).1 l

      turn : {x y : ℕ} {A : Type 0} → (x ≡ y) ⊎ A → (y ≡ x) ⊎ A
      turn (inl e) = inl (sym e)
      turn (inr a) = inr a

      near : {x y z : ℕ} {d : Side} → S.link x k d ≡ some y → (v : ℕ) × (S.link x k d ≡ some v) × Path S k d v z
          → (z ≡ y) ⊎ Lt G.num d y z
      near {x} {y} {z} {d} e (v, f, p) = let r : v ≡ y = cc in turn (path-lt h (subst (λ (a : ℕ). Path S k d a z) r p))

-- the walk of a level's list from c: the lot i links on
follow : State → ℕ → Side → ℕ → ℕ → ℕ
follow S k d c zero = c
follow S k d c (suc i) = let x = follow S k d c i in get_or (S.link x k d) x

follow-suc : (S : State) (k : ℕ) (d : Side) (c i z : ℕ) → S.link (follow S k d c i) k d ≡ some z → follow S k d c (suc i) ≡ z
unfolding follow
follow-suc S k d c i z e = rw e

-- from c, m links on, at x, and no lot passed since c shares more than k bits with c
record Since (G : World) (S : State) (k : ℕ) (d : Side) (c m x : ℕ) : Type 0 where
  at : follow S k d c m ≡ x
  links : (i : ℕ) → i < m → S.link (follow S k d c i) k d ≡ some (follow S k d c (suc i))
  fresh : (i : ℕ) → 0 < i → i ≤ m → ¬ (k < share G c (follow S k d c i))

module _ {G : World} {S : State} {k c m x z : ℕ} {d : Side} where
  since-link : Since G S k d c m x → S.link x k d ≡ some z → S.link (follow S k d c m) k d ≡ some z
  since-link s e = subst (λ (a : ℕ). S.link a k d ≡ some z) (sym s.at) e

  since-links : Since G S k d c m x → S.link x k d ≡ some z → (i : ℕ) → i < suc m
      → S.link (follow S k d c i) k d ≡ some (follow S k d c (suc i))
  since-links s e i l = by (dec_lt i m)
    where
      by : Dec (i < m) → S.link (follow S k d c i) k d ≡ some (follow S k d c (suc i))
      by (yes p) = s.links i p
      by (no p) =
          let q : m ≡ i = omega arith in
          let f = since-link s e in
          subst (λ (a : ℕ). S.link (follow S k d c a) k d ≡ some (follow S k d c (suc a))) q (f ∙ ap some (sym (follow-suc S k d c m z f)))

  -- a lot that shares more with c: the segment from c to it is complete
  since-seg : Sym S → Since G S k d c m x → S.link x k d ≡ some z → k < share G c z → Segment G S k d (follow S k d c) (suc m) c z
  unfolding follow
  since-seg sy s e b = record {
    pos = omega arith;
    start = refl;
    end = follow-suc S k d c m z (since-link s e);
    fwd = since-links s e;
    bwd = λ i l. sy.back (since-links s e i l);
    ends = b;
    mid = λ i p l. s.fresh i p (omega arith);
  }

  since-more : Since G S k d c m x → S.link x k d ≡ some z → ¬ (k < share G c z) → Since G S k d c (suc m) z
  since-more s e b = record { at = follow-suc S k d c m z (since-link s e); links = since-links s e; fresh = λ i p l. by i p l (dec_lt i (suc m)) }
    where
      by : (i : ℕ) → 0 < i → i ≤ suc m → Dec (i < suc m) → ¬ (k < share G c (follow S k d c i))
      by i p l (yes r) = s.fresh i p (omega arith)
      by i p l (no r) =
          let q : suc m ≡ i = omega arith in
          subst (λ (a : ℕ). ¬ (k < share G c (follow S k d c a))) q (rw (follow-suc S k d c m z (since-link s e)) b)

module _ {G : World} {S : State} where
  since-new : {k c : ℕ} {d : Side} → Since G S k d c 0 c
  unfolding follow
  since-new = record { at = refl; links = λ i l. absurd (omega arith); fresh = λ i p l. absurd (omega arith) }

  quiet-done : {k : ℕ} {d : Side} {u : ℕ → ℕ} {m a b : ℕ} → Quiet S → Done G S k d u m a b → Conn S (suc k) a b
  quiet-done q (joined c) = c
  quiet-done q (todo (out j p l r)) = absurd (q _ r)
  quiet-done q (todo (home j l r)) = absurd (q _ r)
  quiet-done q (todo (pullb j l r)) = absurd (q _ r)
  quiet-done q (todo (pullf j p l r)) = absurd (q _ r)

  walk_end : {k a b c : ℕ} {d : Side} (m : ℕ) → Conn S (suc k) a c → k < share G c b → Since G S k d c m b → Conn S (suc k) a b
  unfolding follow
  walk_end {k} {a} zero n l s = subst (λ (z : ℕ). Conn S (suc k) a z) s.at n
  walk_end (suc m) n l s = absurd (s.fresh (suc m) (omega arith) (omega arith) (rw s.at l))

  walk_step : {k a b c m x z : ℕ} {d : Side} → Sym S → Quiet S → Segments G S → S.link x k d ≡ some z → Conn S (suc k) a c → k < share G c b
      → Since G S k d c m x
      → ((c' m' : ℕ) → Conn S (suc k) a c' → k < share G c' b → Since G S k d c' m' z → Conn S (suc k) a b) → Conn S (suc k) a b
  walk_step {k} {a} {b} {c} {m} {x} {z} {d} sy q i e n l s rec = by (dec_lt k (share G c z))
    where
      by : Dec (k < share G c z) → Conn S (suc k) a b
      by (yes p) = rec z 0 (ctrans n (quiet-done q (i.seg (since-seg sy s e p)))) (share-trans G (suc k) z c b (rw (share-sym G z c) p) l) since-new
      by (no p) = rec c (suc m) n l (since-more s e p)

  walk : {k : ℕ} {d : Side} {a b c m x : ℕ} → Sym S → Quiet S → Segments G S → Path S k d x b → Conn S (suc k) a c → k < share G c b
      → Since G S k d c m x
      → Conn S (suc k) a b
  walk {m = m} sy q i here n l s = walk_end m n l s
  walk sy q i (there e p) n l s = walk_step sy q i e n l s (λ c' m' n' l' s'. walk sy q i p n' l' s')

  whole-up : {k : ℕ} → Sym S → Quiet S → Segments G S → Whole G S k → Whole G S (suc k)
  whole-up sy q i w = record { conn = λ p. walk sy q i (conn-path sy q (w.conn (pair-lower p))).1 crefl p.bits since-new }

  whole : Sym S → Quiet S → Segments G S → Whole G S 0 → (k : ℕ) → Whole G S k
  whole sy q i w zero = w
  whole sy q i w (suc k) = whole-up sy q i (whole sy q i w k)

  -- nothing pending: the exact skip graph at every level
  pub quiet-exact : Proper G S → WaysBack G S → Whole G S 0 → Segments G S → Quiet S → (k : ℕ) → Exact G S k
  quiet-exact h i w j q k = let sy = quiet-sym i q in exact h sy q (whole sy q j w k)
