-- Lots that are gone unannounced from an exact graph: the links that are left, with a MEET at level 0 between the ends of each above level 0, have
-- the invariant of phase open, within the components of these links. Assumes nothing.
use Prim.Native.Nat.{ℕ, zero, suc, ◌≤◌, ◌<◌}
use mathlib.Core.Path.{◌≡◌, refl, sym, ◌∙◌, ap, subst}
use mathlib.Core.Logic.{◌⊎◌, inl, inr}
use mathlib.Core.Option.{Option, none, some}
use native.Mathlib.Omega.{arith}
use Rattle.graph.specs.Side.{Side}
use Rattle.graph.specs.inner.Order.{Lt, to_l, to_r}
use Rattle.graph.proofs.Order.{lt-asym, lt-ne, lt-ne'}
use Rattle.protocol.specs.Message.{Msg, meet}
use Rattle.protocol.proofs.World.{World, State, share, Pair, pair-sym, pair-trans, pair-lower, seat-tri}
use Rattle.protocol.proofs.Open.{Ok, ok-meet, Proper}
use Rattle.protocol.proofs.Conn.{Conn, clink}
use Rattle.protocol.proofs.Segment.{Segment, joined, seg-lt, seg-pair}
use Rattle.protocol.proofs.Exact.{Exact}
use Rattle.protocol.proofs.Invariant.{Invariant, exact-sym}

-- in an exact graph the ends of a segment are linked one level up
module _ {G : World} {S : State} (exact : (k : ℕ) → Exact G S k) where
  exact-proper : ((m : Msg) → S.pend m → ⊥) → Proper G S
  exact-proper quiet =
      record { link-pair = λ {x} {k} e. ((exact k).next e).pair; link_side = λ {x} {k} e. ((exact k).next e).side; pend-ok = λ {m} p. absurd (quiet m p) }

  module _ (h : Proper G S) {k m a b : ℕ} {d : Side} {u : ℕ → ℕ} (s : Segment G S k d u m a b) where
    seated-a : G.Seated a
    seated-a = subst G.Seated s.start (h.link-pair (s.fwd 0 s.pos)).fst

    -- the lots of the segment, its start too, share k bits with the start
    chain : (i : ℕ) → i ≤ m → Pair G k a (u i)
    chain zero l = let p = seg-pair h s 0 s.pos in
        subst (λ (z : ℕ). Pair G k a z) (sym s.start) (pair-trans p (pair-sym p))
    chain (suc i) l = seg-pair h s i (omega arith)

    -- no lot that shares one bit more lies between the ends
    none_between : {w : ℕ} → Pair G (suc k) a w → Lt G.num d a w → (i : ℕ) → i ≤ m → Lt G.num d w (u i) → ⊥
    none_between {w} p l zero le n = lt-asym l (subst (λ (z : ℕ). Lt G.num d w z) s.start n)
    none_between {w} p l (suc i) le n =
        by (seat-tri G d w (u i) p.snd (chain i (omega arith)).snd) (none_between p l i (omega arith))
      where
        at : (i : ℕ) → i < m → w ≡ u i → ⊥
        at zero q e = lt-ne' l (e ∙ s.start)
        at (suc i) q e = s.mid (suc i) (omega arith) q (subst (λ (z : ℕ). k < share G a z) e p.bits)

        past : (w ≡ u (suc i)) ⊎ Lt G.num d (u (suc i)) w → ⊥
        past (inl e) = lt-ne n e
        past (inr r) = lt-asym n r

        by : (w ≡ u i) ⊎ (Lt G.num d w (u i) ⊎ Lt G.num d (u i) w) → (Lt G.num d w (u i) → ⊥) → ⊥
        by (inl e) ih = at i le e
        by (inr (inl r)) ih = ih r
        by (inr (inr r)) ih = past (((exact k).next (s.fwd i le)).least w (pair-trans (pair-sym (chain i (omega arith))) (pair-lower p)) r)

    ends-linked : S.link a (suc k) d ≡ some b
    ends-linked = by (S.link a (suc k) d) refl
      where
        pair : Pair G (suc k) a b
        pair = let p = subst (λ (z : ℕ). Pair G k a z) s.end (chain m (omega arith)) in
            record { fst = p.fst; snd = p.snd; same = p.same; bits = s.ends }

        last : (n : ℕ) → 0 < n → n ≤ m → Lt G.num d a (u n)
        last zero p l = absurd (omega arith)
        last (suc n) p l = seg-lt h s n l

        lt : Lt G.num d a b
        lt = subst (λ (z : ℕ). Lt G.num d a z) s.end (last m s.pos (omega arith))

        near : (w : ℕ) → S.link a (suc k) d ≡ some w → (b ≡ w) ⊎ Lt G.num d w b → some w ≡ some b
        near w e (inl r) = ap some (sym r)
        near w e (inr r) =
            absurd (none_between ((exact (suc k)).next e).pair ((exact (suc k)).next e).side m (omega arith)
            (subst (λ (z : ℕ). Lt G.num d w z) (sym s.end) r))

        by : (v : Option ℕ) → S.link a (suc k) d ≡ v → v ≡ some b
        by none e = absurd ((exact (suc k)).last e b pair lt)
        by (some w) e = near w e (((exact (suc k)).next e).least b pair lt)

-- the lots that are left, the links among them, and what is then pending; the components are those of these links and MEETs
pub record Cuts (G : World) (Left : ℕ → Type 0) (H : World) (S S' : State) : Type 0 where
  pub old : (x : ℕ) → H.Seated x → G.Seated x × Left x
  pub new : (x : ℕ) → G.Seated x → Left x → H.Seated x
  pub number : (x : ℕ) → Left x → H.num x ≡ G.num x
  pub shared : (x y : ℕ) → Left x → Left y → share H x y ≡ share G x y
  pub keeps : {x k y : ℕ} {d : Side} → S.link x k d ≡ some y → Left x → Left y → S'.link x k d ≡ some y
  pub from : {x k y : ℕ} {d : Side} → S'.link x k d ≡ some y → (S.link x k d ≡ some y) × Left x × Left y
  pub only : {m : Msg} → S'.pend m
      → (x : ℕ) × (k : ℕ) × (d : Side) × (y : ℕ) × (S'.link x k d ≡ some y) × ((m ≡ meet x y 0) ⊎ (m ≡ meet y x 0))
  pub within : {x k y : ℕ} {d : Side} → S'.link x k d ≡ some y → H.comp x ≡ H.comp y
  pub joined : (x y : ℕ) → H.Seated x → H.Seated y → H.comp x ≡ H.comp y → Conn S' 0 x y

module _ {G H : World} {Left : ℕ → Type 0} {S S' : State} (z : Cuts G Left H S S') (exact : (k : ℕ) → Exact G S k)
    (quiet : (m : Msg) → S.pend m → ⊥) where
  lt-left : {d : Side} {x y : ℕ} → Left x → Left y → Lt G.num d x y → Lt H.num d x y
  lt-left {x = x} {y = y} s t (to_l p) = to_l {x = x} {y = y} (rw (z.number x s, z.number y t) p)
  lt-left {x = x} {y = y} s t (to_r p) = to_r {x = x} {y = y} (rw (z.number x s, z.number y t) p)

  left-pair : {x k y : ℕ} {d : Side} → S'.link x k d ≡ some y → Pair H k x y
  left-pair {x} {k} {y} e =
      let (f, s, t) = z.from e in
      let p = ((exact k).next f).pair in
      record { fst = z.new x p.fst s; snd = z.new y p.snd t; same = z.within e; bits = rw (z.shared x y s t) p.bits }

  left-side : {x k y : ℕ} {d : Side} → S'.link x k d ≡ some y → Lt H.num d x y
  left-side {k = k} e = let (f, s, t) = z.from e in lt-left s t ((exact k).next f).side

  -- a segment of the links that are left was there, and its ends are left
  module _ {k m a b : ℕ} {d : Side} {u : ℕ → ℕ} (q : Segment H S' k d u m a b) where
    left_at : (i : ℕ) → i < m → Left (u i)
    left_at i l = (z.from (q.fwd i l)).1

    left-last : (n : ℕ) → 0 < n → n ≤ m → Left (u n)
    left-last zero p l = absurd (omega arith)
    left-last (suc n) p l = (z.from (q.fwd n l)).2

    left-start : Left a
    left-start = subst Left q.start (left_at 0 q.pos)

    left_end : Left b
    left_end = subst Left q.end (left-last m q.pos (omega arith))

    seg_before : Segment G S k d u m a b
    seg_before = record {
      pos = q.pos;
      start = q.start;
      end = q.end;
      fwd = λ i l. (z.from (q.fwd i l)).0;
      bwd = λ i l. (z.from (q.bwd i l)).0;
      ends = rw (z.shared a b left-start left_end) at q.ends;
      mid = λ i p l r. q.mid i p l (rw (z.shared a (u i) left-start (left_at i l)) r);
    }

    ends-joined : Conn S' (suc k) a b
    ends-joined = clink (z.keeps (ends-linked exact (exact-proper exact quiet) seg_before) left-start left_end)

  pub invariant-cut : Invariant H S'
  invariant-cut = record {
    proper = record { link-pair = λ e. left-pair e; link_side = λ e. left-side e; pend-ok = λ p. ok (z.only p) };
    back =
        record {
          way = λ {x} {k} {y} {d} e. let (f, s, t) = z.from e in
              record { lot = y; after = left-side e; upto = inl refl; backs = inl (z.keeps ((exact-sym exact).back f) t s) };
        };
    whole = record { conn = λ {x} {y} p. z.joined x y p.fst p.snd p.same };
    segments = record { seg = λ q. joined (ends-joined q) };
  }
    where
      ground : {x k y : ℕ} → Pair H k x y → Pair H 0 x y
      ground p = record { fst = p.fst; snd = p.snd; same = p.same; bits = omega arith }

      ok : {m : Msg} → (x : ℕ) × (k : ℕ) × (d : Side) × (y : ℕ) × (S'.link x k d ≡ some y) × ((m ≡ meet x y 0) ⊎ (m ≡ meet y x 0))
          → Ok H m
      ok (x, k, d, y, e, inl r) = subst (Ok H) (sym r) (ok-meet (ground (left-pair e)) (lt-ne (left-side e)))
      ok (x, k, d, y, e, inr r) = subst (Ok H) (sym r) (ok-meet (ground (pair-sym (left-pair e))) (lt-ne' (left-side e)))
