-- What every state in phase open has, kept by deliveries; that it gives the exact skip graph once nothing is pending; and that an exact
-- graph with nothing pending has it again. Assumes nothing.
use Prim.Native.Nat.{ℕ, zero, suc, ◌≤◌, ◌<◌}
use mathlib.Core.Path.{◌≡◌, refl, sym, ◌∙◌, ap, subst}
use mathlib.Core.Logic.{◌⊎◌, inl, inr}
use mathlib.Core.Option.{Option, none, some}
use native.Mathlib.Omega.{arith}
use Rattle.graph.specs.Side.{Side, right, opp}
use Rattle.graph.specs.inner.Order.{Lt}
use Rattle.graph.proofs.Order.{lt-opp, opp-lt, lt-asym, lt-ne}
use Rattle.base.proofs.Tests.{none-some}
use Rattle.protocol.specs.Message.{Msg}
use Rattle.protocol.proofs.World.{World, State, Quiet, Pair, pair-sym, pair-trans, seat-tri}
use Rattle.protocol.proofs.Open.{Opened, Proper, proper-kept}
use Rattle.protocol.proofs.Back.{WaysBack, back-kept}
use Rattle.protocol.proofs.Conn.{Conn, clink, csym, ctrans, Whole, conn-eq, conn-kept}
use Rattle.protocol.proofs.Segment.{Segment, joined, Segments}
use Rattle.protocol.proofs.SegmentKept.{segments-kept}
use Rattle.protocol.proofs.Exact.{Sym, dist, dist-less, Exact, quiet-exact}

pub record Invariant (G : World) (S : State) : Type 0 where
  pub proper : Proper G S
  pub back : WaysBack G S
  pub whole : Whole G S 0
  pub segments : Segments G S

module _ {G : World} where
  pub invariant-kept : {S S' : State} {m : Msg} → Invariant G S → Opened G S m S' → Invariant G S'
  invariant-kept i t = record {
    proper = proper-kept i.proper t;
    back = back-kept i.proper i.back t;
    whole = record { conn = λ p. conn-kept i.proper t (i.whole.conn p) };
    segments = segments-kept i.proper i.segments t;
  }

  pub invariant-quiet : {S : State} → Invariant G S → Quiet S → (k : ℕ) → Exact G S k
  invariant-quiet i q k = quiet-exact i.proper i.back i.whole i.segments q k

  -- an exact graph is symmetric
  exact-back : {S : State} {x k y : ℕ} {d : Side} → Exact G S k → S.link x k d ≡ some y → (v : Option ℕ) → S.link y k (opp d) ≡ v
      → v ≡ some x
  exact-back {x = x} h e none f = absurd (h.last f x (pair-sym (h.next e).pair) (lt-opp (h.next e).side))
  exact-back {S} {x} {k} {y} {d} h e (some v) f = ap some (by ((h.next f).least x (pair-sym (h.next e).pair) (lt-opp (h.next e).side)))
    where
      between : Lt G.num d v y → (v ≡ y) ⊎ Lt G.num d y v → ⊥
      between l (inl q) = lt-ne l q
      between l (inr m) = lt-asym l m

      by : (x ≡ v) ⊎ Lt G.num (opp d) v x → v ≡ x
      by (inl q) = sym q
      by (inr m) = absurd (between (opp-lt (h.next f).side) ((h.next e).least v (pair-trans (h.next e).pair (h.next f).pair) (opp-lt m)))

  pub exact-sym : {S : State} → ((k : ℕ) → Exact G S k) → Sym S
  exact-sym {S} h = record { back = λ {x} {k} {y} {d} e. exact-back (h k) e (S.link y k (opp d)) refl }

  -- an exact graph connects what shares k bits
  reach : {S : State} {k : ℕ} → Exact G S k → (f : ℕ) {x y : ℕ} {d : Side} → dist (G.num x) (G.num y) < f → Pair G k x y → Lt G.num d x y
      → Conn S k x y
  reach h zero l p m = absurd (omega arith)
  reach {S} {k} h (suc f) {x} {y} {d} l p m = by (S.link x k d) refl (λ v q n. reach h f q n)
    where
      go_on : (v : ℕ) → S.link x k d ≡ some v → (y ≡ v) ⊎ Lt G.num d v y
          → ((v : ℕ) → dist (G.num v) (G.num y) < f → Pair G k v y → Lt G.num d v y → Conn S k v y) → Conn S k x y
      go_on v e (inl q) ih = ctrans (clink e) (conn-eq (sym q))
      go_on v e (inr n) ih = ctrans (clink e) (ih v (omega (arith, (dist-less (h.next e).side n).1)) (pair-trans (pair-sym (h.next e).pair) p) n)

      by : (v : Option ℕ) → S.link x k d ≡ v → ((v : ℕ) → dist (G.num v) (G.num y) < f → Pair G k v y → Lt G.num d v y → Conn S k v y)
          → Conn S k x y
      by none e ih = absurd (h.last e y p m)
      by (some v) e ih = go_on v e ((h.next e).least y p m) ih

  pub exact-whole : {S : State} {k : ℕ} → Exact G S k → Whole G S k
  exact-whole {S} {k} h = record { conn = λ {x} {y} p. by p (seat-tri G right x y p.fst p.snd) }
    where
      by : {x y : ℕ} → Pair G k x y → (x ≡ y) ⊎ (Lt G.num right x y ⊎ Lt G.num right y x) → Conn S k x y
      by p (inl e) = conn-eq e
      by {x} {y} p (inr (inl l)) = reach h (suc (dist (G.num x) (G.num y))) (omega arith) p l
      by {x} {y} p (inr (inr l)) = csym (reach h (suc (dist (G.num y) (G.num x))) (omega arith) (pair-sym p) l)

  ends-pair : {S : State} {k : ℕ} {d : Side} {u : ℕ → ℕ} {m a b : ℕ} → Proper G S → Segment G S k d u m a b → Pair G (suc k) a b
  ends-pair {k = k} {u = u} {m = m} {a = a} {b = b} h q = record {
    fst = subst G.Seated q.start (h.link-pair (q.fwd 0 q.pos)).fst;
    snd = subst G.Seated q.end (last m q.pos (omega arith));
    same = sym (ap G.comp q.start) ∙ chain m (omega arith) ∙ ap G.comp q.end;
    bits = q.ends;
  }
    where
      last : (n : ℕ) → 0 < n → n ≤ m → G.Seated (u n)
      last zero p l = absurd (omega arith)
      last (suc n) p l = (h.link-pair (q.fwd n l)).snd

      chain : (n : ℕ) → n ≤ m → G.comp (u 0) ≡ G.comp (u n)
      chain zero l = refl
      chain (suc n) l = chain n (omega arith) ∙ (h.link-pair (q.fwd n l)).same

  -- a settled graph has the invariant
  pub exact-invariant : {S : State} → ((k : ℕ) → Exact G S k) → Quiet S → Invariant G S
  exact-invariant {S} h q = record {
    proper = proper;
    back = record { way = λ {x} {k} {y} {d} e. record { lot = y; after = ((h k).next e).side; upto = inl refl; backs = inl ((exact-sym h).back e) } };
    whole = exact-whole (h 0);
    segments = record { seg = λ {k} s. joined ((exact-whole (h (suc k))).conn (ends-pair proper s)) };
  }
    where
      proper : Proper G S
      proper = record { link-pair = λ {x} {k} e. ((h k).next e).pair; link_side = λ {x} {k} e. ((h k).next e).side; pend-ok = λ p. absurd (q _ p) }

-- at most one lot, no links and no messages
pub invariant-first : (G : World) (S : State) → ((x y : ℕ) → G.Seated x → G.Seated y → x ≡ y)
    → ((x k : ℕ) (d : Side) → S.link x k d ≡ none)
    → Quiet S → Invariant G S
invariant-first G S one bare q = record {
  proper = record { link-pair = λ e. none-some (bare _ _ _) e; link_side = λ e. none-some (bare _ _ _) e; pend-ok = λ p. absurd (q _ p) };
  back = record { way = λ e. none-some (bare _ _ _) e };
  whole = record { conn = λ {x} {y} p. conn-eq (one x y p.fst p.snd) };
  segments = record { seg = λ s. none-some (bare _ _ _) (s.fwd 0 s.pos) };
}
