-- Complete segments of a level's list (I3 of the proof on paper): from a lot to the next that shares one bit more with it, linked both
-- ways. Its ends are connected one level up, or a message that will join them is on its way along it. Assumes nothing.
use Prim.Native.Nat.{ℕ, zero, suc, ◌-◌, ◌≤◌, ◌<◌}
use mathlib.Core.Path.{◌≡◌, sym, ◌∙◌, ap, subst}
use mathlib.Core.Option.{some}
use native.Mathlib.Omega.{arith}
use Rattle.graph.specs.Side.{Side, opp}
use Rattle.graph.specs.inner.Order.{Lt}
use Rattle.graph.proofs.Order.{opp-opp, lt_trans}
use Rattle.protocol.specs.Message.{probe, pull}
use Rattle.protocol.proofs.World.{World, State, share, bit_of, Pair, share-W, share-sym, share-trans, bit-eq, pair-trans}
use Rattle.protocol.proofs.Open.{Proper}
use Rattle.protocol.proofs.Conn.{Conn, csym}

module _ (G : World) (S : State) where
  -- the segment u 0 .. u m at level k from a to b along side d
  pub record Segment (k : ℕ) (d : Side) (u : ℕ → ℕ) (m a b : ℕ) : Type 0 where
    pub pos : 0 < m
    pub start : u 0 ≡ a
    pub end : u m ≡ b
    pub fwd : (i : ℕ) → i < m → S.link (u i) k d ≡ some (u (suc i))
    pub bwd : (i : ℕ) → i < m → S.link (u (suc i)) k (opp d) ≡ some (u i)
    pub ends : k < share G a b
    pub mid : (i : ℕ) → 0 < i → i < m → ¬ (k < share G a (u i))

  -- the message that will join a and b: a PROBE about an end, or a PULL for the ends' bit
  pub data Todo (k : ℕ) (d : Side) (u : ℕ → ℕ) (m a b : ℕ) : Type 0 where
    out : (j : ℕ) → 0 < j → j ≤ m → S.pend (probe (u j) a k) → Todo k d u m a b
    home : (j : ℕ) → j < m → S.pend (probe (u j) b k) → Todo k d u m a b
    pullb : (j : ℕ) → j < m → S.pend (pull (u j) (bit_of G k a) k (opp d)) → Todo k d u m a b
    pullf : (j : ℕ) → 0 < j → j ≤ m → S.pend (pull (u j) (bit_of G k a) k d) → Todo k d u m a b

  pub data Done (k : ℕ) (d : Side) (u : ℕ → ℕ) (m a b : ℕ) : Type 0 where
    joined : Conn S (suc k) a b → Done k d u m a b
    todo : Todo k d u m a b → Done k d u m a b

  pub record Segments : Type 0 where
    pub seg : {k : ℕ} {d : Side} {u : ℕ → ℕ} {m a b : ℕ} → Segment k d u m a b → Done k d u m a b

-- the lots of a segment from its end
unfoldable pub rev : (ℕ → ℕ) → ℕ → ℕ → ℕ
rev u m i = u (m - i)

module _ {G : World} {S : State} {k : ℕ} {d : Side} {u : ℕ → ℕ} {m a b : ℕ} where
  pub seg-level : Segment G S k d u m a b → k < G.W
  seg-level s = let e = s.ends in omega (arith, share-W G a b)

  pub seg-bits : Segment G S k d u m a b → bit_of G k b ≡ bit_of G k a
  seg-bits s = sym (bit-eq G k a b s.ends)

  -- the lots of a segment lie on side d of its start, and share k bits with it
  pub seg-lt : Proper G S → Segment G S k d u m a b → (j : ℕ) → j < m → Lt G.num d a (u (suc j))
  seg-lt h s zero l = subst (λ (z : ℕ). Lt G.num d z (u 1)) s.start (h.link_side (s.fwd 0 l))
  seg-lt h s (suc j) l = lt_trans (seg-lt h s j (omega arith)) (h.link_side (s.fwd (suc j) l))

  pub seg-pair : Proper G S → Segment G S k d u m a b → (j : ℕ) → j < m → Pair G k a (u (suc j))
  seg-pair h s zero l = subst (λ (z : ℕ). Pair G k z (u 1)) s.start (h.link-pair (s.fwd 0 l))
  seg-pair h s (suc j) l = pair-trans (seg-pair h s j (omega arith)) (h.link-pair (s.fwd (suc j) l))

  -- a segment read from its end
  pub seg-rev : Segment G S k d u m a b → Segment G S k (opp d) (rev u m) m b a
  unfolding rev
  seg-rev s = record {
    pos = s.pos;
    start = ap u (omega arith) ∙ s.end;
    end = ap u (omega arith) ∙ s.start;
    fwd = λ i l. subst (λ (z : ℕ). S.link (u z) k (opp d) ≡ some (u (m - suc i))) (flip i l) (s.bwd (m - suc i) (omega arith));
    bwd = λ i l. rw (opp-opp d) (s.fwd (m - suc i) (omega arith) ∙ ap (λ (z : ℕ). some (u z)) (flip i l));
    ends = rw (share-sym G b a) s.ends;
    mid = λ i p l q. s.mid (m - i) (omega arith) (omega arith) (share-trans G (suc k) a b (u (m - i)) s.ends q);
  }
    where
      flip : (i : ℕ) → i < m → suc (m - suc i) ≡ m - i
      flip i l = omega arith

  todo-rev : bit_of G k b ≡ bit_of G k a → Todo G S k (opp d) (rev u m) m b a → Todo G S k d u m a b
  unfolding rev
  todo-rev e (out j p l q) = home (m - j) (omega arith) q
  todo-rev e (home j l q) = out (m - j) (omega arith) (omega arith) q
  todo-rev e (pullb j l q) = pullf (m - j) (omega arith) (omega arith) (rw (opp-opp d, e) at q)
  todo-rev e (pullf j p l q) = pullb (m - j) (omega arith) (rw e at q)

  pub done-rev : bit_of G k b ≡ bit_of G k a → Done G S k (opp d) (rev u m) m b a → Done G S k d u m a b
  done-rev e (joined c) = joined (csym c)
  done-rev e (todo q) = todo (todo-rev e q)
