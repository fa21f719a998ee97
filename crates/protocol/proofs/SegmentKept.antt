-- Deliveries keep the property of segments: a segment that a new link completed has its message just sent, and the message of a
-- segment that stood before moves on along it or joins its ends. Assumes nothing.
use Prim.Native.Nat.{ℕ, zero, suc, ◌-◌, ◌≤◌, ◌<◌}
use mathlib.Core.Path.{◌≡◌, refl, sym, ◌∙◌, ap, subst}
use mathlib.Core.Logic.{◌⊎◌, inl, inr, ◌≢◌}
use mathlib.Core.Option.{Option, some}
use mathlib.Core.Bool.{Bool, true, false, not}
use native.Mathlib.Omega.{arith}
use native.Mathlib.Decide.{dec_lt}
use Rattle.graph.specs.Side.{Side, opp}
use Rattle.graph.proofs.Order.{opp-opp, opp-lt, lt-asym}
use Rattle.protocol.specs.Message.{Msg, probe, pull}
use Rattle.protocol.proofs.World.{World, State, share, bit_of, share-sym, bit_up}
use Rattle.protocol.proofs.Delivery.{link-cases}
use Rattle.protocol.proofs.Open.{Sends, ask, call, up, pass, hit, go, Sets, sets, Opened, Proper, proper-kept, meet-side}
use Rattle.protocol.proofs.Conn.{Conn, cmeet, csym, conn-kept}
use Rattle.protocol.proofs.Segment.{Segment, Todo, out, home, pullb, pullf, Done, joined, todo, Segments, rev, seg-level, seg-bits, seg-lt}
use Rattle.protocol.proofs.Segment.{seg-pair, seg-rev, done-rev}

not-of : (b c : Bool) → c ≢ b → not b ≡ c
not-of true true h = absurd (h refl)
not-of true false h = refl
not-of false true h = refl
not-of false false h = absurd (h refl)

-- below m all are A, or one is B
all-or-one : {A B : ℕ → Type 0} (m : ℕ) → ((i : ℕ) → i < m → A i ⊎ B i) → ((i : ℕ) → i < m → A i) ⊎ ((i : ℕ) × (i < m) × B i)
all-or-one zero f = inl (λ i l. absurd (omega arith))
all-or-one {A} {B} (suc m) f = by (all-or-one m (λ i l. f i (omega arith))) (f m (omega arith))
  where
    at : ((i : ℕ) → i < m → A i) → A m → (i : ℕ) → i < suc m → Dec (i < m) → A i
    at g x i l (yes p) = g i p
    at g x i l (no p) = subst A (omega arith) x

    by : ((i : ℕ) → i < m → A i) ⊎ ((i : ℕ) × (i < m) × B i) → A m ⊎ B m
        → ((i : ℕ) → i < suc m → A i) ⊎ ((i : ℕ) × (i < suc m) × B i)
    by (inr q) y = inr (q.0, omega arith, q.2)
    by (inl g) (inl x) = inl (λ i l. at g x i l (dec_lt i m))
    by (inl g) (inr x) = inr (m, omega arith, x)

module _ {G : World} {S S' : State} {k : ℕ} {d : Side} {u : ℕ → ℕ} {m a b : ℕ} where
  -- the PROBE of a segment moves on, or joins its ends
  probe-step : Proper G S → Segment G S k d u m a b → (j : ℕ) → j < m → Opened G S (probe (u (suc j)) a k) S' → Done G S' k d u m a b
  probe-step h s j l t = by (dec_lt k (share G (u (suc j)) a)) (dec_lt (suc j) m)
    where
      by : Dec (k < share G (u (suc j)) a) → Dec (suc j < m) → Done G S' k d u m a b
      by (yes p) (yes q) = absurd (s.mid (suc j) (omega arith) q (rw (share-sym G a (u (suc j))) p))
      by (yes p) (no q) = joined (csym (subst (λ (z : ℕ). Conn S' (suc k) z a) (ap u (omega arith) ∙ s.end) (cmeet (t.came (up p)))))
      by (no p) (yes q) = todo (out (suc (suc j)) (omega arith) q (t.came (pass p (seg-lt h s j l) (s.fwd (suc j) q))))
      by (no p) (no q) = absurd (p (subst (λ (z : ℕ). k < share G z a) (sym s.end ∙ ap u (omega arith)) (rw (share-sym G b a) s.ends)))

  -- the PULL of a segment moves on, or turns into a PROBE
  pull-step : Proper G S → Segment G S k d u m a b → (j : ℕ) → j < m → Opened G S (pull (u j) (bit_of G k a) k (opp d)) S'
      → Done G S' k d u m a b
  pull-step h s zero l t =
      todo (out 1 (omega arith) s.pos (rw s.start at (t.came (hit {z = u 1} (ap (bit_of G k) s.start) (rw (opp-opp d) (s.fwd 0 l))))))
  pull-step h s (suc j) l t = todo (pullb j (omega arith) (t.came (go differ (s.bwd j (omega arith)))))
    where
      differ : bit_of G k (u (suc j)) ≢ bit_of G k a
      differ e = s.mid (suc j) (omega arith) l (bit_up G k a (u (suc j)) (seg-pair h s j (omega arith)).bits (seg-level s) (sym e))

-- each message on its way along a segment, once delivered, moves on or joins
todo-step : {G : World} {S S' : State} {n : Msg} {k : ℕ} {d : Side} {u : ℕ → ℕ} {m a b : ℕ} → Proper G S → Segment G S k d u m a b
    → Opened G S n S'
    → Todo G S k d u m a b → Done G S' k d u m a b
unfolding rev
todo-step {G} {S} {S'} {n} {k} {d} {u} {m} {a} {b} h s t = by
  where
    at : {x : Msg} → x ≡ n → Opened G S x S'
    at e = subst (λ (z : Msg). Opened G S z S') (sym e) t

    r : Segment G S k (opp d) (rev u m) m b a
    r = seg-rev s

    o : (j : ℕ) → 0 < j → j ≤ m → (probe (u j) a k ≡ n) ⊎ S'.pend (probe (u j) a k) → Done G S' k d u m a b
    o zero p l c = absurd (omega arith)
    o (suc j) p l (inl e) = probe-step h s j l (at e)
    o (suc j) p l (inr q) = todo (out (suc j) p l q)

    hm : (j : ℕ) → j < m → (probe (u j) b k ≡ n) ⊎ S'.pend (probe (u j) b k) → Done G S' k d u m a b
    hm j l (inl e) = done-rev (seg-bits s) (probe-step h r (m - suc j) (omega arith) (at (ap (λ (z : ℕ). probe (u z) b k) (omega arith) ∙ e)))
    hm j l (inr q) = todo (home j l q)

    pb : (j : ℕ) → j < m → (pull (u j) (bit_of G k a) k (opp d) ≡ n) ⊎ S'.pend (pull (u j) (bit_of G k a) k (opp d)) → Done G S' k d u m a b
    pb j l (inl e) = pull-step h s j l (at e)
    pb j l (inr q) = todo (pullb j l q)

    pf : (j : ℕ) → 0 < j → j ≤ m → (pull (u j) (bit_of G k a) k d ≡ n) ⊎ S'.pend (pull (u j) (bit_of G k a) k d) → Done G S' k d u m a b
    pf j p l (inl e) =
        let f : pull (rev u m (m - j)) (bit_of G k b) k (opp (opp d)) ≡ n =
        rw (opp-opp d, seg-bits s) (ap (λ (z : ℕ). pull (u z) (bit_of G k a) k d) (omega arith)) ∙ e in
        done-rev (seg-bits s) (pull-step h r (m - j) (omega arith) (at f))
    pf j p l (inr q) = todo (pullf j p l q)

    by : Todo G S k d u m a b → Done G S' k d u m a b
    by (out j p l q) = o j p l (t.kept (probe (u j) a k) q)
    by (home j l q) = hm j l (t.kept (probe (u j) b k) q)
    by (pullb j l q) = pb j l (t.kept (pull (u j) (bit_of G k a) k (opp d)) q)
    by (pullf j p l q) = pf j p l (t.kept (pull (u j) (bit_of G k a) k d) q)

module _ {G : World} {S : State} where
  -- what the setting of a link sends
  sets-ask : {n : Msg} {x k y : ℕ} {d : Side} → Sets G S n x k d (some y) → k < G.W → Sends G S n (probe y x k)
  sets-ask (sets l o) w = ask l o w

  sets-call : {n : Msg} {x k z : ℕ} {d : Side} {v : Option ℕ} → Sets G S n x k d v → k < G.W → S.link x k (opp d) ≡ some z
      → Sends G S n (pull z (not (bit_of G k x)) k (opp d))
  sets-call (sets l o) w e = call l o w e

  -- one delivery does not set both links of a lot
  sets-one : {n : Msg} {x k : ℕ} {d : Side} {v w : Option ℕ} → Sets G S n x k d v → Sets G S n x k (opp d) w → ⊥
  sets-one (sets l o) s = lt-asym l (opp-lt (meet-side s))

module _ {G : World} {S S' : State} {n : Msg} where
  -- a segment that the delivery completed: its new link is fwd i
  new-seg : {k : ℕ} {d : Side} {u : ℕ → ℕ} {m a b : ℕ} → Proper G S → Opened G S n S' → Segment G S' k d u m a b → (i : ℕ) → i < m
      → Sets G S n (u i) k d (some (u (suc i))) → Done G S' k d u m a b
  new-seg h t s zero l q = todo (out 1 (omega arith) s.pos (rw s.start at (t.came (sets-ask q (seg-level s)))))
  new-seg {k} {d} {u} {m} {a} {b} h t s (suc i) l q = by (link-cases t (s.bwd i (omega arith)))
    where
      differ : bit_of G k a ≢ bit_of G k (u (suc i))
      differ e = s.mid (suc i) (omega arith) l (bit_up G k a (u (suc i)) (seg-pair (proper-kept h t) s i (omega arith)).bits (seg-level s) e)

      by : (S.link (u (suc i)) k (opp d) ≡ some (u i)) ⊎ Sets G S n (u (suc i)) k (opp d) (some (u i)) → Done G S' k d u m a b
      by (inl e) = todo (pullb i (omega arith) (rw (not-of (bit_of G k (u (suc i))) (bit_of G k a) differ) at (t.came (sets-call q (seg-level s) e))))
      by (inr q') = absurd (sets-one q q')

  -- its new link is bwd i: the same read from the end
  new-back : {k : ℕ} {d : Side} {u : ℕ → ℕ} {m a b : ℕ} → Proper G S → Opened G S n S' → Segment G S' k d u m a b → (i : ℕ) → i < m
      → Sets G S n (u (suc i)) k (opp d) (some (u i)) → Done G S' k d u m a b
  unfolding rev
  new-back {m = m} h t s i l q =
      let e₁ : m - (m - suc i) ≡ suc i = omega arith in
      let e₂ : m - suc (m - suc i) ≡ i = omega arith in
      done-rev (seg-bits s) (new-seg h t (seg-rev s) (m - suc i) (omega arith) (rw (e₁, e₂) q))

  old-done : {k : ℕ} {d : Side} {u : ℕ → ℕ} {m a b : ℕ} → Proper G S → Segment G S k d u m a b → Opened G S n S' → Done G S k d u m a b
      → Done G S' k d u m a b
  old-done h s t (joined c) = joined (conn-kept h t c)
  old-done h s t (todo q) = todo-step h s t q

  seg-kept : {k : ℕ} {d : Side} {u : ℕ → ℕ} {m a b : ℕ} → Proper G S → Segments G S → Opened G S n S' → Segment G S' k d u m a b
      → Done G S' k d u m a b
  seg-kept {k} {d} {u} {m} {a} {b} h i t s = by (all-or-one m (λ i l. link-cases t (s.fwd i l))) (all-or-one m (λ i l. link-cases t (s.bwd i l)))
    where
      by : ((i : ℕ) → i < m → S.link (u i) k d ≡ some (u (suc i))) ⊎ ((i : ℕ) × (i < m) × Sets G S n (u i) k d (some (u (suc i))))
          → ((i : ℕ) → i < m → S.link (u (suc i)) k (opp d) ≡ some (u i)) ⊎ ((i : ℕ) × (i < m) × Sets G S n (u (suc i)) k (opp d) (some (u i)))
          → Done G S' k d u m a b
      by (inr q) g = new-seg h t s q.0 q.1 q.2
      by (inl f) (inr q) = new-back h t s q.0 q.1 q.2
      by (inl f) (inl g) =
          let old : Segment G S k d u m a b = record { pos = s.pos; start = s.start; end = s.end; fwd = f; bwd = g; ends = s.ends; mid = s.mid } in
          old-done h old t (i.seg old)

  pub segments-kept : Proper G S → Segments G S → Opened G S n S' → Segments G S'
  segments-kept h i t = record { seg = λ s. seg-kept h i t s }
