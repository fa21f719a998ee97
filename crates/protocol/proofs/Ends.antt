-- Every delivery lowers the measure: in phase open a link that gets nearer pays for what its MEET sends, and every other delivery sends
-- less than it takes. Assumes nothing.
use Prim.Native.Nat.{ℕ, suc, ◌+◌, ◌-◌, ◌*◌, ◌≤◌, ◌<◌}
use mathlib.Core.Path.{◌≡◌, refl}
use mathlib.Core.Logic.{◌⊎◌, inl, inr, ⊎_map}
use mathlib.Core.Option.{Option, none, some}
use mathlib.Core.Bool.{Bool, not, Bool-discrete}
use mathlib.Core.List.{List, [], ◌∷◌, ◌++◌, Memᴰ}
use native.Mathlib.Omega.{arith}
use native.Mathlib.Nat.{mul-le-mul_left}
use lib.Dec.{T, ltb, ltb→lt, lt→ltb}
use Rattle.graph.specs.Side.{Side, left, right, opp, side_of}
use Rattle.graph.specs.inner.Order.{Lt}
use Rattle.graph.proofs.Order.{lt_trans, lt-opp, lt-side, side-of}
use Rattle.base.proofs.Tests.{dec-T}
use Rattle.protocol.specs.Message.{Msg, meet, probe, pull}
use Rattle.protocol.specs.Numbering.{exists}
use Rattle.protocol.specs.State.{Meaning}
use Rattle.protocol.specs.Rules.{to_link}
use Rattle.protocol.proofs.World.{World, State, share, bit_of, Pair, seat-side}
use Rattle.protocol.proofs.Sent.{is-sent}
use Rattle.protocol.proofs.Delivery.{state_of}
use Rattle.protocol.proofs.Open.{Old, no_old, far, not-old, Sends, up, pass, hit, go, Sets, sets, sets-pair, Opened, Ok, ok-meet, ok-probe, ok-pull}
use Rattle.protocol.proofs.Open.{Proper, MeetSends, m_on, m_back, m_hand, m_ask, m_call, Way, same, beyond, nearer, way, meet-sends}
use Rattle.protocol.proofs.Open.{same-sends, beyond-sends}
use Rattle.protocol.proofs.Sum.{sum-le, sum_less, total, mass, mass-step}
use Rattle.protocol.proofs.Measure.{numbers, room, rank, reach, reaches, room-less, dist-most, dist-pos, dist-on, dist-in, rank-meet}
use Rattle.protocol.proofs.Measure.{rank-probe, rank-pull}

module _ (r : Msg → ℕ) where
  total-append : (a b : List Msg) → total r (a ++ b) ≡ total r a + total r b
  unfolding total
  total-append [] b = omega arith
  total-append (x ∷ a) b = omega (arith, total-append a b)

  pub total-link : (o : Option ℕ) (f : ℕ → Msg) (n : ℕ) → ((z : ℕ) → o ≡ some z → r (f z) ≤ n) → total r (to_link o f) ≤ n
  unfolding total to_link
  total-link none f n h = omega arith
  total-link (some z) f n h = omega (arith, h z refl)

-- a list that holds all that a delivery sends
abbrev pub Holds : (Msg → Type 0) → List Msg → Type 0
Holds Sent l = (n : Msg) → Sent n → Memᴰ n l

-- what a delivery costs: its sends rank below its message, or a link that gets nearer pays
pub data Cost (G : World) (S : State) (m : Msg) : Type 0 where
  free : (l : List Msg) → Holds (Sends G S m) l → total (rank G.num) l < rank G.num m → Cost G S m
  paid : {x k y : ℕ} {d : Side} → Sets G S m x k d (some y) → (l : List Msg) → Holds (Sends G S m) l
      → total (rank G.num) l < rank G.num m + 8 * numbers → Cost G S m

module _ (G : World) (S : State) where
  open G use {num, small}

  -- a MEET that sets the link
  module _ (x y k : ℕ) (d : Side) where
    old : List Msg
    old = to_link (S.link x k d) (λ o. meet y o k)

    asks : List Msg
    asks = probe y x k ∷ to_link (S.link x k (opp d)) (λ z. pull z (not (bit_of G k x)) k (opp d))

    holds-set : Old G S x k d y → {n : Msg} → MeetSends G S x y k d n → Memᴰ n (meet y x k ∷ (old ++ asks))
    unfolding old asks
    holds-set p (m_on f n) = not-old f (inr n) p
    holds-set p (m_back q) = search is-sent
    holds-set p (m_hand f n) = search is-sent
    holds-set p (m_ask q w) = search is-sent
    holds-set p (m_call q w f) = search is-sent

    cost-set : total (rank num) (meet y x k ∷ (old ++ asks)) < rank num (meet x y k) + 8 * numbers
    unfolding total old asks
    cost-set =
        omega (
          arith,
          rank-meet num small y x k,
          total-append (rank num) old asks,
          total-link (rank num) (S.link x k d) (λ o. meet y o k) numbers (λ o e. omega (arith, rank-meet num small y o k)),
          rank-probe num small y x k,
          total-link (rank num) (S.link x k (opp d)) (λ z. pull z (not (bit_of G k x)) k (opp d)) (4 * numbers - 1)
              (λ z e. omega (arith, rank-pull num small z (not (bit_of G k x)) k (opp d))),
        )

  meet-cost : {x y k : ℕ} {d : Side} → Proper G S → Lt num d x y → Way G S x y k d → Cost G S (meet x y k)
  unfolding total rank
  meet-cost h l (same e) = free [] (λ n s. absurd (same-sends e (meet-sends l s))) (omega (arith, dist-pos num small l))
  meet-cost {x} {y} {k} h l (beyond {o} e n) =
      free (meet o y k ∷ []) (λ m s. Memᴰ.head (beyond-sends e n (meet-sends l s))) (omega (arith, dist-on num small (h.link_side e) n))
  meet-cost {x} {y} {k} {d} h l (nearer o) = paid (sets l o) _ (λ n s. holds-set x y k d o (meet-sends l s)) (cost-set x y k d)

  -- a PROBE goes up, or on away from y
  probe-cost : {x y k : ℕ} {d : Side} → Proper G S → Lt num d y x → Dec (T (ltb k (share G x y))) → Cost G S (probe x y k)
  unfolding total rank
  probe-cost {x} {y} {k} h l (yes t) = free (meet x y (suc k) ∷ []) (λ n s. by s) (omega (arith, dist-most num small x y))
    where
      by : {n : Msg} → Sends G S (probe x y k) n → Memᴰ n (meet x y (suc k) ∷ [])
      by (up p) = search is-sent
      by (pass p m e) = absurd (p (ltb→lt k (share G x y) t))
  probe-cost {x} {y} {k} {d} h l (no f) =
      free (to_link (S.link x k d) (λ z. probe z y k)) (λ n s. by s)
      (rw (side-of num l) (omega (arith, total-link (rank num) (S.link x k d) (λ z. probe z y k) (numbers + room num d x) each)))
    where
      by : {n : Msg} → Sends G S (probe x y k) n → Memᴰ n (to_link (S.link x k d) (λ z. probe z y k))
      by (up p) = absurd (f (lt→ltb k (share G x y) p))
      by (pass {z = z} p m e) = let q : S.link x k d ≡ some z = rw (lt-side m l) at e in search is-sent

      each : (z : ℕ) → S.link x k d ≡ some z → numbers + 1 + room num (side_of (num y) (num z)) z ≤ numbers + room num d x
      each z e = rw (side-of num (lt_trans l (h.link_side e))) (omega (arith, room-less num small (h.link_side e)))

  -- a PULL becomes a PROBE, or goes on
  pull-cost : (x : ℕ) (b : Bool) (k : ℕ) (d : Side) → Proper G S → Dec (bit_of G k x ≡ b) → Cost G S (pull x b k d)
  unfolding rank
  pull-cost x b k d h (yes q) =
      free (to_link (S.link x k (opp d)) (λ z. probe z x k)) (λ n s. by s)
      (omega (arith, total-link (rank num) (S.link x k (opp d)) (λ z. probe z x k) (2 * numbers) (λ z e. rank-probe num small z x k)))
    where
      by : {n : Msg} → Sends G S (pull x b k d) n → Memᴰ n (to_link (S.link x k (opp d)) (λ z. probe z x k))
      by (hit p e) = search is-sent
      by (go p e) = absurd (p q)
  pull-cost x b k d h (no q) =
      free (to_link (S.link x k d) (λ z. pull z b k d)) (λ n s. by s)
      (omega (
        arith,
        total-link (rank num) (S.link x k d) (λ z. pull z b k d) (3 * numbers + room num d x - 1)
            (λ z e. omega (arith, room-less num small (h.link_side e))),
      ))
    where
      by : {n : Msg} → Sends G S (pull x b k d) n → Memᴰ n (to_link (S.link x k d) (λ z. pull z b k d))
      by (hit p e) = absurd (q p)
      by (go p e) = search is-sent

  pub open-cost : {m : Msg} → Proper G S → Ok G m → Cost G S m
  open-cost h (ok-meet {x} {y} {k} p ne) =
      let q = seat-side G x y p.fst p.snd ne in meet-cost h q.1 (way h p.snd (S.link x k q.0) refl)
  open-cost h (ok-probe {x} {y} {k} p ne w) =
      let q = seat-side G x y p.fst p.snd ne in probe-cost h (lt-opp q.1) (dec-T (ltb k (share G x y)))
  open-cost h (ok-pull {x} {k} {b} {d} s w) = pull-cost x b k d h (Bool-discrete (bit_of G k x) b)

-- a link that is set gets nearer
module _ (G : World) where
  open G use {num, small}

  set-nearer : {S S' : State} {m : Msg} {x k : ℕ} {d : Side} {v : Option ℕ} → Opened G S m S' → Sets G S m x k d v
      → reach num x (S'.link x k d) < reach num x (S.link x k d)
  unfolding reach
  set-nearer {x = x} t (sets {y = y} l (no_old e)) = rw (t.moved (sets l (no_old e)), e) (dist-most num small x y)
  set-nearer t (sets l (far o e n)) = rw (t.moved (sets l (far o e n)), e) (dist-in num small l n)

  -- no link gets farther
  reach-le : {S S' : State} {m : Msg} → Opened G S m S' → (x k : ℕ) (d : Side) → reach num x (S'.link x k d) ≤ reach num x (S.link x k d)
  reach-le {S} {S'} {m} t x k d = by (t.frame x k d)
    where
      by : (S'.link x k d ≡ S.link x k d) ⊎ ((v : Option ℕ) × Sets G S m x k d v) → reach num x (S'.link x k d) ≤ reach num x (S.link x k d)
      by (inl e) = rw e (omega arith)
      by (inr s) = omega (arith, set-nearer t s.1)

  module _ (N W : ℕ) {S S' : State} {m : Msg} (t : Opened G S m S') where
    row-le : (x k : ℕ)
        → reach num x (S'.link x k left) + reach num x (S'.link x k right) ≤ reach num x (S.link x k left) + reach num x (S.link x k right)
    row-le x k = omega (arith, reach-le t x k left, reach-le t x k right)

    reaches-le : reaches num N W S'.link ≤ reaches num N W S.link
    unfolding reaches
    reaches-le = sum-le N _ _ (λ x l. sum-le (suc W) _ _ (λ k p. row-le x k))

    row-less : (x k : ℕ) (d : Side) → reach num x (S'.link x k d) < reach num x (S.link x k d)
        → reach num x (S'.link x k left) + reach num x (S'.link x k right) < reach num x (S.link x k left) + reach num x (S.link x k right)
    row-less x k left s = omega (arith, reach-le t x k right)
    row-less x k right s = omega (arith, reach-le t x k left)

    reaches-less : {x k : ℕ} {d : Side} {v : Option ℕ} → x < N → k ≤ W → Sets G S m x k d v
        → reaches num N W S'.link < reaches num N W S.link
    unfolding reaches
    reaches-less {x} {k} {d} p q s =
        sum_less N _ _ (λ y l. sum-le (suc W) _ _ (λ j i. row-le y j)) x p
        (sum_less (suc W) _ _ (λ j i. row-le x j) k (omega arith) (row-less x k d (set-nearer t s)))

-- the measure of phase open falls
pub open-less : (N W : ℕ) (G : World) (M M' : Meaning) {m : Msg} → Ok G m → Opened G (state_of M) m (state_of M')
    → Cost G (state_of M) m → T (exists N W m) → ((x k y : ℕ) → Pair G k x y → (x < N) × (k ≤ W))
    → 8 * numbers * reaches G.num N W M'.link + mass N W (rank G.num) M'.pending
    < 8 * numbers * reaches G.num N W M.link + mass N W (rank G.num) M.pending
open-less N W G M M' {m} o t c x place = by c
  where
    lighter : (l : List Msg) → Holds (Sends G (state_of M) m) l
        → mass N W (rank G.num) M'.pending + rank G.num m ≤ mass N W (rank G.num) M.pending + total (rank G.num) l
    lighter l h = mass-step N W (rank G.num) M.pending M'.pending m l x t.was (λ n q. ⊎_map (λ p. p) (h n) (t.only q))

    by : Cost G (state_of M) m
        → 8 * numbers * reaches G.num N W M'.link + mass N W (rank G.num) M'.pending
        < 8 * numbers * reaches G.num N W M.link + mass N W (rank G.num) M.pending
    by (free l h q) = omega (arith, mul-le-mul_left (8 * numbers) (reaches-le G N W t), lighter l h)
    by (paid {x = a} {k = k} {y = y} s l h u) =
        let q = place a k y (sets-pair o s) in
        omega (arith, mul-le-mul_left (8 * numbers) (reaches-less G N W t q.0 q.1 s), lighter l h)
