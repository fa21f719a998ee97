-- MEET, PROBE and PULL do what the relations of Open say: each message that they name is sent, none other is, and a link is set where they
-- set one. The order of a rule's messages does not matter here. Assumes nothing.
use Prim.Native.Nat.{ℕ, suc, ◌<◌}
use mathlib.Core.Path.{◌≡◌, refl, ap}
use mathlib.Core.Logic.{inl, inr}
use mathlib.Core.Option.{Option, some}
use mathlib.Core.Bool.{Bool, true, false, not}
use mathlib.Core.List.Memᴰ
use mathlib.Core.List.{List, Memᴰ}
use lib.Dec.{T, ltb, ltb→lt, lt→ltb}
use borrow.Author.Tests.{eq-eqb, ne_eqb}
use Rattle.graph.specs.Side.{Side, opp, on_side, side_of}
use Rattle.graph.specs.Vector.{same_bit}
use Rattle.graph.specs.inner.Order.{Lt}
use Rattle.graph.proofs.Order.{opp-opp, lt-opp, lt-ne, lt-ne', lt-asym, lt-side, on-lt, lt-on, side-of}
use Rattle.graph.proofs.Shared.{same-eq, eq-same}
use Rattle.base.proofs.Tests.{T_true, true-T, not-T-false}
use Rattle.protocol.specs.Message.{Msg, meet, probe, pull, going, seek, found, none_found, name_of}
use Rattle.protocol.specs.Rules.{SeatState, Entry, set, Effect, setting, meeting, probing, pulling, effect}
use Rattle.protocol.proofs.World.{World, State, share, bit_of, seat-side}
use Rattle.protocol.proofs.Sent.{is-sent, All, all_both, all-sent}
use Rattle.protocol.proofs.Delivery.{keeps-right, sets-right}
use Rattle.protocol.proofs.Open.{Old, no_old, far, Sends, on, back, hand, ask, call, up, pass, hit, go, Sets, sets, Ok, ok-meet, ok-probe}
use Rattle.protocol.proofs.Open.{ok-pull, Proper, Does, MeetSends, m_on, m_back, m_hand, m_ask, m_call, Way, same, beyond, nearer, way, meet-sends}
use Rattle.protocol.proofs.Open.{not-old, old-far, same-sends, beyond-sends, none-set}

-- the entry of x in a state
abbrev pub entry_in : World → State → SeatState → ℕ → Entry
entry_in G S s x = record { state = s; number = G.num x; vector = G.vec x; link = S.link x }

-- a PROBE or a PULL is below level W
abbrev Below : ℕ → Msg → Type 0
Below W (meet t a l) = Unit {0}
Below W (probe t a l) = l < W
Below W (pull t b l d) = l < W
Below W (going t l d) = Unit {0}
Below W (seek t a l) = Unit {0}
Below W (found t a l) = Unit {0}
Below W (none_found t l d) = Unit {0}

module _ (G : World) (S : State) (st : SeatState) where
  -- what the rule of a message does
  abbrev does : Msg → Effect
  does m = effect G.W G.num G.vec (entry_in G S st (name_of m).to) m

  -- a MEET that sets the link of x to y
  module _ (x y k : ℕ) (d : Side) where
    abbrev sends : List Msg
    sends = (setting G.W G.num G.vec (entry_in G S st x) x y k d).sent

    -- no PROBE and no PULL at the top level
    below_top : All (Below G.W) sends
    unfolding setting
    below_top = search (all-sent, ltb→lt) depth 8

    -- y gets to know x
    sends-back : Memᴰ (meet y x k) sends
    unfolding setting
    sends-back = search is-sent

    -- and the old link
    sends-old : {o : ℕ} → S.link x k d ≡ some o → Memᴰ (meet y o k) sends
    unfolding setting
    sends-old e = search is-sent

    -- below the top level a PROBE goes out
    sends-probe : k < G.W → Memᴰ (probe y x k) sends
    unfolding setting
    sends-probe w = search (is-sent, lt→ltb)

    -- and a PULL the other way
    sends-pull : {z : ℕ} → k < G.W → S.link x k (opp d) ≡ some z → Memᴰ (pull z (not (bit_of G k x)) k (opp d)) sends
    unfolding setting
    sends-pull w e = search (is-sent, lt→ltb)

    sends-all : {n : Msg} → Old G S x k d y → MeetSends G S x y k d n → Memᴰ n sends
    sends-all p (m_on f n) = not-old f (inr n) p
    sends-all p (m_back q) = sends-back
    sends-all p (m_hand f n) = sends-old f
    sends-all p (m_ask q w) = sends-probe w
    sends-all p (m_call q w f) = sends-pull w f

    -- nothing else is sent
    sends-only : Lt G.num d x y → Old G S x k d y → All (λ n. Below G.W n → Sends G S (meet x y k) n) sends
    unfolding setting
    sends-only l p = search (all-sent, backs, hands, ask l p, calls) depth 8
      where
        backs : Unit {0} → Sends G S (meet x y k) (meet y x k)
        backs u = back l p

        hands : (o : ℕ) → S.link x k d ≡ some o → Unit {0} → Sends G S (meet x y k) (meet y o k)
        hands o e u = hand l e (old-far p e)

        calls : (z : ℕ) → S.link x k (opp d) ≡ some z → k < G.W → Sends G S (meet x y k) (pull z (not (bit_of G k x)) k (opp d))
        calls z e w = call l p w e

    -- nothing else is sent, and the link is set
    sets_it : Lt G.num d x y → Old G S x k d y → Does G S (meet x y k) (setting G.W G.num G.vec (entry_in G S st x) x y k d)
    sets_it l p = sets-right changed (sets l p) (λ a j c v s. one s) (λ n s. sends-all p (meet-sends l s)) (all_both below_top (sends-only l p))
      where
        changed : (setting G.W G.num G.vec (entry_in G S st x) x y k d).change ≡ set k d (some y)
        changed = unfold setting in refl

        one : {a j : ℕ} {c : Side} {v : Option ℕ} → Sets G S (meet x y k) a j c v → (a ≡ x) × (set k d (some y) ≡ set j c v)
        one (sets l' q) = (refl, ap (λ (e : Side). set k e (some y)) (lt-side l l'))

  -- MEET: nothing where the lot is the link already, on to the link where that is nearer, and otherwise the link is set
  meet_right : {x y k : ℕ} {d : Side} → Lt G.num d x y → Way G S x y k d → Does G S (meet x y k) (does (meet x y k))
  unfolding effect meeting
  meet_right {x} {y} {k} {d} l (same e) =
      rw (side-of G.num l, e, eq-eqb y y refl)
      (keeps-right refl (λ a j c v s. none-set l e (inl refl) s) (λ n s. absurd (same-sends e (meet-sends l s))) (search all-sent))
  meet_right {x} {y} {k} {d} l (beyond {o} e n) =
      let t : on_side d (G.num o) (G.num y) ≡ true = T_true (lt-on G.num n) in
      let ons : Sends G S (meet x y k) (meet o y k) = on l e n in
      rw (side-of G.num l, e, ne_eqb o y (lt-ne n), side-of G.num l, t)
      (keeps-right refl (λ a j c v s. none-set l e (inr n) s) (λ m s. Memᴰ.cast (beyond-sends e n (meet-sends l s)) (search is-sent))
      (search all-sent))
  meet_right {x} {y} {k} {d} l (nearer (no_old e)) = rw (side-of G.num l, e, side-of G.num l) (sets_it x y k d l (no_old e))
  meet_right {x} {y} {k} {d} l (nearer (far o e n)) =
      let f : on_side d (G.num o) (G.num y) ≡ false = not-T-false (λ t. lt-asym (on-lt G.num d o y t) n) in
      rw (side-of G.num l, e, ne_eqb o y (lt-ne' n), side-of G.num l, f) (sets_it x y k d l (far o e n))

  -- PROBE: the side away from y
  away : {x y : ℕ} {d : Side} → Lt G.num d y x → opp (side_of (G.num x) (G.num y)) ≡ d
  away {d = d} l = rw (side-of G.num (lt-opp l), opp-opp d)

  module _ (x y k : ℕ) where
    abbrev probed : List Msg
    probed = probing G.W G.num G.vec (entry_in G S st x) x y k

    probed-all : {n : Msg} → Sends G S (probe x y k) n → Memᴰ n probed
    unfolding probing
    probed-all (up q) = search (is-sent, lt→ltb)
    probed-all (pass {z = z} q l e) = rw (away l) (search (is-sent, ltb→lt))

    probed-only : {d : Side} → Lt G.num d y x → All (Sends G S (probe x y k)) probed
    unfolding probing
    probed-only {d} l = rw (away l) (search (all-sent, ups, passes))
      where
        ups : T (ltb k (share G x y)) → Sends G S (probe x y k) (meet x y (suc k))
        ups t = up (ltb→lt k (share G x y) t)

        passes : (z : ℕ) → ¬ (T (ltb k (share G x y))) → S.link x k d ≡ some z → Sends G S (probe x y k) (probe z y k)
        passes z n e = pass (λ w. n (lt→ltb k (share G x y) w)) l e

  module _ (x : ℕ) (b : Bool) (k : ℕ) (d : Side) where
    abbrev pulled : List Msg
    pulled = pulling G.W G.num G.vec (entry_in G S st x) x b k d

    fits : bit_of G k x ≡ b → T (same_bit (bit_of G k x) b)
    fits q = true-T (eq-same (bit_of G k x) b q)

    fitting : T (same_bit (bit_of G k x) b) → bit_of G k x ≡ b
    fitting t = same-eq (bit_of G k x) b (T_true t)

    pulled-all : {n : Msg} → Sends G S (pull x b k d) n → Memᴰ n pulled
    unfolding pulling
    pulled-all (hit q e) = search (is-sent, fits)
    pulled-all (go q e) = search (is-sent, fitting)

    pulled-only : All (Sends G S (pull x b k d)) pulled
    unfolding pulling
    pulled-only = search (all-sent, hits, goes)
      where
        hits : (z : ℕ) → T (same_bit (bit_of G k x) b) → S.link x k (opp d) ≡ some z → Sends G S (pull x b k d) (probe z x k)
        hits z t e = hit (fitting t) e

        goes : (z : ℕ) → ¬ (T (same_bit (bit_of G k x) b)) → S.link x k d ≡ some z → Sends G S (pull x b k d) (pull z b k d)
        goes z n e = go (λ q. n (fits q)) e

  -- the rule of each message that is proper in phase open does what the relations say
  pub open-right : {m : Msg} → Proper G S → Ok G m → Does G S m (does m)
  unfolding effect
  open-right h (ok-meet {x} {y} {k} p ne) = let q = seat-side G x y p.fst p.snd ne in meet_right q.1 (way h p.snd (S.link x k q.0) refl)
  open-right h (ok-probe {x} {y} {k} p ne w) =
      let q = seat-side G x y p.fst p.snd ne in
      keeps-right refl (λ a j c v s. elim s [ ]) (λ n s. probed-all x y k s) (probed-only x y k (lt-opp q.1))
  open-right h (ok-pull {x} {k} {b} {d} s w) = keeps-right refl (λ a j c v s. elim s [ ]) (λ n s. pulled-all x b k d s) (pulled-only x b k d)
