-- Kinds 1 to 3 as relations: what MEET, PROBE and PULL send and set, which messages and links are proper in phase open, and that
-- deliveries keep them so; and the ways that a MEET can go. Assumes nothing.
use Prim.Native.Nat.{ℕ, suc, ◌<◌}
use mathlib.Core.Path.{◌≡◌, refl, ◌∙◌, ap, subst}
use mathlib.Core.Logic.{◌⊎◌, inl, inr, ◌≢◌}
use mathlib.Core.Option.{Option, none, some}
use mathlib.Core.Bool.{Bool, not}
use Rattle.graph.specs.Side.{Side, opp}
use Rattle.graph.specs.inner.Order.{Lt}
use Rattle.graph.proofs.Order.{lt_trans, lt-ne, lt-ne', lt-eq, lt-asym, lt-side}
use Rattle.base.proofs.Tests.{none-some}
use Rattle.protocol.specs.Message.{Msg, meet, probe, pull, name_of}
use Rattle.protocol.specs.Rules.{Effect}
use Rattle.protocol.proofs.World.{World, State, share, bit_of, Pair, pair-sym, pair-trans, seat-tri}
use Rattle.protocol.proofs.Delivery.{Delivery, Right, link-cases}

module _ (G : World) (S : State) where
  open G use {W, num}

  -- the link of x on side d is none, or farther than y
  pub data Old (x k : ℕ) (d : Side) (y : ℕ) : Type 0 where
    no_old : S.link x k d ≡ none → Old x k d y
    far : (o : ℕ) → S.link x k d ≡ some o → Lt num d y o → Old x k d y

  -- what the delivery of a message sends
  pub data Sends : Msg → Msg → Type 0 where
    on : {x y k o : ℕ} {d : Side} → Lt num d x y → S.link x k d ≡ some o → Lt num d o y → Sends (meet x y k) (meet o y k)
    back : {x y k : ℕ} {d : Side} → Lt num d x y → Old x k d y → Sends (meet x y k) (meet y x k)
    hand : {x y k o : ℕ} {d : Side} → Lt num d x y → S.link x k d ≡ some o → Lt num d y o → Sends (meet x y k) (meet y o k)
    ask : {x y k : ℕ} {d : Side} → Lt num d x y → Old x k d y → k < W → Sends (meet x y k) (probe y x k)
    call : {x y k z : ℕ} {d : Side} → Lt num d x y → Old x k d y → k < W → S.link x k (opp d) ≡ some z
        → Sends (meet x y k) (pull z (not (bit_of G k x)) k (opp d))
    up : {x y k : ℕ} → k < share G x y → Sends (probe x y k) (meet x y (suc k))
    pass : {x y k z : ℕ} {d : Side} → ¬ (k < share G x y) → Lt num d y x → S.link x k d ≡ some z → Sends (probe x y k) (probe z y k)
    hit : {x k z : ℕ} {b : Bool} {d : Side} → bit_of G k x ≡ b → S.link x k (opp d) ≡ some z → Sends (pull x b k d) (probe z x k)
    go : {x k z : ℕ} {b : Bool} {d : Side} → bit_of G k x ≢ b → S.link x k d ≡ some z → Sends (pull x b k d) (pull z b k d)

  -- the link that the delivery of a message sets
  pub data Sets : Msg → ℕ → ℕ → Side → Option ℕ → Type 0 where
    sets : {x y k : ℕ} {d : Side} → Lt num d x y → Old x k d y → Sets (meet x y k) x k d (some y)

module _ (G : World) where
  abbrev pub Opened : State → Msg → State → Type 0
  Opened S m S' = Delivery (Sends G S) (Sets G S) S m S'

  -- an effect is what they say
  abbrev pub Does : State → Msg → Effect → Type 0
  Does S m e = Right (Sends G S) (Sets G S) m e

  pub data Ok : Msg → Type 0 where
    ok-meet : {x y k : ℕ} → Pair G k x y → x ≢ y → Ok (meet x y k)
    ok-probe : {x y k : ℕ} → Pair G k x y → x ≢ y → k < G.W → Ok (probe x y k)
    ok-pull : {x k : ℕ} {b : Bool} {d : Side} → G.Seated x → k < G.W → Ok (pull x b k d)

  pub record Proper (S : State) : Type 0 where
    pub link-pair : {x k y : ℕ} {d : Side} → S.link x k d ≡ some y → Pair G k x y
    pub link_side : {x k y : ℕ} {d : Side} → S.link x k d ≡ some y → Lt G.num d x y
    pub pend-ok : {m : Msg} → S.pend m → Ok m

module _ {G : World} where
  pub ok-pair : {x y k : ℕ} → Ok G (meet x y k) → Pair G k x y
  ok-pair (ok-meet p q) = p

  pub ok-ne : {x y k : ℕ} → Ok G (meet x y k) → x ≢ y
  ok-ne (ok-meet p q) = q

  -- the lot that a message is sent to
  pub ok-to : {m : Msg} → Ok G m → G.Seated (name_of m).to
  ok-to (ok-meet p q) = p.fst
  ok-to (ok-probe p q w) = p.fst
  ok-to (ok-pull s w) = s

  pub sets-pair : {S : State} {m : Msg} {x k y : ℕ} {d : Side} → Ok G m → Sets G S m x k d (some y) → Pair G k x y
  sets-pair (ok-meet p ne) (sets l o) = p
  sets-pair (ok-probe p ne w) s = elim s [ ]
  sets-pair (ok-pull s w) t = elim t [ ]

  pub sets-side : {S : State} {m : Msg} {x k y : ℕ} {d : Side} → Sets G S m x k d (some y) → Lt G.num d x y
  sets-side (sets l o) = l

  -- what a MEET sets is a link to its lot, on a side where that lies
  pub meet-lot : {S : State} {x y k a j : ℕ} {c : Side} {v : Option ℕ} → Sets G S (meet x y k) a j c v → v ≡ some y
  meet-lot (sets l o) = refl

  pub meet-side : {S : State} {x y k a j : ℕ} {c : Side} {v : Option ℕ} → Sets G S (meet x y k) a j c v → Lt G.num c x y
  meet-side (sets l o) = l

  -- a link that is y or nearer is not old
  pub not-old : {S : State} {x y k o : ℕ} {d : Side} {A : Type 0} → S.link x k d ≡ some o → (o ≡ y) ⊎ Lt G.num d o y → Old G S x k d y → A
  not-old e u (no_old f) = none-some f e
  not-old {o = o} e (inl p) (far v f n) = let q : v ≡ o = cc in absurd (lt-ne' (lt-eq n q) p)
  not-old {o = o} e (inr p) (far v f n) = let q : v ≡ o = cc in absurd (lt-asym p (lt-eq n q))

  pub sends-ok : {S : State} {m n : Msg} → Proper G S → Ok G m → Sends G S m n → Ok G n
  sends-ok h (ok-meet p ne) (on l e n) = ok-meet (pair-trans (pair-sym (h.link-pair e)) p) (lt-ne n)
  sends-ok h (ok-meet p ne) (back l o) = ok-meet (pair-sym p) (lt-ne' l)
  sends-ok h (ok-meet p ne) (hand l e n) = ok-meet (pair-trans (pair-sym p) (h.link-pair e)) (lt-ne n)
  sends-ok h (ok-meet p ne) (ask l o w) = ok-probe (pair-sym p) (lt-ne' l) w
  sends-ok h (ok-meet p ne) (call l o w e) = ok-pull (h.link-pair e).snd w
  sends-ok h (ok-probe p ne w) (up s) = ok-meet (record { fst = p.fst; snd = p.snd; same = p.same; bits = s }) ne
  sends-ok h (ok-probe p ne w) (pass s l e) = ok-probe (pair-trans (pair-sym (h.link-pair e)) p) (lt-ne' (lt_trans l (h.link_side e))) w
  sends-ok h (ok-pull s w) (hit b e) = ok-probe (pair-sym (h.link-pair e)) (lt-ne' (h.link_side e)) w
  sends-ok h (ok-pull s w) (go b e) = ok-pull (h.link-pair e).snd w

  pub proper-kept : {S S' : State} {m : Msg} → Proper G S → Opened G S m S' → Proper G S'
  proper-kept {S} {S'} {m} h t = record { link-pair = λ e. pr (link-cases t e); link_side = λ e. sd (link-cases t e); pend-ok = λ p. ok (t.only p) }
    where
      pr : {x k y : ℕ} {d : Side} → (S.link x k d ≡ some y) ⊎ Sets G S m x k d (some y) → Pair G k x y
      pr (inl e) = h.link-pair e
      pr (inr s) = sets-pair (h.pend-ok t.was) s

      sd : {x k y : ℕ} {d : Side} → (S.link x k d ≡ some y) ⊎ Sets G S m x k d (some y) → Lt G.num d x y
      sd (inl e) = h.link_side e
      sd (inr s) = sets-side s

      ok : {n : Msg} → (S.pend n × (n ≢ m)) ⊎ Sends G S m n → Ok G n
      ok (inl p) = h.pend-ok p.0
      ok (inr s) = sends-ok h (h.pend-ok t.was) s

-- the sends of a MEET, all on the side of its lot
pub data MeetSends (G : World) (S : State) (x y k : ℕ) (d : Side) : Msg → Type 0 where
  m_on : {o : ℕ} → S.link x k d ≡ some o → Lt G.num d o y → MeetSends G S x y k d (meet o y k)
  m_back : Old G S x k d y → MeetSends G S x y k d (meet y x k)
  m_hand : {o : ℕ} → S.link x k d ≡ some o → Lt G.num d y o → MeetSends G S x y k d (meet y o k)
  m_ask : Old G S x k d y → k < G.W → MeetSends G S x y k d (probe y x k)
  m_call : {z : ℕ} → Old G S x k d y → k < G.W → S.link x k (opp d) ≡ some z → MeetSends G S x y k d (pull z (not (bit_of G k x)) k (opp d))

-- what a MEET meets: its lot is the link already, lies beyond it, or is nearer
pub data Way (G : World) (S : State) (x y k : ℕ) (d : Side) : Type 0 where
  same : S.link x k d ≡ some y → Way G S x y k d
  beyond : {o : ℕ} → S.link x k d ≡ some o → Lt G.num d o y → Way G S x y k d
  nearer : Old G S x k d y → Way G S x y k d

module _ {G : World} {S : State} {x y k : ℕ} {d : Side} where
  pub way : Proper G S → G.Seated y → (v : Option ℕ) → S.link x k d ≡ v → Way G S x y k d
  way h sy none e = nearer (no_old e)
  way h sy (some o) e = by (seat-tri G d o y (h.link-pair e).snd sy)
    where
      by : (o ≡ y) ⊎ (Lt G.num d o y ⊎ Lt G.num d y o) → Way G S x y k d
      by (inl q) = same (e ∙ ap some q)
      by (inr (inl n)) = beyond e n
      by (inr (inr n)) = nearer (far o e n)

  pub meet-sends : {n : Msg} → Lt G.num d x y → Sends G S (meet x y k) n → MeetSends G S x y k d n
  meet-sends l (on {o = o} l' e n) = subst (λ (c : Side). MeetSends G S x y k c (meet o y k)) (lt-side l' l) (m_on e n)
  meet-sends l (back l' o) = subst (λ (c : Side). MeetSends G S x y k c (meet y x k)) (lt-side l' l) (m_back o)
  meet-sends l (hand {o = o} l' e n) = subst (λ (c : Side). MeetSends G S x y k c (meet y o k)) (lt-side l' l) (m_hand e n)
  meet-sends l (ask l' o w) = subst (λ (c : Side). MeetSends G S x y k c (probe y x k)) (lt-side l' l) (m_ask o w)
  meet-sends l (call {z = z} {d = c} l' o w e) =
      subst (λ (b : Side). MeetSends G S x y k b (pull z (not (bit_of G k x)) k (opp c))) (lt-side l' l) (m_call o w e)

  -- an old link lies beyond
  pub old-far : {o : ℕ} → Old G S x k d y → S.link x k d ≡ some o → Lt G.num d y o
  old-far (no_old f) e = none-some f e
  old-far {o} (far v f n) e = let q : v ≡ o = cc in lt-eq n q

  -- nothing is sent where the link is y, and one message where it is nearer
  pub same-sends : {n : Msg} → S.link x k d ≡ some y → MeetSends G S x y k d n → ⊥
  same-sends e (m_on f n) = lt-ne n (cc)
  same-sends e (m_back p) = not-old e (inl refl) p
  same-sends e (m_hand f n) = lt-ne' n (cc)
  same-sends e (m_ask p w) = not-old e (inl refl) p
  same-sends e (m_call p w f) = not-old e (inl refl) p

  pub beyond-sends : {o : ℕ} {n : Msg} → S.link x k d ≡ some o → Lt G.num d o y → MeetSends G S x y k d n → n ≡ meet o y k
  beyond-sends {o} e q (m_on {o = v} f n) = let r : v ≡ o = cc in ap (λ (z : ℕ). meet z y k) r
  beyond-sends e q (m_back p) = not-old e (inr q) p
  beyond-sends {o} e q (m_hand {o = v} f n) = let r : v ≡ o = cc in absurd (lt-asym q (lt-eq n r))
  beyond-sends e q (m_ask p w) = not-old e (inr q) p
  beyond-sends e q (m_call p w f) = not-old e (inr q) p

  -- nothing is set where the link is y or nearer
  pub none-set : {o : ℕ} → Lt G.num d x y → S.link x k d ≡ some o → (o ≡ y) ⊎ Lt G.num d o y
      → {a j : ℕ} {c : Side} {v : Option ℕ} → Sets G S (meet x y k) a j c v → ⊥
  none-set l e u (sets l' p) = not-old e u (subst (λ (s : Side). Old G S x k s y) (lt-side l' l) p)
