-- Reserving, confirming, giving back and leave keep what every reached meaning has. A join is a reservation and its confirmation. Assumes nothing.
use Prim.Native.Nat.{ℕ, ◌<◌}
use mathlib.Core.Path.{◌≡◌, refl, sym, ◌∙◌, ap, subst, subst₂, fun_ext}
use mathlib.Core.Logic.{◌⊎◌, inl, inr, ◌≢◌}
use mathlib.Core.Option.{none}
use mathlib.Core.Bool.{Bool, true, false, cond}
use mathlib.Core.List.Memᴰ
use mathlib.Core.List.{List, [], ◌∷◌, Memᴰ}
use native.Mathlib.Omega.{arith}
use native.Mathlib.Decide.{dec_lt, ℕ_discrete}
use lib.Dec.{T, ltb}
use borrow.Author.Tests.{lt-ltb, le-ltb}
use Rattle.graph.specs.Graph.{Links}
use Rattle.base.proofs.Tests.{false-T, not-T-false, true-false}
use Rattle.protocol.specs.Message.{Msg, meet, name_of, among}
use Rattle.protocol.specs.Rules.{SeatState, free, staying, leaving, reserved, is_staying}
use Rattle.protocol.specs.State.{Phase, open_phase, clearing, Seats, Meaning, is_seated, seated, stays}
use Rattle.protocol.specs.Calls.{reserve, confirm, give_back, leave, seats_after, sends, takes, links_after, accept}
use Rattle.protocol.specs.Page.{marking, seating, without_links, is_taken, pending_after}
use Rattle.protocol.specs.pages.Join.{admitted}
use Rattle.protocol.specs.Sound.{Sound}
use Rattle.protocol.specs.Tied.{Uniting}
use Rattle.protocol.proofs.Message.{among-mem, mem-among}
use Rattle.protocol.proofs.Calls.{at_same, at_other, at-tested, after_nothing, after-came, after_kept, after-only}
use Rattle.protocol.proofs.Delivery.{state_of}
use Rattle.protocol.proofs.World.{World, Pair, pair-sym}
use Rattle.protocol.proofs.Open.{ok-to}
use Rattle.protocol.proofs.Clearing.{AllLinks, Clearing}
use Rattle.protocol.proofs.Invariant.{invariant-first}
use Rattle.protocol.proofs.Join.{Has, zero-pair, invariant-same, Near, Ties, Meets, invariant-tied}
use Rattle.protocol.proofs.SameLots.{links-same, clearing-same}
use Rattle.protocol.proofs.SoundFacts.{not-clearing, free-empty, held-empty, empty-stays, empty-unlinked, seated-below}
use Rattle.protocol.proofs.Accepted.{Reserves, Confirms, GivesBack, Leaves}
use Rattle.protocol.proofs.Reserving.{seated-seating, bare-links}
use Rattle.protocol.proofs.Reached.{Laws, sound-laws, world_of, Stayer, Sane, in_open, in-clearing}

-- the pending messages after a call that takes none
module _ (sent : List Msg) (p : Msg → Bool) where
  after-old : (m : Msg) → T (p m) → T (pending_after sent none p m)
  unfolding is_taken
  after-old m t = by (after_kept sent none p m t)
    where
      by : ⊥ ⊎ T (pending_after sent none p m) → T (pending_after sent none p m)
      by (inl u) = absurd u
      by (inr u) = u

  pub after-only-sent : (m : Msg) → T (pending_after sent none p m) → T (p m) ⊎ Memᴰ m sent
  unfolding is_taken
  after-only-sent m t = by (after-only sent none p m t)
    where
      by : (T (p m) × (⊥ → ⊥)) ⊎ T (among sent m) → T (p m) ⊎ Memᴰ m sent
      by (inl u) = inl u.0
      by (inr u) = inr (among-mem sent u)

  pub after-sent : (m : Msg) → Memᴰ m sent → T (pending_after sent none p m)
  after-sent m i = after-came sent none p m (mem-among sent i)

-- one MEET is sent, and links stay
pub meets-sent : (M : Meaning) (a b : ℕ)
    → Meets (state_of M) (record { link = M.link; pend = λ m. T (pending_after (meet a b 0 ∷ []) none M.pending m) }) a b
meets-sent M a b = record {
  keeps = record { same-link = λ x k d. refl; kept = λ m t. after-old sent M.pending m t };
  hello = after-sent sent M.pending (meet a b 0) (Memᴰ.head refl);
  only = λ m t. one (after-only-sent sent M.pending m t);
}
  where
    sent : List Msg
    sent = meet a b 0 ∷ []

    one : {m : Msg} → T (M.pending m) ⊎ Memᴰ m (meet a b 0 ∷ []) → T (M.pending m) ⊎ (m ≡ meet a b 0)
    one (inl t) = inl t
    one (inr t) = inr (Memᴰ.eq_of_singleton t)

-- the same lots sit, each with its number and vector
pub record SameSeated (r r' : Seats) : Type 0 where
  pub same : (x : ℕ) → seated r' x ≡ seated r x
  pub number : (x : ℕ) → T (seated r x) → r'.number x ≡ r.number x
  pub vector : (x : ℕ) → T (seated r x) → r'.vector x ≡ r.vector x

same_back : {r r' : Seats} → SameSeated r r' → SameSeated r' r
same_back q = record {
  same = λ x. sym (q.same x);
  number = λ x t. sym (q.number x (rw (q.same x) at t));
  vector = λ x t. sym (q.vector x (rw (q.same x) at t));
}

-- what of seats and lots the invariants do not look at: the state of a lot in phase open, and seats without lots
module _ (comp : ℕ → ℕ) {W : ℕ} where
  has : {r r' : Seats} → SameSeated r r' → (l : Laws r) (l' : Laws r') → Has (world_of comp W r l) (world_of comp W r' l')
  has q l l' = record {
    agree = record { width = refl; number = q.number; vector = q.vector };
    still = λ x t. rw (q.same x) t;
    within = λ x y t u e. e;
  }

  -- links and messages stay, too
  sane-same : {N : ℕ} {M : Meaning} → Sound N W M → {r' : Seats} {p : Phase} → SameSeated M.seats r'
      → (p ≡ clearing → stays r' ≡ stays M.seats) → Sane comp W M p
      → Sane comp W (record { seats = r'; link = M.link; pending = M.pending }) p
  sane-same h q e (in_open i) = let l = sound-laws h in in_open (λ l'. invariant-same (has q l l') (has (same_back q) l' l) (i l))
  sane-same {M = M} h {r'} q e (in-clearing L a i) =
      let l = sound-laws h in
      in-clearing L
      (λ l'. subst (λ (f : ℕ → Bool). AllLinks (world_of comp W r' l') (λ x. T (f x)) L) (sym (e refl))
      (links-same (has q l l') (has (same_back q) l' l) (Stayer M.seats) (a l)))
      (λ l'. subst (λ (f : ℕ → Bool). Clearing (world_of comp W r' l') (λ x. T (f x)) L (state_of M)) (sym (e refl))
      (clearing-same (has q l l') (has (same_back q) l' l) (Stayer M.seats) (i l)))

-- a seat without a lot gets another state, number and vector: reserving and giving back
module _ (comp : ℕ → ℕ) {N W : ℕ} {M : Meaning} (h : Sound N W M) (s : ℕ) (t : SeatState) (n v : ℕ)
    (was : seated M.seats s ≡ false) (is : is_seated t ≡ false) (stay : is_staying t ≡ false) where
  same-seating : SameSeated M.seats (seating s t n v M.seats)
  same-seating = record {
    same = λ x. ap (λ (f : ℕ → Bool). f x) (seated-seating s t n v M.seats was is);
    number = λ x u. at_other s n M.seats.number x (other x u);
    vector = λ x u. at_other s v M.seats.vector x (other x u);
  }
    where
      other : (x : ℕ) → T (seated M.seats x) → x ≢ s
      other x u q = false-T was (subst (λ (y : ℕ). T (seated M.seats y)) q u)

  sane-seating : {p : Phase} → Sane comp W M p
      → Sane comp W (record { seats = seating s t n v M.seats; link = without_links s M.link; pending = pending_after [] none M.pending }) p
  sane-seating {p} i =
      subst₂ (λ (L : Links) (q : Msg → Bool). Sane comp W (record { seats = seating s t n v M.seats; link = L; pending = q }) p)
      (sym (bare-links s M (λ k d. empty-unlinked h s k d was)))
      (sym (after_nothing M.pending))
      (sane-same comp h same-seating (λ e. fun_ext (at-tested s t M.seats.state is_staying (stay ∙ sym (empty-stays M.seats s was)))) i)

module _ (comp : ℕ → ℕ) {N W : ℕ} {M : Meaning} (h : Sound N W M) where
  pub sane-reserve : (s n v : ℕ) → Reserves N W M.seats M.pending s n → Sane comp W M M.seats.phase
      → Sane comp W (accept N W M (reserve s n v)) M.seats.phase
  unfolding accept links_after sends takes seats_after
  sane-reserve s n v ok i = sane-seating comp h s reserved n v (free-empty M.seats s ok.free) refl refl i

  pub sane-give-back : (s : ℕ) → GivesBack N W M.seats M.pending s → Sane comp W M M.seats.phase
      → Sane comp W (accept N W M (give_back s)) M.seats.phase
  unfolding accept links_after sends takes seats_after
  sane-give-back s ok i = sane-seating comp h s free 0 0 (held-empty M.seats s ok.reserved) refl refl i

  -- who is seated stays the same
  pub sane-leave : (s : ℕ) → Leaves N W M.seats M.pending s → Sane comp W M M.seats.phase
      → Sane comp W (accept N W M (leave s)) M.seats.phase
  unfolding accept links_after sends takes seats_after
  sane-leave s ok i =
      subst (λ (q : Msg → Bool). Sane comp W (record { seats = marking s leaving M.seats; link = M.link; pending = q }) M.seats.phase)
      (sym (after_nothing M.pending))
      (sane-same comp h same (λ e. absurd (not-clearing ok.opens e)) i)
    where
      same : SameSeated M.seats (marking s leaving M.seats)
      same = record { same = at-tested s leaving M.seats.state is_seated (sym ok.occupied); number = λ x t. refl; vector = λ x t. refl }

-- confirming: one lot more
module _ (comp : ℕ → ℕ) {N W : ℕ} {M : Meaning} (h : Sound N W M) (s c : ℕ) (ok : Confirms N W M.seats M.pending s c) where
  abbrev r : Seats
  r = M.seats

  abbrev r' : Seats
  r' = marking s staying M.seats

  other : (x : ℕ) → T (seated r x) → x ≢ s
  other x t q = false-T (held-empty r s ok.reserved) (subst (λ (y : ℕ). T (seated r y)) q t)

  who : (x : ℕ) → T (seated r' x) → T (seated r x) ⊎ (x ≡ s)
  who x t = by (ℕ_discrete x s)
    where
      by : Dec (x ≡ s) → T (seated r x) ⊎ (x ≡ s)
      by (yes q) = inr q
      by (no q) = inl (rw (at_other s staying r.state x q) at t)

  -- the components after it
  abbrev comp' : ℕ → ℕ
  comp' = admitted N s c comp

  -- the newcomer is in the component of its contact
  ties : c < N → (l : Laws r) (l' : Laws r') → Ties (world_of comp W r l) (world_of comp' W r' l') c s
  ties p l l' = record {
    has = record {
      agree = record { width = refl; number = λ x t. refl; vector = λ x t. refl };
      still = still;
      within = λ x y t u e. old x t ∙ e ∙ sym (old y u);
    };
    pair = zero-pair G' (still c (ok.contact p)) (rw (at_same s staying r.state s refl) tt) (old c (ok.contact p) ∙ sym new);
    apart = other c (ok.contact p);
    from = λ x y q. by x y (who x q.fst) (who y q.snd) q.same;
  }
    where
      G : World
      G = world_of comp W r l

      G' : World
      G' = world_of comp' W r' l'

      still : (x : ℕ) → T (seated r x) → T (seated r' x)
      still x t = rw (at_other s staying r.state x (other x t)) t

      old : (x : ℕ) → T (seated r x) → comp' x ≡ comp x
      old x t = at_other s _ comp x (other x t)

      new : comp' s ≡ comp c
      new = at_same s _ comp s refl ∙ ap (λ (b : Bool). cond b (comp c) s) (lt-ltb c N p)

      with-contact : (x y : ℕ) → T (seated r x) → y ≡ s → comp' x ≡ comp' y → Pair G 0 x c
      with-contact x y t q e = zero-pair G t (ok.contact p) (sym (old x t) ∙ e ∙ ap comp' q ∙ new)

      by : (x y : ℕ) → T (seated r x) ⊎ (x ≡ s) → T (seated r y) ⊎ (y ≡ s) → comp' x ≡ comp' y
          → Uniting c s (Near G) x y
      by x y (inl t) (inl u) e = inl (inr (zero-pair G t u (sym (old x t) ∙ e ∙ old y u)))
      by x y (inl t) (inr q) e = inr (inl (inr (with-contact x y t q e), inl (sym q)))
      by x y (inr q) (inl u) e = inr (inr (inl q, inr (pair-sym (with-contact y x u q (sym e)))))
      by x y (inr p) (inr q) e = inl (inl (p ∙ sym q))

  confirmed : Sane comp W M open_phase → Sane comp' W (accept N W M (confirm s c)) open_phase
  unfolding accept links_after sends takes seats_after
  confirmed (in_open i) = by (dec_lt c N)
    where
      sent : Bool → List Msg
      sent b = cond b (meet c s 0 ∷ []) []

      meets : (b : Bool) → b ≡ true → Meets (state_of M) (record { link = M.link; pend = λ m. T (pending_after (sent b) none M.pending m) }) c s
      meets true e = meets-sent M c s
      meets false e = true-false e refl

      l : Laws r
      l = sound-laws h

      by : Dec (c < N) → Sane comp' W (accept N W M (confirm s c)) open_phase
      by (yes p) = in_open (λ l'. invariant-tied (ties p l l') (meets (ltb c N) (lt-ltb c N p)) (i l))
      by (no p) =
          in_open (λ l'. invariant-first (world_of comp' W r' l') _ alone (λ x k d. empty-unlinked h x k d (not-T-false (nobody-in x)))
          (λ m t. silent (ltb c N) (le-ltb c N (omega arith)) m t))
        where
          nobody-in : (x : ℕ) → T (seated r x) → ⊥
          nobody-in x t = ok.alone (omega arith) x (seated-below h x t) t

          newcomer : (x : ℕ) → T (seated r x) ⊎ (x ≡ s) → x ≡ s
          newcomer x (inl t) = absurd (nobody-in x t)
          newcomer x (inr q) = q

          alone : (x y : ℕ) → T (seated r' x) → T (seated r' y) → x ≡ y
          alone x y t u = newcomer x (who x t) ∙ sym (newcomer y (who y u))

          silent : (b : Bool) → b ≡ false → (m : Msg) → T (pending_after (sent b) none M.pending m) → ⊥
          silent true e m t = true-false refl e
          silent false e m t = none_in (after-only-sent [] M.pending m t)
            where
              none_in : T (M.pending m) ⊎ Memᴰ m [] → ⊥
              none_in (inl u) = nobody-in (name_of m).to (ok-to ((i l).proper.pend-ok u))
              none_in (inr u) = Memᴰ.not-nil u

  pub sane-confirm : Sane comp W M M.seats.phase → Sane comp' W (accept N W M (confirm s c)) M.seats.phase
  sane-confirm i = subst (Sane comp' W (accept N W M (confirm s c))) (sym ok.opens) (confirmed (subst (Sane comp W M) ok.opens i))
