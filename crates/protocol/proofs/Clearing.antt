-- Phase clearing: kinds 4 to 7 as relations, and the invariant that leads from the skip graph of all lots to that of the staying lots.
-- Leavers' links never change; a staying lot's link is its old one or its target, the first staying lot of its list on that side; and
-- where it is not yet its target a message is on its way. Assumes nothing.
use Prim.Native.Nat.{ℕ, ◌≤◌}
use mathlib.Core.Path.{◌≡◌, refl, sym, ◌∙◌, subst}
use mathlib.Core.Logic.{◌⊎◌, inl, inr, ◌≢◌}
use mathlib.Core.Option.{Option, none, some}
use Rattle.graph.specs.Side.{Side}
use Rattle.graph.specs.Graph.{Links}
use Rattle.graph.specs.inner.Order.{Lt}
use Rattle.graph.proofs.Order.{lt_trans, lt-side}
use Rattle.base.proofs.Tests.{some_inj, none-some}
use Rattle.protocol.specs.Message.{Msg, going, seek, found, none_found}
use Rattle.protocol.specs.Rules.{Effect}
use Rattle.protocol.proofs.World.{World, State, Quiet, Pair, pair-sym, pair-trans, pair-level}
use Rattle.protocol.proofs.Delivery.{Delivery, Right}

module _ (G : World) (Stay : ℕ → Type 0) where
  -- the target: o is the nearest staying lot on side d in x's list of level k, if any
  pub data Target (k x : ℕ) (d : Side) : Option ℕ → Type 0 where
    nobody : ((z : ℕ) → Pair G k x z → Stay z → Lt G.num d x z → ⊥) → Target k x d none
    nearest : {y : ℕ} → Pair G k x y → Stay y → Lt G.num d x y
        → ((z : ℕ) → Pair G k x z → Stay z → Lt G.num d x z → (z ≡ y) ⊎ Lt G.num d y z) → Target k x d (some y)

  -- what the delivery of a message sends
  pub data Sends (S : State) : Msg → Msg → Type 0 where
    asks : {x k y : ℕ} {d : Side} → Stay x → S.link x k d ≡ some y → Sends S (going x k d) (seek y x k)
    answers : {z x k : ℕ} → Stay z → Sends S (seek z x k) (found x z k)
    passes : {z x k w : ℕ} {d : Side} → ¬ (Stay z) → Lt G.num d x z → S.link z k d ≡ some w → Sends S (seek z x k) (seek w x k)
    gives_up : {z x k : ℕ} {d : Side} → ¬ (Stay z) → Lt G.num d x z → S.link z k d ≡ none → Sends S (seek z x k) (none_found x k d)

  -- the link that the delivery of a message sets
  pub data Sets (S : State) : Msg → ℕ → ℕ → Side → Option ℕ → Type 0 where
    to-found : {x z k : ℕ} {d : Side} → Lt G.num d x z → Sets S (found x z k) x k d (some z)
    to_none : {x k : ℕ} {d : Side} → Sets S (none_found x k d) x k d none

  abbrev pub Cleared : State → Msg → State → Type 0
  Cleared S m S' = Delivery (Sends S) (Sets S) S m S'

  -- an effect is what they say
  abbrev pub Does : State → Msg → Effect → Type 0
  Does S m e = Right (Sends S) (Sets S) m e

  -- the graph of all lots, at the turn
  pub record AllLinks (L : Links) : Type 0 where
    pub pair : {x k y : ℕ} {d : Side} → L x k d ≡ some y → Pair G k x y
    pub side : {x k y : ℕ} {d : Side} → L x k d ≡ some y → Lt G.num d x y
    pub least : {x k y : ℕ} {d : Side} → L x k d ≡ some y → (z : ℕ) → Pair G k x z → Lt G.num d x z → (z ≡ y) ⊎ Lt G.num d y z
    pub last : {x k : ℕ} {d : Side} → L x k d ≡ none → (z : ℕ) → Pair G k x z → Lt G.num d x z → ⊥

  -- what a pending message says is true
  pub data Ok : Msg → Type 0 where
    ok-going : {x k : ℕ} {d : Side} → G.Seated x → k ≤ G.W → Ok (going x k d)
    -- no staying lot lies between x and z
    ok-seek : {z x k : ℕ} {d : Side} → Stay x → Pair G k x z → Lt G.num d x z
        → ((w : ℕ) → Pair G k x w → Stay w → Lt G.num d x w → (w ≡ z) ⊎ Lt G.num d z w) → Ok (seek z x k)
    ok-found : {x z k : ℕ} {d : Side} → Stay x → Lt G.num d x z → Target k x d (some z) → Ok (found x z k)
    ok-none : {x k : ℕ} {d : Side} → G.Seated x → k ≤ G.W → Stay x → Target k x d none → Ok (none_found x k d)

  -- the link is the target, or a message will see to it
  pub data Todo (S : State) (x k : ℕ) (d : Side) : Type 0 where
    done : Target k x d (S.link x k d) → Todo S x k d
    by-going : S.pend (going x k d) → S.link x k d ≢ none → Todo S x k d
    by_seek : (z : ℕ) → Lt G.num d x z → S.pend (seek z x k) → Todo S x k d
    by_found : (z : ℕ) → Lt G.num d x z → S.pend (found x z k) → Todo S x k d
    by-none : S.pend (none_found x k d) → Todo S x k d

  pub record Clearing (L : Links) (S : State) : Type 0 where
    pub leaver : (z k : ℕ) (d : Side) → ¬ (Stay z) → S.link z k d ≡ L z k d
    pub stayer : (x k : ℕ) (d : Side) → Stay x → (S.link x k d ≡ L x k d) ⊎ Target k x d (S.link x k d)
    pub ok : {m : Msg} → S.pend m → Ok m
    pub job : (x k : ℕ) (d : Side) → G.Seated x → Stay x → Todo S x k d

  -- a staying lot's link: its pair, its side, and no staying lot before it
  pub record Good (x k : ℕ) (d : Side) (y : ℕ) : Type 0 where
    pub pair : Pair G k x y
    pub side : Lt G.num d x y
    pub near : (z : ℕ) → Pair G k x z → Stay z → Lt G.num d x z → (z ≡ y) ⊎ Lt G.num d y z

module _ {G : World} {Stay : ℕ → Type 0} where
  target-good : {k x y : ℕ} {d : Side} {o : Option ℕ} → Target G Stay k x d o → o ≡ some y → Good G Stay x k d y
  target-good (nobody h) e = none-some refl e
  target-good {k} {x} {y} {d} (nearest p s l h) e = subst (λ (v : ℕ). Good G Stay x k d v) (some_inj e) (record { pair = p; side = l; near = h })

  pub good : {L : Links} {S : State} {x k y : ℕ} {d : Side} → AllLinks G Stay L → Clearing G Stay L S → Stay x → S.link x k d ≡ some y
      → Good G Stay x k d y
  good {L} {S} {x} {k} {y} {d} b c st e = by (c.stayer x k d st)
    where
      by : (S.link x k d ≡ L x k d) ⊎ Target G Stay k x d (S.link x k d) → Good G Stay x k d y
      by (inl f) = let g = sym f ∙ e in record { pair = b.pair g; side = b.side g; near = λ z p s l. b.least g z p l }
      by (inr f) = target-good f e

  -- past a leaver z there is no staying lot before z's own link
  past : {z x k : ℕ} {d : Side} {A : ℕ → Type 0} → ¬ (Stay z) → Pair G k x z
      → ((v : ℕ) → Pair G k x v → Stay v → Lt G.num d x v → (v ≡ z) ⊎ Lt G.num d z v)
      → ((v : ℕ) → Pair G k z v → Lt G.num d z v → A v)
      → (v : ℕ) → Pair G k x v → Stay v → Lt G.num d x v → A v
  past {z} {d = d} {A = A} ns p near f v q s l = by (near v q s l)
    where
      by : (v ≡ z) ⊎ Lt G.num d z v → A v
      by (inl e) = absurd (ns (subst Stay e s))
      by (inr m) = f v (pair-trans (pair-sym p) q) m

  sends-ok : {L : Links} {S : State} {m n : Msg} → AllLinks G Stay L → Clearing G Stay L S → Ok G Stay m → Sends G Stay S m n → Ok G Stay n
  sends-ok b c (ok-going sx w) (asks st e) = let g = good b c st e in ok-seek st g.pair g.side g.near
  sends-ok b c (ok-seek st p l near) (answers sz) = ok-found st l (nearest p sz l near)
  sends-ok b c (ok-seek {z} {x} {k} {d} st p l near) (passes {w = w} ns l' e) =
      let f = sym (c.leaver z k d ns) ∙ (rw (lt-side l' l) at e) in
      ok-seek st (pair-trans p (b.pair f)) (lt_trans l (b.side f)) (past {A = λ v. (v ≡ w) ⊎ Lt G.num d w v} ns p near (b.least f))
  sends-ok b c (ok-seek {z} {x} {k} {d} st p l near) (gives_up {d = d'} ns l' e) =
      let f = sym (c.leaver z k d ns) ∙ (rw (lt-side l' l) at e) in
      ok-none {k = k} p.fst (pair-level p) st
      (subst (λ (a : Side). Target G Stay k x a none) (lt-side l l') (nobody (past {A = λ v. ⊥} ns p near (b.last f))))
  sends-ok b c (ok-found st l q) s = elim s [ ]
  sends-ok b c (ok-none sx w st q) s = elim s [ ]

  sets-stay : {S : State} {m : Msg} {x k : ℕ} {d : Side} {o : Option ℕ} → Ok G Stay m → Sets G Stay S m x k d o → Stay x
  sets-stay (ok-found st l b) (to-found l') = st
  sets-stay (ok-none sx w st b) to_none = st
  sets-stay (ok-going sx w) s = elim s [ ]
  sets-stay (ok-seek st p l near) s = elim s [ ]

  sets-target : {S : State} {m : Msg} {x k : ℕ} {d : Side} {o : Option ℕ} → Ok G Stay m → Sets G Stay S m x k d o → Target G Stay k x d o
  sets-target {x = x} {k = k} (ok-found {z = z} st l b) (to-found l') = subst (λ (a : Side). Target G Stay k x a (some z)) (lt-side l l') b
  sets-target (ok-none sx w st b) to_none = b
  sets-target (ok-going sx w) s = elim s [ ]
  sets-target (ok-seek st p l near) s = elim s [ ]

  set-target : {L : Links} {S S' : State} {m : Msg} {x k : ℕ} {d : Side} {o : Option ℕ} → Clearing G Stay L S → Cleared G Stay S m S'
      → Sets G Stay S m x k d o → Target G Stay k x d (S'.link x k d)
  set-target {x = x} {k = k} {d = d} c t s = subst (Target G Stay k x d) (sym (t.moved s)) (sets-target (c.ok t.was) s)

  -- a job goes on
  job-going : {L : Links} {S S' : State} {x k : ℕ} {d : Side} → AllLinks G Stay L → Clearing G Stay L S → Stay x
      → Cleared G Stay S (going x k d) S'
      → S.link x k d ≢ none → (v : Option ℕ) → S.link x k d ≡ v → Todo G Stay S' x k d
  job-going b c st t ne none e = absurd (ne e)
  job-going b c st t ne (some y) e = by_seek y (good b c st e).side (t.came (asks st e))

  job-seek : {L : Links} {S S' : State} {x z k : ℕ} {d : Side} → AllLinks G Stay L → Clearing G Stay L S → Lt G.num d x z
      → Cleared G Stay S (seek z x k) S' → Dec (Stay z) → (v : Option ℕ) → S.link z k d ≡ v → Todo G Stay S' x k d
  job-seek {z = z} b c l t (yes s) v e = by_found z l (t.came (answers s))
  job-seek b c l t (no s) none e = by-none (t.came (gives_up s l e))
  job-seek {z = z} {k = k} {d = d} b c l t (no s) (some w) e = by_seek w (lt_trans l (b.side (sym (c.leaver z k d s) ∙ e))) (t.came (passes s l e))

  job-kept : {L : Links} {S S' : State} {m : Msg} → AllLinks G Stay L → Clearing G Stay L S → ((z : ℕ) → Dec (Stay z)) → Cleared G Stay S m S'
      → (x k : ℕ) (d : Side) → Stay x → Todo G Stay S x k d → Todo G Stay S' x k d
  job-kept {L} {S} {S'} {m} b c dec t x k d st td = fr (t.frame x k d) td
    where
      at : {n : Msg} → n ≡ m → Cleared G Stay S n S'
      at e = subst (λ (z : Msg). Cleared G Stay S z S') (sym e) t

      tg : S'.link x k d ≡ S.link x k d → S.link x k d ≢ none → (going x k d ≡ m) ⊎ S'.pend (going x k d) → Todo G Stay S' x k d
      tg f ne (inl e) = job-going b c st (at e) ne (S.link x k d) refl
      tg f ne (inr p) = by-going p (λ q. ne (sym f ∙ q))

      ts : (z : ℕ) → Lt G.num d x z → (seek z x k ≡ m) ⊎ S'.pend (seek z x k) → Todo G Stay S' x k d
      ts z l (inl e) = job-seek b c l (at e) (dec z) (S.link z k d) refl
      ts z l (inr p) = by_seek z l p

      tf : (z : ℕ) → Lt G.num d x z → (found x z k ≡ m) ⊎ S'.pend (found x z k) → Todo G Stay S' x k d
      tf z l (inl e) = done (set-target c (at e) (to-found l))
      tf z l (inr p) = by_found z l p

      tn : (none_found x k d ≡ m) ⊎ S'.pend (none_found x k d) → Todo G Stay S' x k d
      tn (inl e) = done (set-target c (at e) to_none)
      tn (inr p) = by-none p

      fr : (S'.link x k d ≡ S.link x k d) ⊎ ((o : Option ℕ) × Sets G Stay S m x k d o) → Todo G Stay S x k d → Todo G Stay S' x k d
      fr (inr s) q = done (set-target c t s.1)
      fr (inl f) (done q) = done (subst (Target G Stay k x d) (sym f) q)
      fr (inl f) (by-going p ne) = tg f ne (t.kept _ p)
      fr (inl f) (by_seek z l p) = ts z l (t.kept _ p)
      fr (inl f) (by_found z l p) = tf z l (t.kept _ p)
      fr (inl f) (by-none p) = tn (t.kept _ p)

  pub clearing-kept : {L : Links} {S S' : State} {m : Msg} → AllLinks G Stay L → ((z : ℕ) → Dec (Stay z)) → Clearing G Stay L S
      → Cleared G Stay S m S' → Clearing G Stay L S'
  clearing-kept {L} {S} {S'} {m} b dec c t = record {
    leaver = λ z k d ns. lv z k d ns (t.frame z k d);
    stayer = λ x k d st. sy x k d st (t.frame x k d);
    ok = λ p. ok (t.only p);
    job = λ x k d sx st. job-kept b c dec t x k d st (c.job x k d sx st);
  }
    where
      lv : (z k : ℕ) (d : Side) → ¬ (Stay z) → (S'.link z k d ≡ S.link z k d) ⊎ ((o : Option ℕ) × Sets G Stay S m z k d o)
          → S'.link z k d ≡ L z k d
      lv z k d ns (inl f) = f ∙ c.leaver z k d ns
      lv z k d ns (inr s) = absurd (ns (sets-stay (c.ok t.was) s.1))

      up : (x k : ℕ) (d : Side) → S'.link x k d ≡ S.link x k d → (S.link x k d ≡ L x k d) ⊎ Target G Stay k x d (S.link x k d)
          → (S'.link x k d ≡ L x k d) ⊎ Target G Stay k x d (S'.link x k d)
      up x k d f (inl e) = inl (f ∙ e)
      up x k d f (inr q) = inr (subst (Target G Stay k x d) (sym f) q)

      sy : (x k : ℕ) (d : Side) → Stay x → (S'.link x k d ≡ S.link x k d) ⊎ ((o : Option ℕ) × Sets G Stay S m x k d o)
          → (S'.link x k d ≡ L x k d) ⊎ Target G Stay k x d (S'.link x k d)
      sy x k d st (inl f) = up x k d f (c.stayer x k d st)
      sy x k d st (inr s) = inr (set-target c t s.1)

      ok : {n : Msg} → (S.pend n × (n ≢ m)) ⊎ Sends G Stay S m n → Ok G Stay n
      ok (inl p) = c.ok p.0
      ok (inr s) = sends-ok b c (c.ok t.was) s

  -- nothing pending: each staying lot's link is its target
  pub clearing-quiet : {L : Links} {S : State} → Clearing G Stay L S → Quiet S → (x k : ℕ) (d : Side) → G.Seated x → Stay x
      → Target G Stay k x d (S.link x k d)
  clearing-quiet {L} {S} c q x k d sx st = by (c.job x k d sx st)
    where
      by : Todo G Stay S x k d → Target G Stay k x d (S.link x k d)
      by (done h) = h
      by (by-going p ne) = absurd (q _ p)
      by (by_seek z l p) = absurd (q _ p)
      by (by_found z l p) = absurd (q _ p)
      by (by-none p) = absurd (q _ p)
