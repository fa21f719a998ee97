-- A way back (I1 of the proof on paper): for each link of x to y on side d some lot between them, or y, links back to x or is about to
-- hear of x. Deliveries keep it. With it: what becomes of a delivered MEET, and of a link that is replaced. Assumes nothing.
use Prim.Native.Nat.{ℕ}
use mathlib.Core.Path.{◌≡◌, refl, sym, ◌∙◌, ap, subst}
use mathlib.Core.Logic.{◌⊎◌, inl, inr}
use mathlib.Core.Option.{Option, none, some}
use Rattle.graph.specs.Side.{Side, opp}
use Rattle.graph.specs.inner.Order.{Lt}
use Rattle.graph.proofs.Order.{lt-opp, opp-lt, lt-eq, lt-then}
use Rattle.base.proofs.Tests.{none-some}
use Rattle.protocol.specs.Message.{Msg, meet}
use Rattle.protocol.proofs.World.{World, State, seat-tri}
use Rattle.protocol.proofs.Delivery.{link-cases, link-kept}
use Rattle.protocol.proofs.Open.{no_old, far, on, back, hand, Sets, sets, Opened, Proper, ok-pair, meet-lot}

module _ (G : World) where
  -- what has become of a delivered MEET(x, y, k)
  pub data Met (S' : State) (x y k : ℕ) (d : Side) : Type 0 where
    linked : S'.link x k d ≡ some y → Met S' x y k d
    passed : (o : ℕ) → S'.link x k d ≡ some o → Lt G.num d x o → Lt G.num d o y → S'.pend (meet o y k) → Met S' x y k d

  -- what has become of a link of x to o that was replaced: the new link is nearer, and is told of o
  pub record Lost (S' : State) (x k : ℕ) (d : Side) (o : ℕ) : Type 0 where
    pub lot : ℕ
    pub new : S'.link x k d ≡ some lot
    pub told : S'.pend (meet lot o k)
    pub near : Lt G.num d x lot
    pub nearer : Lt G.num d lot o

  -- the way back of the link of x to y
  pub record WayBack (S : State) (x k : ℕ) (d : Side) (y : ℕ) : Type 0 where
    pub lot : ℕ
    pub after : Lt G.num d x lot
    pub upto : (lot ≡ y) ⊎ Lt G.num d lot y
    pub backs : (S.link lot k (opp d) ≡ some x) ⊎ S.pend (meet lot x k)

  pub record WaysBack (S : State) : Type 0 where
    pub way : {x k y : ℕ} {d : Side} → S.link x k d ≡ some y → WayBack S x k d y

module _ {G : World} where
  pub met : {S S' : State} {x y k : ℕ} {d : Side} → Proper G S → Opened G S (meet x y k) S' → Lt G.num d x y → Met G S' x y k d
  met {S} {S'} {x} {y} {k} {d} h t l = by (S.link x k d) refl
    where
      same : {o : ℕ} → o ≡ y → (S'.link x k d ≡ some o) ⊎ ((v : Option ℕ) × Sets G S (meet x y k) x k d v) → Met G S' x y k d
      same q (inl f) = linked (f ∙ ap some q)
      same q (inr (v, s)) = linked (t.moved s ∙ meet-lot s)

      near : {o : ℕ} → S.link x k d ≡ some o → Lt G.num d o y
          → (S'.link x k d ≡ some o) ⊎ ((v : Option ℕ) × Sets G S (meet x y k) x k d v)
          → Met G S' x y k d
      near {o} e n (inl f) = passed o f (h.link_side e) n (t.came (on l e n))
      near e n (inr (v, s)) = linked (t.moved s ∙ meet-lot s)

      tri : (o : ℕ) → S.link x k d ≡ some o → (o ≡ y) ⊎ (Lt G.num d o y ⊎ Lt G.num d y o) → Met G S' x y k d
      tri o e (inl q) = same q (link-kept t e)
      tri o e (inr (inl n)) = near e n (link-kept t e)
      tri o e (inr (inr f)) = linked (t.moved (sets l (far o e f)))

      by : (v : Option ℕ) → S.link x k d ≡ v → Met G S' x y k d
      by none e = linked (t.moved (sets l (no_old e)))
      by (some o) e = tri o e (seat-tri G d o y (h.link-pair e).snd (ok-pair (h.pend-ok t.was)).snd)

  pub lost : {S S' : State} {m : Msg} {x k o : ℕ} {d : Side} {v : Option ℕ} → Opened G S m S' → S.link x k d ≡ some o → Sets G S m x k d v
      → Lost G S' x k d o
  lost t e (sets l (no_old f)) = none-some f e
  lost {o = o} t e (sets {y = w} l (far v f n)) =
      let q : v ≡ o = cc in
      record { lot = w; new = t.moved (sets l (far v f n)); told = t.came (hand l e (lt-eq n q)); near = l; nearer = lt-eq n q }

  -- the witness's link to a was replaced
  lost-way : {S' : State} {a b j w : ℕ} {f : Side} → (w ≡ b) ⊎ Lt G.num f w b → Lost G S' w j (opp f) a → WayBack G S' a j f b
  lost-way u q = record { lot = q.lot; after = opp-lt q.nearer; upto = inr (lt-then (opp-lt q.near) u); backs = inr q.told }

  -- the witness's MEET is delivered
  met-way : {S' : State} {a b j w : ℕ} {f : Side} → Lt G.num f a w → (w ≡ b) ⊎ Lt G.num f w b → Met G S' w a j (opp f)
      → WayBack G S' a j f b
  met-way {w = w} l u (linked e) = record { lot = w; after = l; upto = u; backs = inl e }
  met-way l u (passed o e n q p) = record { lot = o; after = opp-lt q; upto = inr (lt-then (opp-lt n) u); backs = inr p }

  old-way : {S S' : State} {m : Msg} {a b j : ℕ} {f : Side} → Proper G S → Opened G S m S' → WayBack G S a j f b → WayBack G S' a j f b
  old-way {S} {S'} {m} {a} {b} {j} {f} h t q = by q.backs
    where
      lk : (S'.link q.lot j (opp f) ≡ some a) ⊎ ((v : Option ℕ) × Sets G S m q.lot j (opp f) v) → S.link q.lot j (opp f) ≡ some a
          → WayBack G S' a j f b
      lk (inl e) o = record { lot = q.lot; after = q.after; upto = q.upto; backs = inl e }
      lk (inr s) o = lost-way q.upto (lost t o s.1)

      pd : (meet q.lot a j ≡ m) ⊎ S'.pend (meet q.lot a j) → WayBack G S' a j f b
      pd (inl e) = met-way q.after q.upto (met h (subst (λ (n : Msg). Opened G S n S') (sym e) t) (lt-opp q.after))
      pd (inr p) = record { lot = q.lot; after = q.after; upto = q.upto; backs = inr p }

      by : (S.link q.lot j (opp f) ≡ some a) ⊎ S.pend (meet q.lot a j) → WayBack G S' a j f b
      by (inl e) = lk (link-kept t e) e
      by (inr p) = pd (t.kept (meet q.lot a j) p)

  new-way : {S S' : State} {m : Msg} {a b j : ℕ} {f : Side} → Opened G S m S' → Sets G S m a j f (some b) → WayBack G S' a j f b
  new-way {b = b} t (sets l o) = record { lot = b; after = l; upto = inl refl; backs = inr (t.came (back l o)) }

  pub back-kept : {S S' : State} {m : Msg} → Proper G S → WaysBack G S → Opened G S m S' → WaysBack G S'
  back-kept {S} {S'} {m} h i t = record { way = λ e. by (link-cases t e) }
    where
      by : {x k y : ℕ} {d : Side} → (S.link x k d ≡ some y) ⊎ Sets G S m x k d (some y) → WayBack G S' x k d y
      by (inl e) = old-way h t (i.way e)
      by (inr s) = new-way t s
