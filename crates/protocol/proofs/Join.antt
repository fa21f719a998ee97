-- The invariant of phase open goes over into a world that has the old lots, with the old links and messages: one with the same lots, and one in which
-- the MEET just sent ties two lots: a newcomer and its contact, or two components that become one. Assumes nothing.
use Prim.Native.Nat.{ℕ, suc, ◌≤◌, ◌<◌}
use mathlib.Core.Path.{◌≡◌, refl, sym, ◌∙◌, subst}
use mathlib.Core.Logic.{◌⊎◌, inl, inr, ◌≢◌}
use mathlib.Core.Option.{some}
use native.Mathlib.Omega.{arith}
use Rattle.graph.specs.Side.{Side, opp}
use Rattle.graph.specs.inner.Order.{Lt}
use Rattle.protocol.specs.Message.{Msg, meet}
use Rattle.protocol.specs.Tied.{Uniting}
use Rattle.protocol.proofs.World.{World, State, bit_of, Pair}
use Rattle.protocol.proofs.Agree.{Agree, agree-lt, agree-share, agree-bit, agree-pair}
use Rattle.protocol.proofs.Open.{Ok, ok-meet, ok-probe, ok-pull, Proper, ok-pair}
use Rattle.protocol.proofs.Back.{WayBack}
use Rattle.protocol.proofs.Conn.{Conn, crefl, clink, cmeet, csym, ctrans, Whole, conn-eq}
use Rattle.protocol.proofs.Segment.{Segment, out, home, pullb, pullf, Done, joined, todo}
use Rattle.protocol.proofs.Invariant.{Invariant}

-- the old lots are there as they were, those of one component in one
pub record Has (G G' : World) : Type 0 where
  pub agree : Agree G.Seated G G'
  pub still : (x : ℕ) → G.Seated x → G'.Seated x
  pub within : (x y : ℕ) → G.Seated x → G.Seated y → G.comp x ≡ G.comp y → G'.comp x ≡ G'.comp y

-- the old links, and the old messages
pub record Keeps (S S' : State) : Type 0 where
  pub same-link : (x k : ℕ) (d : Side) → S'.link x k d ≡ S.link x k d
  pub kept : (n : Msg) → S.pend n → S'.pend n

pub zero-pair : (G : World) {x y : ℕ} → G.Seated x → G.Seated y → G.comp x ≡ G.comp y → Pair G 0 x y
zero-pair G sx sy e = record { fst = sx; snd = sy; same = e; bits = omega arith }

way-seated : {G : World} {S : State} {x k y : ℕ} {d : Side} → Proper G S → (w : WayBack G S x k d y) → G.Seated w.lot
way-seated {G} {S} {x} {k} {y} {d} h w = by w.backs
  where
    by : (S.link w.lot k (opp d) ≡ some x) ⊎ S.pend (meet w.lot x k) → G.Seated w.lot
    by (inl e) = (h.link-pair e).fst
    by (inr p) = (ok-pair (h.pend-ok p)).fst

conn-over : {S S' : State} {k x y : ℕ} → Keeps S S' → Conn S k x y → Conn S' k x y
conn-over j crefl = crefl
conn-over {k = k} j (clink {x} {y} {d} e) = clink (j.same-link x k d ∙ e)
conn-over {k = k} j (cmeet {x} {y} p) = cmeet (j.kept (meet x y k) p)
conn-over j (csym e) = csym (conn-over j e)
conn-over j (ctrans e f) = ctrans (conn-over j e) (conn-over j f)

module _ {G G' : World} (g : Has G G') where
  pub lt-over : {d : Side} {x y : ℕ} → G.Seated x → G.Seated y → Lt G.num d x y → Lt G'.num d x y
  lt-over sx sy l = agree-lt g.agree sx sy l

  pub pair-over : {k x y : ℕ} → Pair G k x y → Pair G' k x y
  pair-over {k} {x} {y} p =
      agree-pair g.agree p.fst p.snd (g.still x p.fst) (g.still y p.snd) (g.within x y p.fst p.snd p.same) p

  ok-over : {m : Msg} → Ok G m → Ok G' m
  ok-over (ok-meet p q) = ok-meet (pair-over p) q
  ok-over (ok-probe p q w) = ok-probe (pair-over p) q (rw g.agree.width w)
  ok-over (ok-pull {x} {k} p w) = ok-pull {k = k} (g.still x p) (rw g.agree.width w)

  module _ {S S' : State} (j : Keeps S S') (h : Proper G S) where
    old : {x k y : ℕ} {d : Side} → S'.link x k d ≡ some y → S.link x k d ≡ some y
    old {x} {k} {y} {d} e = sym (j.same-link x k d) ∙ e

    side-over : {x k y : ℕ} {d : Side} → S.link x k d ≡ some y → Lt G'.num d x y
    side-over e = lt-over (h.link-pair e).fst (h.link-pair e).snd (h.link_side e)

    way-over : {x k y : ℕ} {d : Side} → S.link x k d ≡ some y → WayBack G S x k d y → WayBack G' S' x k d y
    way-over {x} {k} {y} {d} e w =
        record { lot = w.lot; after = lt-over (h.link-pair e).fst sw w.after; upto = to w.upto; backs = bk w.backs }
      where
        sw : G.Seated w.lot
        sw = way-seated h w

        to : (w.lot ≡ y) ⊎ Lt G.num d w.lot y → (w.lot ≡ y) ⊎ Lt G'.num d w.lot y
        to (inl q) = inl q
        to (inr l) = inr (lt-over sw (h.link-pair e).snd l)

        bk : (S.link w.lot k (opp d) ≡ some x) ⊎ S.pend (meet w.lot x k)
            → (S'.link w.lot k (opp d) ≡ some x) ⊎ S'.pend (meet w.lot x k)
        bk (inl q) = inl (j.same-link w.lot k (opp d) ∙ q)
        bk (inr p) = inr (j.kept (meet w.lot x k) p)

    seg-start : {k m a b : ℕ} {d : Side} {u : ℕ → ℕ} → Segment G S k d u m a b → G.Seated a
    seg-start q = subst G.Seated q.start (h.link-pair (q.fwd 0 q.pos)).fst

    -- a segment of the new world is one of the old world
    seg-down : {k m a b : ℕ} {d : Side} {u : ℕ → ℕ} → Segment G' S' k d u m a b → Segment G S k d u m a b
    seg-down {k} {m} {a} {b} {d} {u} q = record {
      pos = q.pos;
      start = q.start;
      end = q.end;
      fwd = fw;
      bwd = λ i l. old (q.bwd i l);
      ends = rw (agree-share g.agree a b sa sb) at q.ends;
      mid = λ i p l r. q.mid i p l (rw (agree-share g.agree a (u i) sa (h.link-pair (fw i l)).fst) r);
    }
      where
        fw : (i : ℕ) → i < m → S.link (u i) k d ≡ some (u (suc i))
        fw i l = old (q.fwd i l)

        sa : G.Seated a
        sa = subst G.Seated q.start (h.link-pair (fw 0 q.pos)).fst

        last : (n : ℕ) → 0 < n → n ≤ m → G.Seated (u n)
        last ℕ.zero p l = absurd (omega arith)
        last (suc n) p l = (h.link-pair (fw n l)).snd

        sb : G.Seated b
        sb = subst G.Seated q.end (last m q.pos (omega arith))

    done-over : {k m a b : ℕ} {d : Side} {u : ℕ → ℕ} → bit_of G' k a ≡ bit_of G k a → Done G S k d u m a b → Done G' S' k d u m a b
    done-over e (joined q) = joined (conn-over j q)
    done-over e (todo (out i p l q)) = todo (out i p l (j.kept _ q))
    done-over e (todo (home i l q)) = todo (home i l (j.kept _ q))
    done-over e (todo (pullb i l q)) = todo (pullb i l (rw e (j.kept _ q)))
    done-over e (todo (pullf i p l q)) = todo (pullf i p l (rw e (j.kept _ q)))

  -- with messages that are proper there, and all lots of a component connected
  invariant-over : {S S' : State} → Keeps S S' → ((m : Msg) → S'.pend m → Ok G' m) → Whole G' S' 0 → Invariant G S
      → Invariant G' S'
  invariant-over {S} j ok w i = record {
    proper = record { link-pair = λ e. pair-over (h.link-pair (old j h e)); link_side = λ e. side-over j h (old j h e); pend-ok = λ {m} p. ok m p };
    back = record { way = λ e. let f = old j h e in way-over j h f (i.back.way f) };
    whole = w;
    segments =
        record {
          seg = λ {k} {d} {u} {m} {a} {b} q. let p = seg-down j h q in done-over j h (agree-bit g.agree k a (seg-start j h p)) (i.segments.seg p);
        };
  }
    where
      h : Proper G S
      h = i.proper

-- the same lots: the old world has those of the new one, too
pub invariant-same : {G G' : World} {S : State} → Has G G' → Has G' G → Invariant G S → Invariant G' S
invariant-same g b i =
    invariant-over g (record { same-link = λ x k d. refl; kept = λ n p. p }) (λ m p. ok-over g (i.proper.pend-ok p))
    (record { conn = λ p. i.whole.conn (pair-over b p) }) i

-- x and y are one lot, or two of one component
abbrev pub Near : World → (x y : ℕ) → Type 0
Near G x y = (x ≡ y) ⊎ Pair G 0 x y

-- a and b are in one component, and what else is in one with them was in the one's or the other's
pub record Ties (G G' : World) (a b : ℕ) : Type 0 where
  pub has : Has G G'
  pub pair : Pair G' 0 a b
  pub apart : a ≢ b
  pub from : (x y : ℕ) → Pair G' 0 x y → Uniting a b (Near G) x y

-- a is to meet b
pub record Meets (S S' : State) (a b : ℕ) : Type 0 where
  pub keeps : Keeps S S'
  pub hello : S'.pend (meet a b 0)
  pub only : (n : Msg) → S'.pend n → S.pend n ⊎ (n ≡ meet a b 0)

pub invariant-tied : {G G' : World} {a b : ℕ} {S S' : State} → Ties G G' a b → Meets S S' a b → Invariant G S → Invariant G' S'
invariant-tied {G} {G'} {a} {b} {S} {S'} g j i = invariant-over g.has j.keeps (λ m p. ok (j.only m p)) whole i
  where
    ok : {m : Msg} → S.pend m ⊎ (m ≡ meet a b 0) → Ok G' m
    ok (inl p) = ok-over g.has (i.proper.pend-ok p)
    ok (inr e) = subst (Ok G') (sym e) (ok-meet g.pair g.apart)

    near : {x y : ℕ} → Near G x y → Conn S' 0 x y
    near (inl e) = conn-eq e
    near (inr p) = conn-over j.keeps (i.whole.conn p)

    by : {x y : ℕ} → Uniting a b (Near G) x y → Conn S' 0 x y
    by (inl p) = near p
    by (inr (inl (p, q))) = ctrans (near p) (ctrans (cmeet j.hello) (near q))
    by (inr (inr (p, q))) = ctrans (near p) (ctrans (csym (cmeet j.hello)) (near q))

    whole : Whole G' S' 0
    whole = record { conn = λ {x} {y} p. by (g.from x y p) }
