-- The two turns: into clearing from a settled graph, and out of it to a settled graph of the staying lots. Assumes nothing.
use Prim.Native.Nat.{ℕ, ◌≤◌}
use mathlib.Core.Path.{◌≡◌, refl, sym, ◌∙◌, subst}
use mathlib.Core.Logic.{◌⊎◌, inl, inr}
use mathlib.Core.Option.{Option, none, some}
use Rattle.graph.specs.Side.{Side, opp}
use Rattle.graph.specs.inner.Order.{Lt}
use Rattle.base.proofs.Tests.{some_inj, none-some}
use Rattle.protocol.specs.Message.{Msg, going}
use Rattle.protocol.proofs.World.{World, State, Quiet, Pair}
use Rattle.protocol.proofs.Agree.{Agree, agree-back, agree-lt, agree-pair}
use Rattle.protocol.proofs.Exact.{Next, Exact}
use Rattle.protocol.proofs.Invariant.{Invariant, exact-sym, exact-invariant}
use Rattle.protocol.proofs.Clearing.{Target, nobody, nearest, AllLinks, Ok, ok-going, Todo, done, by-going, Clearing}

module _ {G : World} (Stay : ℕ → Type 0) {S : State} (h : (k : ℕ) → Exact G S k) where
  pub exact-links : AllLinks G Stay S.link
  exact-links = record {
    pair = λ {x} {k} e. ((h k).next e).pair;
    side = λ {x} {k} e. ((h k).next e).side;
    least = λ {x} {k} e. ((h k).next e).least;
    last = λ {x} {k} e. (h k).last e;
  }

  -- into clearing: links stay, and every leaver has sent GOING to each of its links
  pub clearing-start : {C : State} → ((z : ℕ) → Dec (Stay z)) → ((x k : ℕ) (d : Side) → C.link x k d ≡ S.link x k d)
      → ((m : Msg) → C.pend m → (x : ℕ) × (k : ℕ) × (d : Side) × (m ≡ going x k d) × G.Seated x × (k ≤ G.W))
      → ((y k x : ℕ) (d : Side) → ¬ (Stay y) → S.link y k (opp d) ≡ some x → C.pend (going x k d))
      → Clearing G Stay S.link C
  clearing-start {C} dec same only told = record {
    leaver = λ z k d ns. same z k d;
    stayer = λ x k d st. inl (same x k d);
    ok = λ {m} p. goes (only m p);
    job = λ x k d sx st. job x k d (S.link x k d) refl;
  }
    where
      goes : {m : Msg} → (x : ℕ) × (k : ℕ) × (d : Side) × (m ≡ going x k d) × G.Seated x × (k ≤ G.W) → Ok G Stay m
      goes (x, k, d, e, sx, w) = subst (Ok G Stay) (sym e) (ok-going sx w)

      linked : (x k : ℕ) (d : Side) (y : ℕ) → S.link x k d ≡ some y → Dec (Stay y) → Todo G Stay C x k d
      linked x k d y e (yes s) =
          done (subst (Target G Stay k x d) (sym (same x k d ∙ e)) (nearest ((h k).next e).pair s ((h k).next e).side (λ z p t l. ((h k).next e).least z p l)))
      linked x k d y e (no s) = by-going (told y k x d s ((exact-sym h).back e)) (λ f. none-some f (same x k d ∙ e))

      job : (x k : ℕ) (d : Side) (v : Option ℕ) → S.link x k d ≡ v → Todo G Stay C x k d
      job x k d none e = done (subst (Target G Stay k x d) (sym (same x k d ∙ e)) (nobody (λ z p t l. (h k).last e z p l)))
      job x k d (some y) e = linked x k d y e (dec y)

-- the world of the staying lots alone
pub record Shrinks (G : World) (Stay : ℕ → Type 0) (H : World) : Type 0 where
  pub old : (x : ℕ) → H.Seated x → G.Seated x × Stay x
  pub new : (x : ℕ) → G.Seated x → Stay x → H.Seated x
  pub agree : Agree Stay G H
  pub same : (x : ℕ) → Stay x → H.comp x ≡ G.comp x

module _ {G : World} {Stay : ℕ → Type 0} {H : World} (z : Shrinks G Stay H) where
  lt_in : {d : Side} {x y : ℕ} → Stay x → Stay y → Lt G.num d x y → Lt H.num d x y
  lt_in s t l = agree-lt z.agree s t l

  lt_out : {d : Side} {x y : ℕ} → Stay x → Stay y → Lt H.num d x y → Lt G.num d x y
  lt_out s t l = agree-lt (agree-back z.agree) s t l

  stay-fst : {k x y : ℕ} → Pair H k x y → Stay x
  stay-fst {k} {x} {y} p = (z.old x p.fst).1

  stay-snd : {k x y : ℕ} → Pair H k x y → Stay y
  stay-snd {k} {x} {y} p = (z.old y p.snd).1

  pair-out : {k x y : ℕ} → Pair H k x y → Pair G k x y
  pair-out {k} {x} {y} p =
      let s = stay-fst p in
      let t = stay-snd p in
      agree-pair (agree-back z.agree) s t (z.old x p.fst).0 (z.old y p.snd).0 (sym (z.same x s) ∙ p.same ∙ z.same y t) p

  pair-in : {k x y : ℕ} → Stay x → Stay y → Pair G k x y → Pair H k x y
  pair-in {k} {x} {y} s t p = agree-pair z.agree s t (z.new x p.fst s) (z.new y p.snd t) (z.same x s ∙ p.same ∙ sym (z.same y t)) p

  target-next : {k x y : ℕ} {d : Side} {o : Option ℕ} → Stay x → Target G Stay k x d o → o ≡ some y → Next H k x d y
  target-next st (nobody h) e = none-some refl e
  target-next {k} {x} {y} {d} st (nearest {y = w} p s l h) e = subst (λ (v : ℕ). Next H k x d v) (some_inj e) (record {
    pair = pair-in st s p;
    side = lt_in st s l;
    least = λ v q m. up v (stay-snd q) (h v (pair-out q) (stay-snd q) (lt_out st (stay-snd q) m));
  })
    where
      up : (v : ℕ) → Stay v → (v ≡ w) ⊎ Lt G.num d w v → (v ≡ w) ⊎ Lt H.num d w v
      up v t (inl q) = inl q
      up v t (inr m) = inr (lt_in s t m)

  target-last : {k x : ℕ} {d : Side} {o : Option ℕ} → Target G Stay k x d o → o ≡ none → (v : ℕ) → Pair H k x v → Lt H.num d x v → ⊥
  target-last (nobody h) e v p l = h v (pair-out p) (stay-snd p) (lt_out (stay-fst p) (stay-snd p) l)
  target-last (nearest q s m h) e v p l = none-some e refl

  -- out of clearing: the staying lots' links stay, and there are no others
  pub clearing-end : (S C : State) → ((x k : ℕ) (d : Side) → G.Seated x → Stay x → Target G Stay k x d (C.link x k d))
      → ((x k : ℕ) (d : Side) → G.Seated x → Stay x → S.link x k d ≡ C.link x k d)
      → ((x k : ℕ) (d : Side) (y : ℕ) → S.link x k d ≡ some y → G.Seated x × Stay x)
      → Quiet S → Invariant H S
  clearing-end S C h keep drop q = exact-invariant (λ k. record {
    next = λ {x} {y} {d} e. let s = drop x k d y e in target-next s.1 (h x k d s.0 s.1) (sym (keep x k d s.0 s.1) ∙ e);
    last = λ {x} {d} e v p l. let s = z.old x p.fst in target-last (h x k d s.0 s.1) (sym (keep x k d s.0 s.1) ∙ e) v p l;
  }) q
