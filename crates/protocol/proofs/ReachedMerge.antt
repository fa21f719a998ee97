-- A merge keeps what every reached meaning has, with the components of its two lots united; and what united components are. Assumes nothing.
use Prim.Native.Nat.{ℕ}
use mathlib.Core.Path.{◌≡◌, refl, sym, ◌∙◌, ap, subst}
use mathlib.Core.Logic.{◌↔◌, inl, inr}
use mathlib.Core.Bool.{Bool, true, false, cond}
use lib.Dec.{T, eqb}
use borrow.Author.Tests.{eqb-true, eq-eqb}
use Rattle.protocol.specs.State.{open_phase, Seats, Meaning, seated}
use Rattle.protocol.specs.Calls.{merge, seats_after, sends, takes, links_after, accept}
use Rattle.protocol.specs.pages.Merge.{united}
use Rattle.protocol.specs.Sound.{Sound}
use Rattle.protocol.specs.Tied.{Uniting}
use Rattle.protocol.proofs.World.{World}
use Rattle.protocol.proofs.Join.{zero-pair, Near, Ties, invariant-tied}
use Rattle.protocol.proofs.Accepted.{Merges}
use Rattle.protocol.proofs.Reached.{Laws, world_of, Sane, in_open}
use Rattle.protocol.proofs.ReachedCalls.{meets-sent}

-- what is of one component in one sense is in another, for lots
pub uniting-over : {a b x y : ℕ} (In : ℕ → Type 0) (R S : ℕ → ℕ → Type 0) → ((v w : ℕ) → In v → In w → R v w → S v w)
    → In a → In b → In x → In y → Uniting a b R x y → Uniting a b S x y
uniting-over {a} {b} {x} {y} In R S f ia ib ix iy = by
  where
    by : Uniting a b R x y → Uniting a b S x y
    by (inl r) = inl (f x y ix iy r)
    by (inr (inl (r, s))) = inr (inl (f x a ix ia r, f b y ib iy s))
    by (inr (inr (r, s))) = inr (inr (f x b ix ib r, f a y ia iy s))

module _ (a b : ℕ) (c : ℕ → ℕ) where
  -- who was in b's component is in a's
  united-in : {x : ℕ} → c x ≡ c b → united a b c x ≡ c a
  unfolding united
  united-in {x} e = ap (λ (t : Bool). cond t (c a) (c x)) (eq-eqb (c x) (c b) e)

  united-other : {x : ℕ} → eqb (c x) (c b) ≡ false → united a b c x ≡ c x
  unfolding united
  united-other e = rw e

  united-first : united a b c a ≡ c a
  unfolding united
  united-first = by (eqb (c a) (c b))
    where
      by : (t : Bool) → cond t (c a) (c a) ≡ c a
      by true = refl
      by false = refl

  pub united-within : (x y : ℕ) → c x ≡ c y → united a b c x ≡ united a b c y
  unfolding united
  united-within x y e = ap (λ (k : ℕ). cond (eqb k (c b)) (c a) k) e

  pub united-two : united a b c a ≡ united a b c b
  united-two = united-first ∙ sym (united-in refl)

  -- nothing changes inside one component
  pub united-one : c a ≡ c b → (x : ℕ) → united a b c x ≡ c x
  united-one e x = by (eqb (c x) (c b)) refl
    where
      by : (t : Bool) → eqb (c x) (c b) ≡ t → united a b c x ≡ c x
      by true p = let q = eqb-true (c x) (c b) p in united-in q ∙ e ∙ sym q
      by false p = united-other p

  -- united components are those of before, but that the two are one
  pub united-exactly : (x y : ℕ) → (united a b c x ≡ united a b c y) ↔ Uniting a b (λ v w. c v ≡ c w) x y
  united-exactly x y = (λ e. by (eqb (c x) (c b)) (eqb (c y) (c b)) refl refl e, back)
    where
      by : (t u : Bool) → eqb (c x) (c b) ≡ t → eqb (c y) (c b) ≡ u → united a b c x ≡ united a b c y → Uniting a b (λ v w. c v ≡ c w) x y
      by true true p q e = inl (eqb-true (c x) (c b) p ∙ sym (eqb-true (c y) (c b) q))
      by true false p q e =
          let i = eqb-true (c x) (c b) p in
          inr (inr (i, sym (united-in i) ∙ e ∙ united-other q))
      by false true p q e =
          let i = eqb-true (c y) (c b) q in
          inr (inl (sym (united-other p) ∙ e ∙ united-in i, sym i))
      by false false p q e = inl (sym (united-other p) ∙ e ∙ united-other q)

      back : Uniting a b (λ v w. c v ≡ c w) x y → united a b c x ≡ united a b c y
      back (inl e) = united-within x y e
      back (inr (inl (e, f))) = united-within x a e ∙ united-two ∙ united-within b y f
      back (inr (inr (e, f))) = united-within x b e ∙ sym united-two ∙ united-within a y f

module _ (comp : ℕ → ℕ) {N W : ℕ} {M : Meaning} (h : Sound N W M) (a b : ℕ) (ok : Merges N W M.seats M.pending a b) where
  abbrev r : Seats
  r = M.seats

  abbrev comp' : ℕ → ℕ
  comp' = united a b comp

  ties : (l : Laws r) → Ties (world_of comp W r l) (world_of comp' W r l) a b
  ties l = record {
    has = record {
      agree = record { width = refl; number = λ x t. refl; vector = λ x t. refl };
      still = λ x t. t;
      within = λ x y t u e. united-within a b comp x y e;
    };
    pair = zero-pair (world_of comp' W r l) ok.first-seated ok.second-seated (united-two a b comp);
    apart = ok.apart;
    from = λ x y p. by p.fst p.snd ((united-exactly a b comp x y).0 p.same);
  }
    where
      G : World
      G = world_of comp W r l

      by : {x y : ℕ} → T (seated r x) → T (seated r y) → Uniting a b (λ v w. comp v ≡ comp w) x y → Uniting a b (Near G) x y
      by t u = uniting-over (λ z. T (seated r z)) (λ v w. comp v ≡ comp w) (Near G) (λ v w s t e. inr (zero-pair G s t e)) ok.first-seated
          ok.second-seated t u

  merged : Sane comp W M open_phase → Sane comp' W (accept N W M (merge a b)) open_phase
  unfolding accept links_after sends takes seats_after
  merged (in_open i) = in_open (λ l. invariant-tied (ties l) (meets-sent M a b) (i l))

  pub sane-merge : Sane comp W M M.seats.phase → Sane comp' W (accept N W M (merge a b)) M.seats.phase
  sane-merge i = subst (Sane comp' W (accept N W M (merge a b))) (sym ok.opens) (merged (subst (Sane comp W M) ok.opens i))
