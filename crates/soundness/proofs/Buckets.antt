-- The last lot of a bucket, and a search along a bucket's lots: every lot with a number is among them. Assumes nothing.
use Prim.Native.Nat.{ℕ, zero, suc, ◌+◌, ◌-◌, ◌%◌, ◌≤◌, ◌<◌}
use mathlib.Core.Path.{◌≡◌, refl, sym, ap, ◌∙◌}
use mathlib.Core.Logic.{⊎_elim}
use mathlib.Core.Bool.{Bool, true, false, cond, ◌&&◌, ◌||◌}
use mathlib.Core.List.{List}
use native.Mathlib.Numerals.{add-one}
use native.Mathlib.Omega.{arith}
use lib.Dec.{eqb}
use borrow.Author.Tests.{eq-eqb, ne_eqb, eqb-true}
use Rattle.base.proofs.Cases.{eq-or-ne, and_left, and_right, and-false}
use Rattle.base.specs.Loops.{any}
use Rattle.base.proofs.Any.{any-start}
use Rattle.protocol.specs.State.{taken}
use Rattle.record.specs.Meaning.{seats_in}
use Rattle.soundness.specs.inner.Buckets.{buckets, bucket_of, same_number, last_in}

module _ (l : List ℕ) where
  -- seat s is a lot of bucket b
  abbrev within : (b s : ℕ) → Bool
  within b s = taken (seats_in l) s && eqb (bucket_of l s) b

  pub last-le : (s b : ℕ) → last_in l s b ≤ s
  unfolding last_in
  last-le zero b = omega arith
  last-le (suc s) b = by (within b s) (last-le s b)
    where
      by : (w : Bool) → last_in l s b ≤ s → cond w (suc s) (last_in l s b) ≤ suc s
      by true h = omega arith
      by false h = omega (arith, h)

  -- one seat more: it is the last of its own bucket, and any other bucket is as before; so is each where the seat is free
  pub last-own : (s : ℕ) → taken (seats_in l) s ≡ true → s + 1 ≡ last_in l (s + 1) (bucket_of l s)
  unfolding last_in
  last-own s t = rw (add-one, t, eq-eqb (bucket_of l s) (bucket_of l s) refl)

  pub last-other : (s b : ℕ) → (bucket_of l s ≡ b → ⊥) → last_in l s b ≡ last_in l (s + 1) b
  unfolding last_in
  last-other s b ne = rw (add-one, ne_eqb (bucket_of l s) b ne) (by (taken (seats_in l) s))
    where
      by : (t : Bool) → last_in l s b ≡ cond (t && false) (suc s) (last_in l s b)
      by true = refl
      by false = refl

  pub last-free : (s b : ℕ) → taken (seats_in l) s ≡ false → last_in l s b ≡ last_in l (s + 1) b
  unfolding last_in
  last-free s b f = rw (add-one, f)

  pub last-start : (b : ℕ) → 0 ≡ last_in l 0 b
  unfolding last_in
  last-start b = refl

  -- what is found is a lot of the bucket
  pub record LotOf (m b x : ℕ) : Type 0 where
    pub below : x < m
    pub lot : taken (seats_in l) x ≡ true
    pub same : bucket_of l x ≡ b

  pub last-lot : (m b y : ℕ) → y ≡ last_in l m b → (y ≡ 0 → ⊥) → LotOf m b (y - 1)
  unfolding last_in
  last-lot zero b y e ne = absurd (ne e)
  last-lot (suc m) b y e ne = by (within b m) refl e (λ q. last-lot m b y q ne)
    where
      more : LotOf m b (y - 1) → LotOf (suc m) b (y - 1)
      more r = record { below = omega (arith, r.below); lot = r.lot; same = r.same }

      by : (w : Bool) → within b m ≡ w → y ≡ cond w (suc m) (last_in l m b) → (y ≡ last_in l m b → LotOf m b (y - 1)) → LotOf (suc m) b (y - 1)
      by true t q ih =
          let at : y - 1 ≡ m = omega (arith, q) in
          record {
            below = omega arith;
            lot = rw at (and_left (taken (seats_in l) m) _ t);
            same = rw at (eqb-true (bucket_of l m) b (and_right (taken (seats_in l) m) _ t));
          }
      by false f q ih = more (ih q)

  -- who has the number of x is not above the last lot of its bucket
  pub last-any : (x m : ℕ) → any m (same_number l x) ≡ any (last_in l m (bucket_of l x)) (same_number l x)
  unfolding last_in any
  last-any x zero = refl
  last-any x (suc m) = by (within (bucket_of l x) m) refl (last-any x m)
    where
      other : within (bucket_of l x) m ≡ false → same_number l x m ≡ false
      other f = ⊎_elim
          (λ e. rw (eq-eqb ((seats_in l).number x) ((seats_in l).number m) e)
          (rw (eq-eqb (bucket_of l m) (bucket_of l x) (ap (λ (n : ℕ). n % buckets) (sym e))) at f))
          (λ ne. and-false (taken (seats_in l) m) _ (ne_eqb ((seats_in l).number x) ((seats_in l).number m) ne))
          (eq-or-ne ((seats_in l).number x) ((seats_in l).number m))

      by : (w : Bool) → within (bucket_of l x) m ≡ w → any m (same_number l x) ≡ any (last_in l m (bucket_of l x)) (same_number l x)
          → same_number l x m || any m (same_number l x) ≡ any (cond w (suc m) (last_in l m (bucket_of l x))) (same_number l x)
      by true t ih = refl
      by false f ih = rw (other f) ih

  any-less : (x y : ℕ) → (y ≡ 0 → ⊥) → same_number l x (y - 1) ≡ false → any y (same_number l x) ≡ any (y - 1) (same_number l x)
  unfolding any
  any-less x zero ne f = absurd (ne refl)
  any-less x (suc y) ne f = let e : suc y - 1 ≡ y = omega arith in rw e (rw (rw e at f))

  -- a step of the search: y is no such lot, so those below it are left
  pub any_below : (x m y : ℕ) → y ≡ last_in l m (bucket_of l x) → (y ≡ 0 → ⊥) → same_number l x (y - 1) ≡ false
      → any m (same_number l x) ≡ any (y - 1) (same_number l x)
  any_below x m y e ne f = last-any x m ∙ ap (λ (n : ℕ). any n (same_number l x)) (sym e) ∙ any-less x y ne f

  -- its end: none is left
  pub any-end : (x m y : ℕ) → y ≡ last_in l m (bucket_of l x) → y ≡ 0 → any m (same_number l x) ≡ false
  any-end x m y e z = last-any x m ∙ ap (λ (n : ℕ). any n (same_number l x)) (sym e ∙ z) ∙ any-start (same_number l x)
