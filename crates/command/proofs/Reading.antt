-- A field as a number: what each byte tells, and numbers of fewer bits. Assumes nothing.
use Prim.Native.Nat.{ℕ, ◌+◌, ◌-◌, ◌*◌, ◌^◌, ◌≤◌, ◌<◌}
use mathlib.Core.Path.{◌≡◌, refl, ◌∙◌}
use mathlib.Core.Bool.{Bool, true, false, cond}
use mathlib.Core.Option.{Option, none, some}
use mathlib.Core.List.{List, [], ◌∷◌, cons≢nil}
use mathlib.Core.Logic.{⊎_elim}
use native.Mathlib.Omega.{arith}
use lib.Dec.{leb, ltb}
use lib.ListN.{length, get_or, drop, drop_of_length-le}
use borrow.Author.Tests.{eq-eqb, ne_eqb, le-leb, lt-ltb, le-ltb, leb-true}
use Rattle.std.specs.Prelude.{Result, Ok, Err}
use Rattle.std.specs.Result.{OkIff, result_ok}
use Rattle.command.specs.Command.{is_digit, digits_from, decimal, fitting, byte_field, vector_field, number_field}
use Rattle.command.specs.inner.Reading.{with_rest, read, digits_field, as_number}
use Rattle.graph.specs.Vector.{width}
use Rattle.base.proofs.Cases.{lt-or-ge, and_left, and_right}
use Rattle.command.proofs.Spaces.{drop_here}

-- a byte of digits is a digit
pub digit-byte : (b : ℕ) → is_digit b ≡ true → (48 ≤ b) × (b ≤ 57)
digit-byte b e = (leb-true 48 b (and_left (leb 48 b) (leb b 57) e), leb-true b 57 (and_right (leb 48 b) (leb b 57) e))

-- a digit goes into the number
pub digits-digit : (n b : ℕ) (f : List ℕ) → 48 ≤ b → b ≤ 57 → digits_from n (b ∷ f) ≡ digits_from (n * 10 + (b - 48)) f
unfolding digits_from
digits-digit n b f l h = rw (le-leb 48 b l, le-leb b 57 h)

-- another byte is no digit
digits-other : (n b : ℕ) (f : List ℕ) → is_digit b ≡ false → digits_field n (b ∷ f) ≡ none
unfolding digits_from fitting
digits-other n b f e = rw e

-- a number too wide stays so
digits-grow : (n : ℕ) (f : List ℕ) (m : ℕ) → digits_from n f ≡ some m → n ≤ m
unfolding digits_from
digits-grow n [] m e = let q : n ≡ m = cc in omega arith
digits-grow n (b ∷ f) m e = by (is_digit b) (digits-grow (n * 10 + (b - 48)) f m) e
  where
    by : (t : Bool) → (digits_from (n * 10 + (b - 48)) f ≡ some m → n * 10 + (b - 48) ≤ m)
        → cond t (digits_from (n * 10 + (b - 48)) f) none ≡ some m → n ≤ m
    by true h q = let g = h q in omega arith
    by false h q = let z : ◌≡◌ {A = ℕ} 0 1 = cc in omega arith

digits-wide : (n : ℕ) (f : List ℕ) → 2 ^ 64 ≤ n → digits_field n f ≡ none
unfolding fitting
digits-wide n f h = by (digits_from n f) refl
  where
    by : (o : Option ℕ) → digits_from n f ≡ o → fitting 64 o ≡ none
    by none e = refl
    by (some m) e = rw (le-ltb m (2 ^ 64) (omega (arith, digits-grow n f m e)))

-- past the last digit, a number that fits
pub digits_end : (n i : ℕ) (l : List ℕ) → length l ≤ i → n < 2 ^ 64 → digits_field n (drop i l) ≡ some n
unfolding digits_from fitting
digits_end n i l h k = rw (drop_of_length-le l h, lt-ltb n (2 ^ 64) k)

-- the field from its byte i on, which is a digit or none
module _ (n i : ℕ) (l : List ℕ) (here : i < length l) where
  pub digits_here : is_digit (get_or l i 0) ≡ true → digits_field n (drop i l) ≡ digits_field (n * 10 + (get_or l i 0 - 48)) (drop (i + 1) l)
  digits_here e =
      let d = digit-byte (get_or l i 0) e in
      rw (drop_here l i here, digits-digit n (get_or l i 0) (drop (i + 1) l) d.0 d.1)

  pub digits_none : is_digit (get_or l i 0) ≡ false → digits_field n (drop i l) ≡ none
  digits_none e = rw (drop_here l i here) (digits-other n (get_or l i 0) (drop (i + 1) l) e)

  pub digits_over : is_digit (get_or l i 0) ≡ true → 2 ^ 64 ≤ n * 10 + (get_or l i 0 - 48) → digits_field n (drop i l) ≡ none
  digits_over e w = digits_here e ∙ digits-wide (n * 10 + (get_or l i 0 - 48)) (drop (i + 1) l) w

-- no number is empty, a 0 stands alone, and any other number is its digits
pub decimal-digits : (b : ℕ) (f : List ℕ) → (b ≡ 48 → f ≡ []) → decimal (b ∷ f) ≡ digits_from 0 (b ∷ f)
unfolding decimal
decimal-digits b [] h = refl
decimal-digits b (c ∷ f) h = rw (ne_eqb b 48 (λ e. cons≢nil (h e)))

pub number_empty : (l : List ℕ) → length l ≡ 0 → number_field l ≡ none
unfolding decimal fitting
number_empty [] h = refl
number_empty (b ∷ l) h = absurd (omega arith)

module _ (l f : List ℕ) (b : ℕ) (is : l ≡ b ∷ f) where
  pub number_zero : b ≡ 48 → 0 < length f → number_field l ≡ none
  unfolding decimal fitting
  number_zero e h = rw is (by f h)
    where
      by : (g : List ℕ) → 0 < length g → number_field (b ∷ g) ≡ none
      by [] k = absurd (omega arith)
      by (c ∷ g) k = rw (eq-eqb b 48 e)

  pub number_digits : (b ≡ 48 → length f ≡ 0) → number_field l ≡ digits_field 0 l
  number_digits h = rw (is, decimal-digits b f (λ e. empty f (h e)))
    where
      empty : (g : List ℕ) → length g ≡ 0 → g ≡ []
      empty [] k = refl
      empty (c ∷ g) k = absurd (omega arith)

-- a number of w bits is a number below 2 ^ w
abbrev pub narrow : (w : ℕ) → Option (ℕ × List (List ℕ)) → Option (ℕ × List (List ℕ))
narrow w none = none
narrow w (some p) = cond (ltb p.0 (2 ^ w)) (some p) none

fitting-narrow : (w : ℕ) → 2 ^ w ≤ 2 ^ 64 → (o : Option ℕ) (after : List (List ℕ))
    → with_rest (fitting w o) after ≡ narrow w (with_rest (fitting 64 o) after)
unfolding fitting
fitting-narrow w le none after = refl
fitting-narrow w le (some n) after = ⊎_elim
    (λ h. rw (lt-ltb n (2 ^ w) h, lt-ltb n (2 ^ 64) (omega arith)) (rw (lt-ltb n (2 ^ w) h)))
    (λ h. rw (le-ltb n (2 ^ w) h) (big (ltb n (2 ^ 64)) h))
    (lt-or-ge n (2 ^ w))
  where
    big : (t : Bool) → 2 ^ w ≤ n → none ≡ narrow w (with_rest (cond t (some n) none) after)
    big false h = refl
    big true h = rw (le-ltb n (2 ^ w) h)

pub read_byte : (fs : List (List ℕ)) → read byte_field fs ≡ narrow 8 (read number_field fs)
read_byte [] = refl
read_byte (f ∷ fs) = fitting-narrow 8 (omega arith) (decimal f) fs

pub read_vector : (fs : List (List ℕ)) → read vector_field fs ≡ narrow width (read number_field fs)
read_vector [] = refl
read_vector (f ∷ fs) = fitting-narrow width (omega arith) (decimal f) fs

-- a number that a conversion to 8 bits gave, or none where it failed
pub narrow_ok : {E : Type 0} (n : ℕ) (fs : List (List ℕ)) (r : Result ℕ E) → OkIff r (n < 2 ^ 8) n
    → with_rest (as_number (result_ok r)) fs ≡ narrow 8 (some (n, fs))
narrow_ok n fs (Ok m) h = rw (h.1, lt-ltb n (2 ^ 8) h.0)
narrow_ok n fs (Err e) h = rw (le-ltb n (2 ^ 8) (omega (arith, h)))
