-- Decimal text: the digits of a number read as that number, and what reads as a number is its digits. Assumes nothing.
use Prim.Native.Nat.{ℕ, zero, suc, ◌+◌, ◌-◌, ◌*◌, ◌/◌, ◌%◌, ◌^◌, ◌≤◌, ◌<◌}
use mathlib.Core.Path.{◌≡◌, refl, sym, ap, ◌∙◌}
use mathlib.Core.Bool.{Bool, true, false, cond}
use mathlib.Core.Option.{none, some, none-ne-some}
use mathlib.Core.List.{List, [], ◌∷◌, ◌++◌, append_assoc, append-nil}
use mathlib.Core.Logic.{◌⊎◌, ⊎_elim, inl, inr}
use native.Mathlib.Omega.{arith}
use native.Mathlib.Nat.{pow-suc}
use lib.Dec.{eqb}
use lib.ListN.{length, length-append}
use borrow.Author.Tests.{lt-ltb, le-ltb, ne_eqb, eqb-false}
use Rattle.std.specs.List.{AllByRecursion}
use Rattle.command.specs.Command.{is_digit, digits_from, decimal}
use Rattle.command.specs.Text.{shown_in, shown}
use Rattle.base.proofs.Cases.{lt-or-ge, eq-or-ne}
use Rattle.command.proofs.Reading.{digit-byte, digits-digit, decimal-digits}

-- the digits of a number, however many are allowed
digit-in : (k n : ℕ) → n < 10 → shown_in k n ≡ (48 + n) ∷ []
unfolding shown_in
digit-in zero n h = refl
digit-in (suc k) n h = rw (lt-ltb n 10 h, shown_in)

more-in : (k n : ℕ) → 10 ≤ n → shown_in (suc k) n ≡ shown_in k (n / 10) ++ ((48 + n % 10) ∷ [])
unfolding shown_in
more-in k n h = rw (le-ltb n 10 h, shown_in)

same_in : (k j n : ℕ) → n ≤ k → n ≤ j → shown_in k n ≡ shown_in j n
same_in zero j n a b = digit-in zero n (omega arith) ∙ sym (digit-in j n (omega arith))
same_in (suc k) zero n a b = digit-in (suc k) n (omega arith) ∙ sym (digit-in zero n (omega arith))
same_in (suc k) (suc j) n a b = by (lt-or-ge n 10) (λ h. same_in k j (n / 10) (omega arith) (omega arith))
  where
    by : (n < 10) ⊎ (10 ≤ n) → (10 ≤ n → shown_in k (n / 10) ≡ shown_in j (n / 10)) → shown_in (suc k) n ≡ shown_in (suc j) n
    by (inl h) f = digit-in (suc k) n h ∙ sym (digit-in (suc j) n h)
    by (inr h) f = more-in k n h ∙ rw (f h) (sym (more-in j n h))

pub shown-digit : (n : ℕ) → n < 10 → shown n ≡ (48 + n) ∷ []
unfolding shown
shown-digit n h = digit-in n n h

pub shown-more : (n : ℕ) → 10 ≤ n → shown n ≡ shown (n / 10) ++ ((48 + n % 10) ∷ [])
unfolding shown
shown-more zero h = absurd (omega arith)
shown-more (suc n) h = more-in n (suc n) h ∙ rw (same_in n (suc n / 10) (suc n / 10) (omega arith) (omega arith))

-- one digit more
pub shown-next : (m d : ℕ) → 0 < m → d < 10 → shown (m * 10 + d) ≡ shown m ++ ((48 + d) ∷ [])
shown-next m d p h =
    let q : (m * 10 + d) / 10 ≡ m = omega arith in
    let r : (m * 10 + d) % 10 ≡ d = omega arith in
    shown-more (m * 10 + d) (omega arith) ∙ rw (q, r)

-- a property of all digits, by the number of digits
by_digits : (P : ℕ → Type 0) → ((n : ℕ) → n < 10 → P n) → ((n : ℕ) → 10 ≤ n → P (n / 10) → P n) → (n : ℕ) → P n
by_digits P one more n = go n n (omega arith)
  where
    go : (k n : ℕ) → n ≤ k → P n
    go zero n h = one n (omega arith)
    go (suc k) n h = by (lt-or-ge n 10) (λ g. go k (n / 10) (omega arith))
      where
        by : (n < 10) ⊎ (10 ≤ n) → (10 ≤ n → P (n / 10)) → P n
        by (inl g) f = one n g
        by (inr g) f = more n g (f g)

-- digits after digits
digits_append : (k : ℕ) (f g : List ℕ) (m : ℕ) → digits_from k f ≡ some m → digits_from k (f ++ g) ≡ digits_from m g
unfolding digits_from
digits_append k [] g m e = let q : k ≡ m = cc in rw q
digits_append k (b ∷ f) g m e = by (is_digit b) (digits_append (k * 10 + (b - 48)) f g m) e
  where
    by : (t : Bool) → (digits_from (k * 10 + (b - 48)) f ≡ some m → digits_from (k * 10 + (b - 48)) (f ++ g) ≡ digits_from m g)
        → cond t (digits_from (k * 10 + (b - 48)) f) none ≡ some m → cond t (digits_from (k * 10 + (b - 48)) (f ++ g)) none ≡ digits_from m g
    by true h q = h q
    by false h q = absurd (none-ne-some m q)

digits-one : (k d : ℕ) → d < 10 → digits_from k ((48 + d) ∷ []) ≡ some (k * 10 + d)
unfolding digits_from
digits-one k d h = digits-digit k (48 + d) [] (omega arith) (omega arith) ∙ ap (λ (x : ℕ). some (k * 10 + x)) (omega arith)

-- the digits of a number are that number
pub digits-shown : (n : ℕ) → digits_from 0 (shown n) ≡ some n
digits-shown = by_digits (λ n. digits_from 0 (shown n) ≡ some n)
    (λ n h. rw (shown-digit n h) (digits-one 0 n h ∙ ap some (omega arith)))
    (λ n h e.
    rw (shown-more n h)
    (digits_append 0 (shown (n / 10)) ((48 + n % 10) ∷ []) (n / 10) e ∙ digits-one (n / 10) (n % 10) (omega arith) ∙ ap some (omega arith)))

-- and they begin with no 0 but in 0 itself
data Led : List ℕ → Type 0 where
  led : {b : ℕ} {f : List ℕ} → (b ≡ 48 → ⊥) → Led (b ∷ f)

led-append : {f : List ℕ} (g : List ℕ) → Led f → Led (f ++ g)
led-append g (led h) = led h

led-shown : (n : ℕ) → 0 < n → Led (shown n)
led-shown = by_digits (λ n. 0 < n → Led (shown n))
    (λ n h p. let ne : 48 + n ≡ 48 → ⊥ = λ e. omega arith in rw (shown-digit n h) (led ne))
    (λ n h e p. rw (shown-more n h) (led-append ((48 + n % 10) ∷ []) (e (omega arith))))

decimal-led : {f : List ℕ} → Led f → decimal f ≡ digits_from 0 f
decimal-led (led {b} {f} h) = decimal-digits b f (λ e. absurd (h e))

pub decimal-shown : (n : ℕ) → decimal (shown n) ≡ some n
decimal-shown n = ⊎_elim
    (λ e. rw (shown-digit n (omega arith)) (decimal-digits (48 + n) [] (λ q. refl) ∙ digits-one 0 n (omega arith) ∙ ap some (omega arith)))
    (λ e. decimal-led (led-shown n (omega (arith, e))) ∙ digits-shown n)
    (eq-or-ne n 0)

-- what digits after a number make: their text after its own
digits-text : (m : ℕ) (f : List ℕ) (n : ℕ) → 0 < m → digits_from m f ≡ some n → shown n ≡ shown m ++ f
unfolding digits_from
digits-text m [] n p e = let q : m ≡ n = cc in rw (q, append-nil (shown n))
digits-text m (b ∷ f) n p e = by (is_digit b) refl (digits-text (m * 10 + (b - 48)) f n (omega arith)) e
  where
    by : (t : Bool) → is_digit b ≡ t → (digits_from (m * 10 + (b - 48)) f ≡ some n → shown n ≡ shown (m * 10 + (b - 48)) ++ f)
        → cond t (digits_from (m * 10 + (b - 48)) f) none ≡ some n → shown n ≡ shown m ++ (b ∷ f)
    by true d h q =
        let r = digit-byte b d in
        let z : 48 + (b - 48) ≡ b = omega arith in
        h q ∙ rw (shown-next m (b - 48) p (omega arith), z, append_assoc (shown m) (b ∷ []) f)
    by false d h q = absurd (none-ne-some n q)

pub shown-decimal : (f : List ℕ) (n : ℕ) → decimal f ≡ some n → shown n ≡ f
unfolding decimal digits_from
shown-decimal [] n e = absurd (none-ne-some n e)
shown-decimal (b ∷ []) n e = by (is_digit b) refl e
  where
    by : (t : Bool) → is_digit b ≡ t → cond t (some (0 * 10 + (b - 48))) none ≡ some n → shown n ≡ b ∷ []
    by true d q =
        let r = digit-byte b d in
        let v : 0 * 10 + (b - 48) ≡ n = cc in
        let z : 48 + n ≡ b = omega arith in
        shown-digit n (omega arith) ∙ rw z
    by false d q = absurd (none-ne-some n q)
shown-decimal (b ∷ c ∷ f) n e = by (eqb b 48) refl (is_digit b) refl e
  where
    by : (z : Bool) → eqb b 48 ≡ z → (t : Bool) → is_digit b ≡ t → cond z none (cond t (digits_from (0 * 10 + (b - 48)) (c ∷ f)) none) ≡ some n
        → shown n ≡ b ∷ c ∷ f
    by true y t d q = absurd (none-ne-some n q)
    by false y false d q = absurd (none-ne-some n q)
    by false y true d q =
        let r = digit-byte b d in
        let ne : b ≡ 48 → ⊥ = eqb-false b 48 y in
        let v : 48 + (0 * 10 + (b - 48)) ≡ b = omega arith in
        digits-text (0 * 10 + (b - 48)) (c ∷ f) n (omega arith) q ∙ rw (shown-digit (0 * 10 + (b - 48)) (omega arith), v)

-- no digit is a space
abbrev pub IsPlain : ℕ → Type 0
IsPlain b = eqb b 32 ≡ false

abbrev pub Plain : List ℕ → Type 0
Plain f = AllByRecursion IsPlain f

digits-plain : (m : ℕ) (f : List ℕ) (n : ℕ) → digits_from m f ≡ some n → Plain f
unfolding digits_from
digits-plain m [] n e = tt
digits-plain m (b ∷ f) n e = by (is_digit b) refl (digits-plain (m * 10 + (b - 48)) f n) e
  where
    by : (t : Bool) → is_digit b ≡ t → (digits_from (m * 10 + (b - 48)) f ≡ some n → Plain f)
        → cond t (digits_from (m * 10 + (b - 48)) f) none ≡ some n → IsPlain b × Plain f
    by true d h q = let r = digit-byte b d in (ne_eqb b 32 (λ s. omega arith), h q)
    by false d h q = absurd (none-ne-some n q)

pub plain-shown : (n : ℕ) → Plain (shown n)
plain-shown n = digits-plain 0 (shown n) n (digits-shown n)

-- how many digits a number has
pub shown-length : (k n : ℕ) → n < 10 ^ suc k → length (shown n) ≤ suc k
shown-length zero n h = rw (shown-digit n h) (omega arith)
shown-length (suc k) n h = ⊎_elim
    (λ d. rw (shown-digit n d) (omega arith))
    (λ d.
    let p = pow-suc 10 (suc k) in
    rw (shown-more n d, length-append (shown (n / 10)) ((48 + n % 10) ∷ [])) (omega (arith, shown-length k (n / 10) (omega arith))))
    (lt-or-ge n 10)
