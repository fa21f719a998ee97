-- THE check of the definition: a line is a command exactly if it is the text of that command, and the command's numbers fit. So no line
-- longer than `longest` bytes is a command, and a longer line may be cut. Assumes nothing.
use Prim.Native.Nat.{ℕ, suc, ◌+◌, ◌*◌, ◌/◌, ◌^◌, ◌≤◌, ◌<◌}
use mathlib.Core.Path.{◌≡◌, refl, sym, ap, subst, ◌∙◌}
use mathlib.Core.Bool.{Bool, true, false, cond}
use mathlib.Core.Option.{Option, none, some, none-ne-some, some-injective}
use mathlib.Core.List.{List, [], ◌∷◌, map}
use mathlib.Core.Logic.{◌↔◌, ⊎_elim}
use native.Mathlib.Omega.{arith}
use lib.Dec.{eqb, ltb}
use lib.ListN.{length, take, length-append}
use lib.Seq.{length-take-le, take_all}
use borrow.Author.Tests.{lt-ltb, ltb-true, ne_eqb, eqb-true}
use Rattle.command.specs.Command.{Command, join, leave, deliver, turn, settle, find, print}
use Rattle.command.specs.Command.{fields, decimal, fitting, given, is_letter, when, command_of, parsed}
use Rattle.command.specs.Text.{shown, spaced, joined, letter_of, numbers_of, fields_of, text, fits, decimals, longest}
use Rattle.graph.specs.Vector.{width}
use Rattle.base.proofs.Cases.{lt-or-ge}
use Rattle.command.proofs.Decimal.{decimal-shown, shown-decimal, plain-shown, shown-length}
use Rattle.command.proofs.Joined.{AllPlain, fields-joined, joined-fields}

-- the fields of a command are that command
field-shown : (w n : ℕ) → n < 2 ^ w → fitting w (decimal (shown n)) ≡ some n
unfolding fitting
field-shown w n h = rw (decimal-shown n, lt-ltb n (2 ^ w) h)

command-fields : (c : Command) → fits c → command_of (fields_of c) ≡ some c
unfolding command_of fields_of
command-fields (join s n v w) h = rw (field-shown 8 s h.0, field-shown 64 n h.1, field-shown width v h.2, field-shown 8 w h.3)
command-fields (leave s) h = rw (field-shown 8 s h)
command-fields (deliver k t a l d) h =
    rw (field-shown 8 k h.0, field-shown 8 t h.1, field-shown 8 a h.2, field-shown 8 l h.3, field-shown 8 d h.4)
command-fields turn h = refl
command-fields settle h = refl
command-fields (find s n) h = rw (field-shown 8 s h.0, field-shown 64 n h.1)
command-fields print h = refl

not-space : (c : Command) → letter_of c ≡ 32 → ⊥
not-space (join s n v w) e = omega arith
not-space (leave s) e = omega arith
not-space (deliver k t a l d) e = omega arith
not-space turn e = omega arith
not-space settle e = omega arith
not-space (find s n) e = omega arith
not-space print e = omega arith

all_shown : (ns : List ℕ) → AllPlain (map shown ns)
unfolding AllPlain
all_shown [] = tt
all_shown (n ∷ ns) = (plain-shown n, all_shown ns)

fields-text : (c : Command) → fields (text c) ≡ fields_of c
unfolding text fields_of
fields-text c = fields-joined (letter_of c ∷ []) (map shown (numbers_of c)) (ne_eqb (letter_of c) 32 (not-space c), tt) (all_shown (numbers_of c))

pub parsed-text : (c : Command) → fits c → parsed (text c) ≡ some c
unfolding parsed
parsed-text c h = rw (fields-text c) (command-fields c h)

-- and what is a command is its fields: what a letter and a number tell, handed on
word-then : (k : ℕ) (f : List ℕ) (o : Option Command) (c : Command) {P : Type 0} → when (is_letter k f) o ≡ some c
    → (k ∷ [] ≡ f → o ≡ some c → P) → P
word-then k [] o c e g = absurd (none-ne-some c e)
word-then k (b ∷ []) o c {P} e g = by (eqb b k) refl e
  where
    by : (t : Bool) → eqb b k ≡ t → when t o ≡ some c → P
    by true y q = g (ap (λ (x : ℕ). x ∷ []) (sym (eqb-true b k y))) q
    by false y q = absurd (none-ne-some c q)
word-then k (b ∷ d ∷ l) o c e g = absurd (none-ne-some c e)

number-then : (w : ℕ) (f : List ℕ) (g : ℕ → Option Command) (c : Command) {P : Type 0} → given (fitting w (decimal f)) g ≡ some c
    → ((n : ℕ) → shown n ≡ f → n < 2 ^ w → g n ≡ some c → P) → P
unfolding fitting
number-then w f g c {P} e go = by (decimal f) refl e
  where
    fit : (n : ℕ) → decimal f ≡ some n → (t : Bool) → ltb n (2 ^ w) ≡ t → given (cond t (some n) none) g ≡ some c → P
    fit n d true y q = go n (shown-decimal f n d) (ltb-true n (2 ^ w) y) q
    fit n d false y q = absurd (none-ne-some c q)

    by : (o : Option ℕ) → decimal f ≡ o → given (fitting w o) g ≡ some c → P
    by none d q = absurd (none-ne-some c q)
    by (some n) d q = fit n d (ltb n (2 ^ w)) refl q

abbrev Spelt : List (List ℕ) → Command → Type 0
Spelt fs c = (fields_of c ≡ fs) × fits c

spelt-as : (a c : Command) {fs : List (List ℕ)} → some a ≡ some c → fields_of a ≡ fs → fits a → Spelt fs c
spelt-as a c {fs} q e h = subst (Spelt fs) (some-injective a c q) (e, h)

letter-spelt : (x : List ℕ) (c : Command) → command_of (x ∷ []) ≡ some c → Spelt (x ∷ []) c
unfolding command_of fields_of
letter-spelt [] c e = absurd (none-ne-some c e)
letter-spelt (b ∷ []) c e = by (eqb b 84) refl (eqb b 65) refl (eqb b 80) refl e
  where
    by : (t : Bool) → eqb b 84 ≡ t → (a : Bool) → eqb b 65 ≡ a → (p : Bool) → eqb b 80 ≡ p
        → cond t (some turn) (cond a (some settle) (when p (some print))) ≡ some c → Spelt ((b ∷ []) ∷ []) c
    by true t a s p r q = spelt-as turn c q (rw (eqb-true b 84 t)) tt
    by false t true s p r q = spelt-as settle c q (rw (eqb-true b 65 s)) tt
    by false t false s true r q = spelt-as print c q (rw (eqb-true b 80 r)) tt
    by false t false s false r q = absurd (none-ne-some c q)
letter-spelt (b ∷ d ∷ l) c e = absurd (none-ne-some c e)

spelt : (fs : List (List ℕ)) (c : Command) → command_of fs ≡ some c → Spelt fs c
unfolding command_of fields_of
spelt [] c e = absurd (none-ne-some c e)
spelt (x ∷ []) c e = letter-spelt x c e
spelt (x ∷ a ∷ []) c e =
    word-then 76 x _ c e λ k e₀. number-then 8 a _ c e₀ λ s p₁ h₁ e₁. spelt-as (leave s) c e₁ (cc) h₁
spelt (x ∷ a ∷ b ∷ []) c e =
    word-then 70 x _ c e λ k e₀. number-then 8 a _ c e₀ λ s p₁ h₁ e₁. number-then 64 b _ c e₁ λ n p₂ h₂ e₂.
    spelt-as (find s n) c e₂ (cc) (h₁, h₂)
spelt (x ∷ a ∷ b ∷ d ∷ []) c e = absurd (none-ne-some c e)
spelt (x ∷ a ∷ b ∷ d ∷ f ∷ []) c e =
    word-then 74 x _ c e λ k e₀. number-then 8 a _ c e₀ λ s p₁ h₁ e₁. number-then 64 b _ c e₁ λ n p₂ h₂ e₂.
    number-then width d _ c e₂ λ v p₃ h₃ e₃. number-then 8 f _ c e₃ λ w p₄ h₄ e₄.
    spelt-as (join s n v w) c e₄ (cc) (h₁, h₂, h₃, h₄)
spelt (x ∷ a ∷ b ∷ d ∷ f ∷ g ∷ []) c e =
    word-then 68 x _ c e λ k e₀. number-then 8 a _ c e₀ λ m p₁ h₁ e₁. number-then 8 b _ c e₁ λ t p₂ h₂ e₂.
    number-then 8 d _ c e₂ λ y p₃ h₃ e₃. number-then 8 f _ c e₃ λ l p₄ h₄ e₄. number-then 8 g _ c e₄ λ z p₅ h₅ e₅.
    spelt-as (deliver m t y l z) c e₅ (cc) (h₁, h₂, h₃, h₄, h₅)
spelt (x ∷ a ∷ b ∷ d ∷ f ∷ g ∷ h ∷ l) c e = absurd (none-ne-some c e)

pub text-parsed : (l : List ℕ) (c : Command) → parsed l ≡ some c → (text c ≡ l) × fits c
unfolding parsed text
text-parsed l c e = let s = spelt (fields l) c e in (ap joined s.0 ∙ joined-fields l, s.1)

-- both ways at once
pub line-command : (l : List ℕ) (c : Command) → (parsed l ≡ some c) ↔ ((text c ≡ l) × fits c)
line-command l c = (text-parsed l c, λ h. rw (← h.0) (parsed-text c h.1))

-- the longest text at width 8 is `J 255 18446744073709551615 255 255`
spaced-length : (f : List ℕ) (fs : List (List ℕ)) → length (spaced (f ∷ fs)) ≡ suc (length f + length (spaced fs))
unfolding spaced
spaced-length f fs = ap suc (length-append f (spaced fs))

spaced-end : length (spaced []) ≡ 0
unfolding spaced
spaced-end = refl

byte-length : (n : ℕ) → n < 2 ^ 8 → length (shown n) ≤ decimals 8
byte-length n h = shown-length 2 n (omega arith)

vector-length : (n : ℕ) → n < 2 ^ width → length (shown n) ≤ decimals width
vector-length n h = shown-length (width * 3 / 10) n (omega arith)

number-length : (n : ℕ) → n < 2 ^ 64 → length (shown n) ≤ decimals 64
number-length n h = shown-length 19 n (omega arith)

text-length : (c : Command) → fits c → length (text c) ≤ longest
unfolding text joined fields_of
text-length (join s n v w) h =
    simp (spaced-length, spaced-end) (omega (arith, byte-length s h.0, number-length n h.1, vector-length v h.2, byte-length w h.3))
text-length (leave s) h = simp (spaced-length, spaced-end) (omega (arith, byte-length s h))
text-length (deliver k t a l d) h =
    simp (spaced-length, spaced-end)
    (omega (arith, byte-length k h.0, byte-length t h.1, byte-length a h.2, byte-length l h.3, byte-length d h.4))
text-length turn h = simp spaced-end (omega arith)
text-length settle h = simp spaced-end (omega arith)
text-length (find s n) h = simp (spaced-length, spaced-end) (omega (arith, byte-length s h.0, number-length n h.1))
text-length print h = simp spaced-end (omega arith)

pub long-bad : (l : List ℕ) → longest < length l → parsed l ≡ none
long-bad l h = by (parsed l) refl
  where
    by : (o : Option Command) → parsed l ≡ o → o ≡ none
    by none e = refl
    by (some c) e = let t = text-parsed l c e in absurd (omega (arith, text-length c t.1, ap length t.0))

-- so a reader may cut a line anywhere past that
pub cut_line : (k : ℕ) (l : List ℕ) → longest < k → parsed (take k l) ≡ parsed l
cut_line k l h = ⊎_elim
    (λ p. long-bad (take k l) (rw (length-take-le k l (omega arith)) h) ∙ sym (long-bad l (omega arith)))
    (λ p. ap parsed (take_all k l p))
    (lt-or-ge k (length l))
