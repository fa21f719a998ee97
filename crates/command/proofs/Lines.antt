-- What the first field and the second byte tell: a letter of its own, or no command. Assumes nothing.
use Prim.Native.Nat.{ℕ, ◌≤◌, ◌<◌}
use mathlib.Core.Path.{◌≡◌, refl, ◌∙◌}
use mathlib.Core.Bool.{Bool, true, false, cond}
use mathlib.Core.Option.{none}
use mathlib.Core.List.{List, [], ◌∷◌}
use native.Mathlib.Omega.{arith}
use lib.ListN.{length, get_or}
use borrow.Author.Tests.{ne_eqb}
use Rattle.std.specs.List.{onto_first}
use Rattle.command.specs.Command.{turn, settle, print, fields, command_of, parsed}
use Rattle.command.specs.inner.Reading.{only}
use Rattle.command.proofs.Spaces.{is_space, parts, fields-parts}

-- no command begins with an empty field, or with two bytes
no_field : (fs : List (List ℕ)) → command_of ([] ∷ fs) ≡ none
unfolding command_of
no_field [] = refl
no_field (a ∷ []) = refl
no_field (a ∷ b ∷ []) = refl
no_field (a ∷ b ∷ d ∷ []) = refl
no_field (a ∷ b ∷ d ∷ e ∷ []) = refl
no_field (a ∷ b ∷ d ∷ e ∷ f ∷ []) = refl
no_field (a ∷ b ∷ d ∷ e ∷ f ∷ g ∷ l) = refl

no_word : (x y : ℕ) (w : List ℕ) (fs : List (List ℕ)) → command_of ((x ∷ y ∷ w) ∷ fs) ≡ none
unfolding command_of
no_word x y w [] = refl
no_word x y w (a ∷ []) = refl
no_word x y w (a ∷ b ∷ []) = refl
no_word x y w (a ∷ b ∷ d ∷ []) = refl
no_word x y w (a ∷ b ∷ d ∷ e ∷ []) = refl
no_word x y w (a ∷ b ∷ d ∷ e ∷ f ∷ []) = refl
no_word x y w (a ∷ b ∷ d ∷ e ∷ f ∷ g ∷ l) = refl

-- so no line whose second byte is no space is a command
pub parsed_second : (l : List ℕ) → 1 < length l → (get_or l 1 0 ≡ 32 → ⊥) → parsed l ≡ none
unfolding parsed
parsed_second [] h n = absurd (omega arith)
parsed_second (a ∷ []) h n = absurd (omega arith)
parsed_second (a ∷ b ∷ l) h n = rw (fields-parts (a ∷ b ∷ l), ne_eqb b 32 n) (by (is_space a))
  where
    word : (ps : List (List ℕ)) → command_of (onto_first a (onto_first b ps)) ≡ none
    word [] = no_word a b [] []
    word (p ∷ ps) = no_word a b p ps

    by : (t : Bool) → command_of (cond t ([] ∷ onto_first b (parts l)) (onto_first a (onto_first b (parts l)))) ≡ none
    by true = no_field (onto_first b (parts l))
    by false = word (parts l)

-- no command begins with a letter of its own and numbers after it
no-numbers : (x : ℕ) → (x ≡ 74 → ⊥) → (x ≡ 76 → ⊥) → (x ≡ 68 → ⊥) → (x ≡ 70 → ⊥) → (a : List ℕ) (fs : List (List ℕ))
    → command_of ((x ∷ []) ∷ a ∷ fs) ≡ none
unfolding command_of
no-numbers x nj nl nd nf a [] = rw (ne_eqb x 76 nl)
no-numbers x nj nl nd nf a (b ∷ []) = rw (ne_eqb x 70 nf)
no-numbers x nj nl nd nf a (b ∷ d ∷ []) = refl
no-numbers x nj nl nd nf a (b ∷ d ∷ e ∷ []) = rw (ne_eqb x 74 nj)
no-numbers x nj nl nd nf a (b ∷ d ∷ e ∷ f ∷ []) = rw (ne_eqb x 68 nd)
no-numbers x nj nl nd nf a (b ∷ d ∷ e ∷ f ∷ g ∷ l) = refl

turn_alone : (fs : List (List ℕ)) → command_of ((84 ∷ []) ∷ fs) ≡ only fs turn
unfolding command_of
turn_alone [] = refl
turn_alone (a ∷ fs) = no-numbers 84 (λ e. omega arith) (λ e. omega arith) (λ e. omega arith) (λ e. omega arith) a fs

settle_alone : (fs : List (List ℕ)) → command_of ((65 ∷ []) ∷ fs) ≡ only fs settle
unfolding command_of
settle_alone [] = refl
settle_alone (a ∷ fs) = no-numbers 65 (λ e. omega arith) (λ e. omega arith) (λ e. omega arith) (λ e. omega arith) a fs

print_alone : (fs : List (List ℕ)) → command_of ((80 ∷ []) ∷ fs) ≡ only fs print
unfolding command_of
print_alone [] = refl
print_alone (a ∷ fs) = no-numbers 80 (λ e. omega arith) (λ e. omega arith) (λ e. omega arith) (λ e. omega arith) a fs

-- or with another letter
no_letter : (x : ℕ) → (x ≡ 74 → ⊥) → (x ≡ 76 → ⊥) → (x ≡ 68 → ⊥) → (x ≡ 70 → ⊥) → (x ≡ 84 → ⊥) → (x ≡ 65 → ⊥) → (x ≡ 80 → ⊥)
    → (fs : List (List ℕ)) → command_of ((x ∷ []) ∷ fs) ≡ none
unfolding command_of
no_letter x nj nl nd nf nt na np [] = rw (ne_eqb x 84 nt, ne_eqb x 65 na, ne_eqb x 80 np)
no_letter x nj nl nd nf nt na np (a ∷ fs) = no-numbers x nj nl nd nf a fs

-- a line by its first field
module _ (l f : List ℕ) (fs : List (List ℕ)) (is : fields l ≡ f ∷ fs) where
  pub parsed_letter : (x : ℕ) → 1 ≤ length f → length f < 2 → get_or f 0 0 ≡ x → parsed l ≡ command_of ((x ∷ []) ∷ fs)
  unfolding parsed
  parsed_letter x lo hi e = rw is (by f lo hi e)
    where
      by : (g : List ℕ) → 1 ≤ length g → length g < 2 → get_or g 0 0 ≡ x → command_of (g ∷ fs) ≡ command_of ((x ∷ []) ∷ fs)
      by [] p q r = absurd (omega arith)
      by (b ∷ []) p q r = rw r
      by (b ∷ d ∷ g) p q r = absurd (omega arith)

  pub parsed_turn : 1 ≤ length f → length f < 2 → get_or f 0 0 ≡ 84 → parsed l ≡ only fs turn
  parsed_turn lo hi e = parsed_letter 84 lo hi e ∙ turn_alone fs

  pub parsed_settle : 1 ≤ length f → length f < 2 → get_or f 0 0 ≡ 65 → parsed l ≡ only fs settle
  parsed_settle lo hi e = parsed_letter 65 lo hi e ∙ settle_alone fs

  pub parsed_print : 1 ≤ length f → length f < 2 → get_or f 0 0 ≡ 80 → parsed l ≡ only fs print
  parsed_print lo hi e = parsed_letter 80 lo hi e ∙ print_alone fs

  pub parsed_other : 1 ≤ length f → length f < 2 → (get_or f 0 0 ≡ 74 → ⊥) → (get_or f 0 0 ≡ 76 → ⊥) → (get_or f 0 0 ≡ 68 → ⊥)
      → (get_or f 0 0 ≡ 70 → ⊥) → (get_or f 0 0 ≡ 84 → ⊥) → (get_or f 0 0 ≡ 65 → ⊥) → (get_or f 0 0 ≡ 80 → ⊥) → parsed l ≡ none
  parsed_other lo hi nj nl nd nf nt na np = parsed_letter (get_or f 0 0) lo hi refl ∙ no_letter (get_or f 0 0) nj nl nd nf nt na np fs

  pub parsed_empty : length f < 1 → parsed l ≡ none
  unfolding parsed
  parsed_empty h = rw is (by f h)
    where
      by : (g : List ℕ) → length g < 1 → command_of (g ∷ fs) ≡ none
      by [] p = no_field fs
      by (b ∷ g) p = absurd (omega arith)

  pub parsed_word : 2 ≤ length f → parsed l ≡ none
  unfolding parsed
  parsed_word h = rw is (by f h)
    where
      by : (g : List ℕ) → 2 ≤ length g → command_of (g ∷ fs) ≡ none
      by [] p = absurd (omega arith)
      by (b ∷ []) p = absurd (omega arith)
      by (b ∷ d ∷ g) p = no_word b d g fs
