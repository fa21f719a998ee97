-- The fields of a line are its parts between spaces, as std's `slice_split` has them. Assumes nothing.
use Prim.Native.Nat.{ℕ, suc, ◌+◌, ◌-◌, ◌≤◌, ◌<◌}
use mathlib.Core.Path.{◌≡◌, refl, sym, ap, ◌∙◌}
use mathlib.Core.Bool.{Bool, true, false, cond, not}
use mathlib.Core.List.{List, [], ◌∷◌}
use native.Mathlib.Omega.{arith}
use native.Mathlib.Numerals.{add-one}
use lib.Dec.{eqb, ltb}
use lib.ListN.{length, get_or, take, drop, length-drop}
use lib.Seq.{drop-cons, take_all}
use borrow.Author.Tests.{ltb-true, ltb-false}
use Rattle.std.specs.Prelude.{Some, None, position}
use Rattle.std.specs.List.{position_or_len, slice_split, onto_first}
use Rattle.std.proofs.lemmas.Option.{cond_some, none-some}
use Rattle.std.proofs.lemmas.List.Splits.{slice_split_first, length-slice_split}
use Rattle.command.specs.Command.{reversed, fields_from, fields}

-- the rest of a line from a byte on
pub drop_here : (l : List ℕ) (i : ℕ) → i < length l → drop i l ≡ get_or l i 0 ∷ drop (i + 1) l
drop_here l i h = rw (add-one, drop-cons l i 0)

-- the parts of a line
abbrev pub is_space : ℕ → Bool
is_space b = eqb b 32

abbrev pub parts : List ℕ → List (List ℕ)
parts l = slice_split is_space l

-- parts, the first of which goes on with a field so far
abbrev going_on : (f : List ℕ) → List (List ℕ) → List (List ℕ)
going_on f [] = reversed f [] ∷ []
going_on f (p ∷ ps) = reversed f p ∷ ps

going-onto : (b : ℕ) (f : List ℕ) (ps : List (List ℕ)) → going_on (b ∷ f) ps ≡ going_on f (onto_first b ps)
unfolding reversed
going-onto b f [] = refl
going-onto b f (p ∷ ps) = refl

going-none : (ps : List (List ℕ)) → 0 < length ps → going_on [] ps ≡ ps
unfolding reversed
going-none [] h = absurd (omega arith)
going-none (p ∷ ps) h = refl

from_parts : (f l : List ℕ) → fields_from f l ≡ going_on f (parts l)
unfolding fields_from
from_parts f [] = refl
from_parts f (b ∷ l) =
    by (is_space b) (from_parts (b ∷ f) l ∙ going-onto b f (parts l))
    (from_parts [] l ∙ going-none (parts l) (omega (arith, length-slice_split is_space l)))
  where
    by : (t : Bool) → fields_from (b ∷ f) l ≡ going_on f (onto_first b (parts l)) → fields_from [] l ≡ parts l
        → cond t (reversed f [] ∷ fields_from [] l) (fields_from (b ∷ f) l) ≡ going_on f (cond t ([] ∷ parts l) (onto_first b (parts l)))
    by true g h = rw h
    by false g h = g

pub fields-parts : (l : List ℕ) → fields l ≡ parts l
unfolding fields
fields-parts l = from_parts [] l ∙ going-none (parts l) (omega (arith, length-slice_split is_space l))

-- no line is without a field
pub fields_some : (l : List ℕ) → fields l ≡ [] → ⊥
fields_some l e = let z : length (parts l) ≡ 0 = ap length (rw (fields-parts l) at e) in omega (arith, z, length-slice_split is_space l)

-- where the first space stands, the first field ends, or else with the line
pub fields_cut : (l : List ℕ) (i : ℕ) → position is_space l ≡ Some i
    → fields l ≡ take i l ∷ fields (take (length l - (i + 1)) (drop (i + 1) l))
fields_cut l i e =
    let at_space = position_or_len is_space l in
    let p : (ltb at_space (length l) ≡ true) × (at_space ≡ i) = cond_some (ltb at_space (length l)) at_space i e in
    let all = take_all (length l - (i + 1)) (drop (i + 1) l) (omega (arith, length-drop (i + 1) l)) in
    rw (fields-parts l, slice_split_first is_space l 0 (ltb-true at_space (length l) p.0), p.1, all, fields-parts (drop (i + 1) l))

parts-whole : (l : List ℕ) → length l ≤ position_or_len is_space l → parts l ≡ l ∷ []
parts-whole [] h = refl
parts-whole (b ∷ l) h = by (is_space b) h (parts-whole l)
  where
    by : (t : Bool) → suc (length l) ≤ cond (not t) (1 + position_or_len is_space l) 0 → (length l ≤ position_or_len is_space l → parts l ≡ l ∷ [])
        → cond t ([] ∷ parts l) (onto_first b (parts l)) ≡ (b ∷ l) ∷ []
    by true k g = absurd (omega arith)
    by false k g = rw (g (omega arith))

pub fields_whole : (l : List ℕ) → position is_space l ≡ None → fields l ≡ l ∷ []
fields_whole l e = rw (fields-parts l) (parts-whole l (by (ltb (position_or_len is_space l) (length l)) refl e))
  where
    by : (t : Bool) → ltb (position_or_len is_space l) (length l) ≡ t → cond t (Some (position_or_len is_space l)) None ≡ None
        → length l ≤ position_or_len is_space l
    by true k q = absurd (none-some (position_or_len is_space l) (sym q))
    by false k q = ltb-false (position_or_len is_space l) (length l) k
