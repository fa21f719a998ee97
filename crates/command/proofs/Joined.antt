-- Fields and lines: joining the fields of a line gives the line again, and fields without a space come back from the line that they are
-- joined to. Assumes nothing.
use Prim.Native.Nat.{ℕ}
use mathlib.Core.Path.{◌≡◌, refl, sym, ap, ◌∙◌}
use mathlib.Core.List.{List, [], ◌∷◌, ◌++◌, append-nil}
use Rattle.std.specs.List.{join_with_byte}
use Rattle.std.proofs.lemmas.List.Elements.{All-from_recursion}
use Rattle.std.proofs.lemmas.List.Splits.{slice_split_none, slice_split_at, join_with_byte-slice_split}
use Rattle.command.specs.Command.{fields}
use Rattle.command.specs.Text.{spaced, joined}
use Rattle.command.proofs.Decimal.{IsPlain, Plain}
use Rattle.command.proofs.Spaces.{is_space, parts, fields-parts}

unfoldable pub AllPlain : List (List ℕ) → Type 0
AllPlain [] = Unit
AllPlain (f ∷ fs) = Plain f × AllPlain fs

pub fields-joined : (f : List ℕ) (fs : List (List ℕ)) → Plain f → AllPlain fs → fields (joined (f ∷ fs)) ≡ f ∷ fs
unfolding joined spaced AllPlain
fields-joined f [] p h = rw (append-nil f, fields-parts f) (slice_split_none is_space f (All-from_recursion IsPlain f p))
fields-joined f (g ∷ fs) p h =
    fields-parts (f ++ (32 ∷ (g ++ spaced fs))) ∙
    slice_split_at is_space f 32 (g ++ spaced fs) (All-from_recursion IsPlain f p) refl ∙
    ap (λ (ps : List (List ℕ)). f ∷ ps) (sym (fields-parts (g ++ spaced fs)) ∙ fields-joined g fs h.0 h.1)

joined-byte : (fs : List (List ℕ)) → joined fs ≡ join_with_byte 32 fs
unfolding joined spaced
joined-byte [] = refl
joined-byte (f ∷ []) = append-nil f
joined-byte (f ∷ g ∷ fs) = ap (λ (l : List ℕ). f ++ (32 ∷ l)) (joined-byte (g ∷ fs))

pub joined-fields : (l : List ℕ) → joined (fields l) ≡ l
joined-fields l = rw (fields-parts l) (joined-byte (parts l) ∙ join_with_byte-slice_split 32 l)
