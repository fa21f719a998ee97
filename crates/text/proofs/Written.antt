-- A text after a text is the two as one. Assumes nothing.
use Prim.Native.Nat.{ℕ, ◌+◌}
use mathlib.Core.Path.{◌≡◌, refl, sym}
use mathlib.Core.List.{List, [], ◌∷◌, ◌++◌}
use Rattle.text.specs.inner.Put.{Put}
use Rattle.text.specs.inner.Written.{bytes_after, place_after}
use Rattle.std.proofs.Common.{min, max, length}
use Rattle.std.proofs.lemmas.List.Edits.{sets}
use Rattle.std.proofs.lemmas.Grind.{take_at_read}
use Rattle.text.proofs.Put.{put-none, put_then}

pub put_after : (o : List ℕ) (n : ℕ) (t : List ℕ) → Put o n t (bytes_after o n t) (place_after o n t)
unfolding bytes_after place_after
put_after o n t = record { holds = refl; next = refl }

pub bytes-none : (o : List ℕ) (n : ℕ) → bytes_after o n [] ≡ o
unfolding bytes_after
bytes-none o n = refl

pub place-none : (o : List ℕ) (n : ℕ) → place_after o n [] ≡ n
unfolding place_after
place-none o n = sym (put-none o n).next

pub bytes-append : (o : List ℕ) (n : ℕ) (t u : List ℕ) → bytes_after o n (t ++ u) ≡ bytes_after (bytes_after o n t) (place_after o n t) u
unfolding bytes_after place_after
bytes-append o n t u = sym (put_then (put_after o n t) (put_after (bytes_after o n t) (place_after o n t) u)).holds

pub place-append : (o : List ℕ) (n : ℕ) (t u : List ℕ) → place_after o n (t ++ u) ≡ place_after (bytes_after o n t) (place_after o n t) u
unfolding bytes_after place_after
place-append o n t u = sym (put_then (put_after o n t) (put_after (bytes_after o n t) (place_after o n t) u)).next

-- a byte, and then the others
pub bytes-cons : (o : List ℕ) (n b : ℕ) (t : List ℕ)
    → bytes_after o n (b ∷ t) ≡ bytes_after (bytes_after o n (b ∷ [])) (place_after o n (b ∷ [])) t
bytes-cons o n b t = bytes-append o n (b ∷ []) t

pub place-cons : (o : List ℕ) (n b : ℕ) (t : List ℕ)
    → place_after o n (b ∷ t) ≡ place_after (bytes_after o n (b ∷ [])) (place_after o n (b ∷ [])) t
place-cons o n b t = place-append o n (b ∷ []) t

-- as `Put` says it
pub sets_is : (o : List ℕ) (n : ℕ) (t : List ℕ) → sets o n t ≡ bytes_after o n t
unfolding bytes_after
sets_is o n t = refl

pub place_is : (o : List ℕ) (n : ℕ) (t : List ℕ) → min (max (length o) n) (n + length t) ≡ place_after o n t
unfolding place_after
place_is o n t = refl

-- for the check
pub ruleset texts = (bytes-append, place-append, bytes-none, place-none, sets_is, place_is, take_at_read)
