-- The words of a text as the code writes them. Assumes nothing.
use mathlib.Core.Path.{◌≡◌, refl, ap}
use mathlib.Core.List.{List, ◌∷◌}
use Prim.Native.Nat.{ℕ}
use Prim.Native.Char.{code}
use Prim.Native.String.{String, [] as empty, ◌∷◌ as ◌then◌}
use lib.Chars.{codes}
use Rattle.command.specs.Ascii.{ascii}
use Rattle.text.proofs.Written.{texts}

pub ascii-codes : (s : String) → ascii s ≡ codes s
unfolding ascii
ascii-codes empty = refl
ascii-codes (c then s) = ap (λ (t : List ℕ). code c ∷ t) (ascii-codes s)

-- for the check: text after text, and words
pub ruleset words = (texts, ascii-codes)
