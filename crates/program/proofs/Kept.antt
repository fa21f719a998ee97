-- The bytes of an unfinished line in a buffer: one more, a full buffer, and none. Assumes nothing.
use Prim.Native.Nat.{ℕ, zero, suc, ◌+◌, ◌≤◌, ◌<◌}
use mathlib.Core.Path.{◌≡◌, refl, sym}
use mathlib.Core.List.{List, [], ◌∷◌, ◌++◌}
use native.Mathlib.Omega.{arith}
use native.Mathlib.Numerals.{add-one}
use lib.ListN.{length, take, set, length-append}
use lib.Seq.{take_all, take-suc-set, take-append_seam, length-take-le, take-nil}
use borrow.Author.Tests.{eq-eqb, ne_eqb}
use Rattle.program.specs.Line.{Gives, answered}
use Rattle.program.specs.Input.{newline}
use Rattle.program.specs.Pieces.{ends_line, fed_byte, ended}

-- no text
pub gives_nothing : (l o : List ℕ) → Gives (record { text = []; after = l }) l o o 0
gives_nothing l o = record { leaves = refl; count = refl; text = refl }

-- a byte
module _ (room : ℕ) (l line : List ℕ) (b : ℕ) where
  pub byte-ends : b ≡ newline → fed_byte room l line b ≡ ends_line (answered l line)
  unfolding fed_byte
  byte-ends e = rw (eq-eqb b newline e)

  pub byte-kept : (b ≡ newline → ⊥) → fed_byte room l line b ≡ record { text = []; after = l; line = take room (line ++ (b ∷ [])) }
  unfolding fed_byte
  byte-kept e = rw (ne_eqb b newline e)

-- it is kept where there is room
pub kept_more : (line : List ℕ) (n b : ℕ) → n < length line → take (n + 1) (set line n b) ≡ take (length line) (take n line ++ (b ∷ []))
kept_more line n b h =
    rw (add-one, take-suc-set line n b h)
    (sym (take_all (length line) (take n line ++ (b ∷ []))
    (omega (arith, length-append (take n line) (b ∷ []), length-take-le n line (omega arith)))))

pub kept_full : (line : List ℕ) (n b : ℕ) → length line ≤ n → take n line ≡ take (length line) (take n line ++ (b ∷ []))
kept_full line n b h = rw (take_all n line h) (sym (take-append_seam line (b ∷ [])))

-- the end of input
pub ended-none : (l : List ℕ) → ended l [] ≡ record { text = []; after = l }
unfolding ended
ended-none l = refl

pub ended-line : (l line : List ℕ) (n : ℕ) → 0 < n → 0 < length line → ended l (take n line) ≡ answered l (take n line)
unfolding ended
ended-line l [] n g h = absurd (omega arith)
ended-line l (b ∷ line) zero g h = absurd (omega arith)
ended-line l (b ∷ line) (suc n) g h = refl

pub take-empty : (line : List ℕ) (n : ℕ) → length line ≡ 0 → take n line ≡ []
take-empty [] n h = take-nil n
take-empty (b ∷ line) n h = absurd (omega arith)
