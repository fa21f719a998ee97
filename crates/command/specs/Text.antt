-- The text of a command: its letter and its numbers in decimal, with one space between. `proofs/Text.antt` shows that a line is a command
-- exactly if it is that command's text. Assumes nothing.
use Rattle.std.specs.Prelude.{ℕ, zero, suc, ◌+◌, ◌*◌, ◌/◌, ◌%◌, ◌^◌, ◌<◌, true, false, List, [], ◌∷◌, ◌++◌, map, ltb}
use Rattle.graph.specs.Vector.{width}
use Rattle.command.specs.Command.{Command, join, leave, deliver, turn, settle, find, print}

-- the decimal digits of a number n: one below 10, else those of n / 10 and one more. There are at most suc k
unfoldable pub shown_in : (k n : ℕ) → List ℕ
shown_in zero n = (48 + n) ∷ []
shown_in (suc k) n = elim (ltb n 10) [ true ↦ (48 + n) ∷ [] | false ↦ shown_in k (n / 10) ++ ((48 + n % 10) ∷ []) ]

unfoldable pub shown : ℕ → List ℕ
shown n = shown_in n n

-- fields with one space between
unfoldable pub spaced : List (List ℕ) → List ℕ
spaced [] = []
spaced (f ∷ fs) = 32 ∷ (f ++ spaced fs)

unfoldable pub joined : List (List ℕ) → List ℕ
joined [] = []
joined (f ∷ fs) = f ++ spaced fs

-- the letter and the numbers of a command
abbrev pub letter_of : Command → ℕ
letter_of (join s n v c) = 74
letter_of (leave s) = 76
letter_of (deliver k t a l d) = 68
letter_of turn = 84
letter_of settle = 65
letter_of (find s n) = 70
letter_of print = 80

abbrev pub numbers_of : Command → List ℕ
numbers_of (join s n v c) = s ∷ n ∷ v ∷ c ∷ []
numbers_of (leave s) = s ∷ []
numbers_of (deliver k t a l d) = k ∷ t ∷ a ∷ l ∷ d ∷ []
numbers_of turn = []
numbers_of settle = []
numbers_of (find s n) = s ∷ n ∷ []
numbers_of print = []

unfoldable pub fields_of : Command → List (List ℕ)
fields_of c = (letter_of c ∷ []) ∷ map shown (numbers_of c)

unfoldable pub text : Command → List ℕ
text c = joined (fields_of c)

-- a lot's number fits 64 bits, its vector the width, all other numbers fit 8
abbrev pub fits : Command → Type 0
fits (join s n v c) = (s < 2 ^ 8) × (n < 2 ^ 64) × (v < 2 ^ width) × (c < 2 ^ 8)
fits (leave s) = s < 2 ^ 8
fits (deliver k t a l d) = (k < 2 ^ 8) × (t < 2 ^ 8) × (a < 2 ^ 8) × (l < 2 ^ 8) × (d < 2 ^ 8)
fits turn = Unit
fits settle = Unit
fits (find s n) = (s < 2 ^ 8) × (n < 2 ^ 64)
fits print = Unit

-- the decimal digits of the largest number of w bits, and the bytes of the longest text, `J` with four numbers
abbrev pub decimals : (w : ℕ) → ℕ
decimals w = suc (w * 3 / 10)

abbrev pub longest : ℕ
longest = 1 + suc (decimals 8) + suc (decimals 64) + suc (decimals width) + suc (decimals 8)
