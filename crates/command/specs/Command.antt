-- The lines that `lots` reads (document 01, "The program"): decimal numbers without leading zeros, one space between. A line of another
-- form, or with a number too wide, is no command. Assumes nothing.
use Rattle.std.specs.Prelude.{ℕ, ◌+◌, ◌-◌, ◌*◌, ◌^◌, Bool, true, false, cond, ◌&&◌, List, [], ◌∷◌, eqb, leb, ltb}
use Rattle.std.proofs.Math.Option.{Option, none, some}
use Rattle.graph.specs.Vector.{width}

pub data Command : Type 0 where
  join : (seat number vector contact : ℕ) → Command
  leave : (seat : ℕ) → Command
  deliver : (kind to about level side : ℕ) → Command
  turn : Command
  settle : Command
  find : (start number : ℕ) → Command
  print : Command

-- the fields of a line, split at each space; `f` is the field so far, latest byte first
unfoldable pub reversed : List ℕ → List ℕ → List ℕ
reversed [] r = r
reversed (b ∷ l) r = reversed l (b ∷ r)

unfoldable pub fields_from : (f l : List ℕ) → List (List ℕ)
fields_from f [] = reversed f [] ∷ []
fields_from f (b ∷ l) = cond (eqb b 32) (reversed f [] ∷ fields_from [] l) (fields_from (b ∷ f) l)

unfoldable pub fields : List ℕ → List (List ℕ)
fields l = fields_from [] l

-- a decimal digit, 48 to 57
abbrev pub is_digit : ℕ → Bool
is_digit b = leb 48 b && leb b 57

-- the number of a list of digits that follow the number n, or none if another byte stands there
unfoldable pub digits_from : (n : ℕ) → List ℕ → Option ℕ
digits_from n [] = some n
digits_from n (b ∷ l) = cond (is_digit b) (digits_from (n * 10 + (b - 48)) l) none

-- a decimal number: at least one digit, no leading zero but in 0 itself
unfoldable pub decimal : List ℕ → Option ℕ
decimal [] = none
decimal (b ∷ []) = digits_from 0 (b ∷ [])
decimal (b ∷ c ∷ l) = cond (eqb b 48) none (digits_from 0 (b ∷ c ∷ l))

-- a number that fits w bits
unfoldable pub fitting : (w : ℕ) → Option ℕ → Option ℕ
fitting w none = none
fitting w (some n) = cond (ltb n (2 ^ w)) (some n) none

-- a field of 8 bits, of a vector's bits, and of 64
abbrev pub byte_field : List ℕ → Option ℕ
byte_field f = fitting 8 (decimal f)

abbrev pub vector_field : List ℕ → Option ℕ
vector_field f = fitting width (decimal f)

abbrev pub number_field : List ℕ → Option ℕ
number_field f = fitting 64 (decimal f)

-- what follows a number, if there is one
abbrev pub given : Option ℕ → (ℕ → Option Command) → Option Command
given none f = none
given (some n) f = f n

-- the letter that a field is
abbrev pub is_letter : (letter : ℕ) → List ℕ → Bool
is_letter c [] = false
is_letter c (b ∷ []) = eqb b c
is_letter c (b ∷ d ∷ l) = false

abbrev pub when : Bool → Option Command → Option Command
when true o = o
when false o = none

-- the command of a list of fields: J, L, D, T, A, F, P by the count of fields
unfoldable pub command_of : List (List ℕ) → Option Command
command_of [] = none
command_of (c ∷ []) = cond (is_letter 84 c) (some turn) (cond (is_letter 65 c) (some settle) (when (is_letter 80 c) (some print)))
command_of (c ∷ a ∷ []) = when (is_letter 76 c) (given (byte_field a) (λ s. some (leave s)))
command_of (c ∷ a ∷ b ∷ []) = when (is_letter 70 c) (given (byte_field a) (λ s. given (number_field b) (λ n. some (find s n))))
command_of (c ∷ a ∷ b ∷ d ∷ []) = none
command_of (c ∷ a ∷ b ∷ d ∷ e ∷ []) =
    when (is_letter 74 c)
    (given (byte_field a) (λ s. given (number_field b) (λ n. given (vector_field d) (λ v. given (byte_field e) (λ w. some (join s n v w))))))
command_of (c ∷ a ∷ b ∷ d ∷ e ∷ f ∷ []) =
    when (is_letter 68 c)
    (given (byte_field a) (λ k. given (byte_field b) (λ t. given (byte_field d) (λ x.
    given (byte_field e) (λ l. given (byte_field f) (λ s. some (deliver k t x l s)))))))
command_of (c ∷ a ∷ b ∷ d ∷ e ∷ f ∷ g ∷ l) = none

-- the command of a line, without its newline
unfoldable pub parsed : List ℕ → Option Command
parsed l = command_of (fields l)
