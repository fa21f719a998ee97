-- The refusals of document 01 ("Refused calls") and of the requests of document 02: their names, the one list that gives their order, and the
-- refusal of a call from the rows that it meets. Assumes nothing.
use Rattle.std.specs.Prelude.{ℕ, Bool, false, cond, List, [], ◌∷◌, eqb}

-- the numbers by their terms
abbrev pub wrong_size : ℕ
wrong_size = 1

abbrev pub unsound : ℕ
unsound = 2

abbrev pub no_such_seat : ℕ
no_such_seat = 3

abbrev pub seat_taken : ℕ
seat_taken = 4

abbrev pub number_in_use : ℕ
number_in_use = 5

abbrev pub no_contact : ℕ
no_contact = 6

abbrev pub in_clearing : ℕ
in_clearing = 7

abbrev pub empty_seat : ℕ
empty_seat = 8

abbrev pub already_leaving : ℕ
already_leaving = 9

abbrev pub no_such_message : ℕ
no_such_message = 10

abbrev pub messages_left : ℕ
messages_left = 11

abbrev pub no_such_level : ℕ
no_such_level = 12

abbrev pub unsettled : ℕ
unsettled = 13

abbrev pub not_reserved : ℕ
not_reserved = 14

abbrev pub same_lot : ℕ
same_lot = 15

-- the order in which they are tested: the first that applies is given
abbrev pub order : List ℕ
order =
    wrong_size
    ∷ unsound
    ∷ no_such_seat
    ∷ no_such_level
    ∷ in_clearing
    ∷ seat_taken
    ∷ not_reserved
    ∷ empty_seat
    ∷ unsettled
    ∷ same_lot
    ∷ number_in_use
    ∷ no_contact
    ∷ already_leaving
    ∷ no_such_message
    ∷ messages_left
    ∷ []

-- a row of the table for a call: its number, and its condition
pub record Row : Type 0 where
  pub number : ℕ
  pub applies : Bool

abbrev pub row : ℕ → Bool → Row
row n b = record { number = n; applies = b }

-- the condition of a refusal by the rows that a call meets; it does not apply if there is no such row
abbrev pub applies_in : List Row → ℕ → Bool
applies_in [] n = false
applies_in (r ∷ rs) n = cond (eqb r.number n) r.applies (applies_in rs n)

-- the first of a list of refusals that applies, or 0
abbrev pub first_of : List ℕ → List Row → ℕ
first_of [] rs = 0
first_of (n ∷ ns) rs = cond (applies_in rs n) n (first_of ns rs)

-- the refusal number of a call that meets these rows, in whatever order they are written; 0 if none applies
unfoldable pub first : List Row → ℕ
first rs = first_of order rs
