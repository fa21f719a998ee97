-- What the functions below `parse` answer: the first of the fields that are left, read as a number. Their contracts alone cite this; that of
-- `parse` cites Command and Answer. Assumes nothing.
use Rattle.std.specs.Prelude.{ℕ, List, [], ◌∷◌, Option as Answer, Some, None}
use Rattle.std.specs.Borrow.{Bor}
use Rattle.std.proofs.Math.Option.{Option, none, some}
use Rattle.command.specs.Command.{Command, fields, fitting, digits_from}

-- the fields that are left: of a line, or none after the last
abbrev pub fields_left : Answer (Bor (List ℕ)) → List (List ℕ)
fields_left None = []
fields_left (Some l) = fields l.now

-- a number, if there is one, with the fields after it
abbrev pub with_rest : Option ℕ → (after : List (List ℕ)) → Option (ℕ × List (List ℕ))
with_rest none after = none
with_rest (some n) after = some (n, after)

-- the first field, by what a field is as a number
abbrev pub read : (value : List ℕ → Option ℕ) → List (List ℕ) → Option (ℕ × List (List ℕ))
read value [] = none
read value (f ∷ after) = with_rest (value f) after

-- a command, if no field is left
abbrev pub only : List (List ℕ) → Command → Option Command
only [] c = some c
only (f ∷ after) c = none

-- digits that follow the number n, if the whole fits 64 bits; a leading zero is not looked at
abbrev pub digits_field : (n : ℕ) → List ℕ → Option ℕ
digits_field n f = fitting 64 (digits_from n f)

-- the number that an answer is
abbrev pub as_number : Answer ℕ → Option ℕ
as_number None = none
as_number (Some n) = some n
