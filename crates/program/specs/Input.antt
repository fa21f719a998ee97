-- A whole input of `lots` (document 01, "The program"): its lines, carried out in order, each on the bytes that the one before it left; what is
-- written is their answers, one after the other. Assumes nothing.
use Rattle.std.specs.Prelude.{ℕ, cond, List, [], ◌∷◌, ◌++◌, eqb}
use Rattle.protocol.specs.State.{opened}
use Rattle.record.specs.Meaning.{bytes_of}
use Rattle.program.specs.Line.{Answered, answered}

abbrev pub newline : ℕ
newline = 10

-- the last line may lack its newline; after a newline no line is left
unfoldable pub last_line : (line : List ℕ) → List (List ℕ)
last_line [] = []
last_line (b ∷ line) = (b ∷ line) ∷ []

-- the lines of an input; `line` is the one so far
unfoldable pub lines_from : (line input : List ℕ) → List (List ℕ)
lines_from line [] = last_line line
lines_from line (b ∷ input) = cond (eqb b newline) (line ∷ lines_from [] input) (lines_from (line ++ (b ∷ [])) input)

abbrev pub lines_of : (input : List ℕ) → List (List ℕ)
lines_of input = lines_from [] input

-- lines in order: all answers, and the bytes after the last
unfoldable pub carried_out : (l : List ℕ) → (lines : List (List ℕ)) → Answered
carried_out l [] = record { text = []; after = l }
carried_out l (line ∷ lines) =
    let a = answered l line in
    let r = carried_out a.after lines in
    record { text = a.text ++ r.text; after = r.after }

-- WHAT `lots` WRITES for an input: it opens a record and carries out the lines
unfoldable pub output : (input : List ℕ) → List ℕ
output input = (carried_out (bytes_of opened) (lines_of input)).text
