-- Input as it arrives, piece by piece, with lines that go on from one piece to the next. Of an unfinished line the first bytes are kept, as many as
-- there is room for. Pieces in order come to the lines of the whole input (`pieces-carried`, proofs/Pieces.antt). Assumes nothing.
use Rattle.std.specs.Prelude.{ℕ, ◌≡◌, cond, List, [], ◌∷◌, ◌++◌, eqb, take}
use Rattle.program.specs.Line.{Answered, Gives, answered}
use Rattle.program.specs.Input.{newline}

-- the answers so far, the bytes of the record, and the unfinished line
pub record Fed : Type 0 where
  pub text : List ℕ
  pub after : List ℕ
  pub line : List ℕ

-- the same as a function gives it that is lent a record, the unfinished line and a buffer: it left the bytes `after` and the line `kept`, and of the
-- buffer, which was o and is `out`, the first r bytes are the text and all others as before
pub record Takes (f : Fed) (after kept o out : List ℕ) (r : ℕ) : Type 0 where
  pub gives : Gives (record { text = f.text; after = f.after }) after o out r
  pub line : kept ≡ f.line

-- the answer to the line that ends here
abbrev pub ends_line : Answered → Fed
ends_line a = record { text = a.text; after = a.after; line = [] }

-- a byte: a newline ends the line, any other is kept while there is room
unfoldable pub fed_byte : (room : ℕ) (l line : List ℕ) (b : ℕ) → Fed
fed_byte room l line b = cond (eqb b newline) (ends_line (answered l line)) (record { text = []; after = l; line = take room (line ++ (b ∷ [])) })

-- the bytes of a piece
unfoldable pub fed : (room : ℕ) (l line piece : List ℕ) → Fed
fed room l line [] = record { text = []; after = l; line = line }
fed room l line (b ∷ piece) =
    let f = fed_byte room l line b in
    let r = fed room f.after f.line piece in
    record { text = f.text ++ r.text; after = r.after; line = r.line }

-- pieces one after the other, and the input that they make
unfoldable pub fed_all : (room : ℕ) (l line : List ℕ) (pieces : List (List ℕ)) → Fed
fed_all room l line [] = record { text = []; after = l; line = line }
fed_all room l line (piece ∷ pieces) =
    let f = fed room l line piece in
    let r = fed_all room f.after f.line pieces in
    record { text = f.text ++ r.text; after = r.after; line = r.line }

unfoldable pub input_of : (pieces : List (List ℕ)) → List ℕ
input_of [] = []
input_of (piece ∷ pieces) = piece ++ input_of pieces

-- the end of input: the last line may lack its newline
unfoldable pub ended : (l line : List ℕ) → Answered
ended l [] = record { text = []; after = l }
ended l (b ∷ line) = answered l (b ∷ line)
