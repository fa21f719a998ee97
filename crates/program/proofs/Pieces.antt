-- Input in pieces, cut anywhere, comes to the lines of the whole: the answers, one after the other, and the record. Assumes room for every command.
use Prim.Native.Nat.{ℕ, ◌+◌, ◌≤◌, ◌<◌}
use mathlib.Core.Path.{◌≡◌, refl, sym, ap, ◌∙◌}
use mathlib.Core.Logic.{◌⊎◌, inl, inr}
use mathlib.Core.Bool.{cond}
use mathlib.Core.List.{List, [], ◌∷◌, ◌++◌, append_assoc, append-nil}
use native.Mathlib.Omega.{arith}
use native.Mathlib.Numerals.{add-one}
use lib.Dec.{eqb}
use lib.ListN.{length, take, get_or}
use lib.Seq.{take-suc, take_all, take-append-le, take-nil, take-take, length-take-le}
use borrow.Author.Tests.{eq-eqb, ne_eqb}
use Rattle.base.proofs.Cases.{lt-or-ge, eq-or-ne}
use Rattle.command.specs.Text.{longest}
use Rattle.command.proofs.Text.{cut_line}
use Rattle.program.specs.Line.{Answered, answer_to, answered}
use Rattle.program.specs.Input.{newline, last_line, lines_from, lines_of, carried_out}
use Rattle.program.specs.Pieces.{Fed, ends_line, fed_byte, fed, fed_all, input_of, ended}
use Rattle.program.proofs.Kept.{byte-ends, byte-kept, ended-none, ended-line}

pub fed-none : (room : ℕ) (l line : List ℕ) → fed room l line [] ≡ record { text = []; after = l; line = line }
unfolding fed
fed-none room l line = refl

-- a piece and then another are the two as one
pub fed-append : (room : ℕ) (l line p q : List ℕ) → let f = fed room l line p in let g = fed room f.after f.line q in
    fed room l line (p ++ q) ≡ record { text = f.text ++ g.text; after = g.after; line = g.line }
unfolding fed
fed-append room l line [] q = refl
fed-append room l line (b ∷ p) q =
    let h = fed_byte room l line b in
    let i = fed room h.after h.line p in
    rw (fed-append room h.after h.line p q, append_assoc h.text i.text (fed room i.after i.line q).text)

-- one byte more of a piece
pub fed-more : (room : ℕ) (l line piece : List ℕ) (i : ℕ) → i < length piece → let f = fed room l line (take i piece) in
    let g = fed_byte room f.after f.line (get_or piece i 0) in let h = fed room l line (take (i + 1) piece) in
    (h.after ≡ g.after) × (h.line ≡ g.line)
unfolding fed
fed-more room l line piece i q =
    let f = fed room l line (take i piece) in
    let b = get_or piece i 0 in
    let e = ap (fed room l line) (ap (λ (n : ℕ). take n piece) (add-one i) ∙ take-suc piece i 0 q) ∙ fed-append room l line (take i piece) (b ∷ []) in
    let o = one_byte room f.after f.line b in
    (ap (λ (h : Fed). h.after) e ∙ o.0, ap (λ (h : Fed). h.line) e ∙ o.1)
  where
    one_byte : (room : ℕ) (l line : List ℕ) (b : ℕ) → let g = fed_byte room l line b in let h = fed room l line (b ∷ []) in
        (h.after ≡ g.after) × (h.line ≡ g.line)
    one_byte room l line b = (refl, refl)

pub pieces-one : (room : ℕ) (l line : List ℕ) (pieces : List (List ℕ)) → fed_all room l line pieces ≡ fed room l line (input_of pieces)
unfolding fed_all input_of fed
pieces-one room l line [] = refl
pieces-one room l line (piece ∷ pieces) =
    let f = fed room l line piece in
    rw (pieces-one room f.after f.line pieces) (sym (fed-append room l line piece (input_of pieces)))

-- the answers of lines and then those of others
abbrev pub then_lines : (text : List ℕ) → Answered → Answered
then_lines t a = record { text = t ++ a.text; after = a.after }

module _ (room : ℕ) (wide : longest < room) where
  -- what is kept of a line has its answer
  cut-answered : (l line : List ℕ) → answered l (take room line) ≡ answered l line
  unfolding answered
  cut-answered l line = ap (answer_to l) (cut_line room line wide)

  -- a byte more
  take_more : (line : List ℕ) (b : ℕ) → take room (take room line ++ (b ∷ [])) ≡ take room (line ++ (b ∷ []))
  take_more line b = by (lt-or-ge room (length line))
    where
      by : (room < length line) ⊎ (length line ≤ room) → take room (take room line ++ (b ∷ [])) ≡ take room (line ++ (b ∷ []))
      by (inl h) =
          let n = length-take-le room line (omega arith) in
          take-append-le room (take room line) (b ∷ []) (omega (arith, n)) ∙ take-take room room line (omega arith)
          ∙ sym (take-append-le room line (b ∷ []) (omega arith))
      by (inr h) = rw (take_all room line h)

  -- one byte of a piece, of the lines of an input, and of the line that is unfinished after a piece
  fed-byte : (l line : List ℕ) (b : ℕ) (piece : List ℕ) (f : Fed) → fed_byte room l line b ≡ f → let r = fed room f.after f.line piece in
      fed room l line (b ∷ piece) ≡ record { text = f.text ++ r.text; after = r.after; line = r.line }
  unfolding fed
  fed-byte l line b piece f e =
      ap (λ (g : Fed). let r = fed room g.after g.line piece in record { text = g.text ++ r.text; after = r.after; line = r.line }) e

  lines_end : (line : List ℕ) (b : ℕ) (input : List ℕ) → b ≡ newline → lines_from line (b ∷ input) ≡ line ∷ lines_from [] input
  unfolding lines_from
  lines_end line b input e = rw (eq-eqb b newline e)

  lines-go : (line : List ℕ) (b : ℕ) (input : List ℕ) → (b ≡ newline → ⊥)
      → lines_from line (b ∷ input) ≡ lines_from (line ++ (b ∷ [])) input
  unfolding lines_from
  lines-go line b input e = rw (ne_eqb b newline e)

  rest_of : (line piece : List ℕ) → List ℕ
  rest_of line [] = line
  rest_of line (b ∷ piece) = cond (eqb b newline) (rest_of [] piece) (rest_of (line ++ (b ∷ [])) piece)

  rest-ends : (line : List ℕ) (b : ℕ) (piece : List ℕ) → b ≡ newline → rest_of line (b ∷ piece) ≡ rest_of [] piece
  unfolding rest_of
  rest-ends line b piece e = rw (eq-eqb b newline e)

  rest_goes : (line : List ℕ) (b : ℕ) (piece : List ℕ) → (b ≡ newline → ⊥) → rest_of line (b ∷ piece) ≡ rest_of (line ++ (b ∷ [])) piece
  unfolding rest_of
  rest_goes line b piece e = rw (ne_eqb b newline e)

  carried-line : (l line : List ℕ) (lines : List (List ℕ)) → let a = answered l line in
      carried_out l (line ∷ lines) ≡ then_lines a.text (carried_out a.after lines)
  unfolding carried_out
  carried-line l line lines = refl

  record Carries (l line piece rest : List ℕ) (f : Fed) : Type 0 where
    lines : carried_out l (lines_from line (piece ++ rest)) ≡ then_lines f.text (carried_out f.after (lines_from (rest_of line piece) rest))
    kept : f.line ≡ take room (rest_of line piece)

  -- a piece carries out the lines that end in it, and the rest of the input goes on from there
  piece-carries : (l line piece rest : List ℕ) → Carries l line piece rest (fed room l (take room line) piece)
  unfolding fed rest_of
  piece-carries l line [] rest = record { lines = refl; kept = refl }
  piece-carries l line (b ∷ piece) rest = by (eq-or-ne b newline) (λ m u. piece-carries m u piece rest)
    where
      by : (b ≡ newline) ⊎ (b ≡ newline → ⊥) → ((m u : List ℕ) → Carries m u piece rest (fed room m (take room u) piece))
          → Carries l line (b ∷ piece) rest (fed room l (take room line) (b ∷ piece))
      by (inl e) ih =
          let a = answered l line in
          let i = rw (take-nil {A = ℕ} room) at (ih a.after []) in
          let f = fed room a.after [] piece in
          let r = carried_out f.after (lines_from (rest_of [] piece) rest) in
          let g = fed-byte l (take room line) b piece _ (byte-ends room l (take room line) b e ∙ ap ends_line (cut-answered l line)) in
          let u = sym (rest-ends line b piece e) in
          rw g (record {
            lines = ap (carried_out l) (lines_end line b (piece ++ rest) e) ∙ carried-line l line (lines_from [] (piece ++ rest))
                ∙ ap (then_lines a.text) i.lines
                ∙ ap (λ (t : List ℕ). record { text = t; after = r.after }) (sym (append_assoc a.text f.text r.text))
                ∙ ap (λ (v : List ℕ). then_lines (a.text ++ f.text) (carried_out f.after (lines_from v rest))) u;
            kept = i.kept ∙ ap (take room) u;
          })
      by (inr e) ih =
          let i = ih l (line ++ (b ∷ [])) in
          let f = fed room l (take room (line ++ (b ∷ []))) piece in
          let u = sym (rest_goes line b piece e) in
          let k : fed_byte room l (take room line) b ≡ record { text = []; after = l; line = take room (line ++ (b ∷ [])) } =
          byte-kept room l (take room line) b e ∙ ap (λ (v : List ℕ). record { text = []; after = l; line = v }) (take_more line b) in
          rw (fed-byte l (take room line) b piece _ k) (record {
            lines = ap (carried_out l) (lines-go line b (piece ++ rest) e) ∙ i.lines
                ∙ ap (λ (v : List ℕ). then_lines f.text (carried_out f.after (lines_from v rest))) u;
            kept = i.kept ∙ ap (take room) u;
          })

  -- the end of input carries out the last line
  end-carries : (l line : List ℕ) → ended l (take room line) ≡ carried_out l (last_line line)
  unfolding last_line carried_out
  end-carries l [] = ap (ended l) (take-nil room) ∙ ended-none l
  end-carries l (b ∷ line) =
      ended-line l (b ∷ line) room (omega arith) (omega arith) ∙ cut-answered l (b ∷ line)
      ∙ ap (λ (t : List ℕ). record { text = t; after = (answered l (b ∷ line)).after }) (sym (append-nil (answered l (b ∷ line)).text))

  input-carried : (l input : List ℕ) → let f = fed room l [] input in
      then_lines f.text (ended f.after f.line) ≡ carried_out l (lines_of input)
  unfolding lines_from
  input-carried l input =
      let c = rw (take-nil {A = ℕ} room) at (piece-carries l [] input []) in
      let f = fed room l [] input in
      ap (then_lines f.text) (ap (ended f.after) c.kept ∙ end-carries f.after (rest_of [] input))
      ∙ sym (ap (λ (i : List ℕ). carried_out l (lines_of i)) (sym (append-nil input)) ∙ c.lines)

  -- WHATEVER THE PIECES: their answers and that of the last line are those of the lines of the whole input, and so is the record
  pub pieces-carried : (l : List ℕ) (pieces : List (List ℕ)) → let f = fed_all room l [] pieces in
      then_lines f.text (ended f.after f.line) ≡ carried_out l (lines_of (input_of pieces))
  pieces-carried l pieces =
      ap (λ (f : Fed). then_lines f.text (ended f.after f.line)) (pieces-one room l [] pieces) ∙ input-carried l (input_of pieces)
