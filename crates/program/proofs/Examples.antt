-- Worked examples: the texts of answers, the lines of inputs, and inputs in pieces, whose lines are of another form, on any bytes. Assumes nothing.
use Prim.Native.Nat.{ℕ}
use mathlib.Core.Path.{◌≡◌, refl}
use mathlib.Core.Option.{none, some}
use mathlib.Core.List.{List, [], ◌∷◌}
use Rattle.command.specs.Ascii.{ascii}
use Rattle.command.specs.Command.{reversed, fields_from, fields, digits_from, decimal, fitting, command_of, parsed}
use Rattle.command.specs.Text.{shown_in, shown}
use Rattle.program.specs.Text.{bad_text, refused_text, done_text, holder_text, hops_text, found_text, phase_text, counts_text}
use Rattle.program.specs.Line.{answer_to, answered}
use Rattle.program.specs.Input.{last_line, lines_from, lines_of, carried_out}
use Rattle.program.specs.Pieces.{fed_byte, fed, fed_all, input_of, ended}

record Texts : Type 0 where
  done : done_text 0 ≡ ascii "ok\n"
  refused : done_text 13 ≡ ascii "no 13\n"
  held : found_text (record { refused = 0; holder = some 2; hops = 1 }) ≡ ascii "holder 2 hops 1\n"
  nobody : found_text (record { refused = 0; holder = none; hops = 10 }) ≡ ascii "none hops 10\n"
  waits : found_text (record { refused = 13; holder = none; hops = 0 }) ≡ ascii "no 13\n"
  open_phase : counts_text (record { refused = 0; lots = 3; phase = 0; pending = 0 }) ≡ ascii "lots 3 phase open pending 0\n"
  clearing : counts_text (record { refused = 0; lots = 64; phase = 1; pending = 105 }) ≡ ascii "lots 64 phase clearing pending 105\n"

texts : Texts
unfolding bad_text refused_text done_text holder_text hops_text found_text phase_text counts_text shown_in shown ascii
texts = record { done = refl; refused = refl; held = refl; nobody = refl; waits = refl; open_phase = refl; clearing = refl }

-- the lines of an input: a newline ends one, the last may lack it, and an empty line is one
record Lines : Type 0 where
  nothing : lines_of (ascii "") ≡ []
  empty : lines_of (ascii "\n") ≡ [] ∷ []
  two : lines_of (ascii "T\nA\n") ≡ ascii "T" ∷ ascii "A" ∷ []
  unfinished : lines_of (ascii "T\nA") ≡ ascii "T" ∷ ascii "A" ∷ []
  between : lines_of (ascii "T\n\nA") ≡ ascii "T" ∷ [] ∷ ascii "A" ∷ []

lines : Lines
unfolding last_line lines_from ascii
lines = record { nothing = refl; empty = refl; two = refl; unfinished = refl; between = refl }

-- three lines of another form, the last without its newline, whole and in pieces; one that is too long for the room
record OnAny (l : List ℕ) : Type 0 where
  whole : carried_out l (lines_of (ascii "t\n\nJ 1")) ≡ record { text = ascii "bad\nbad\nbad\n"; after = l }
  pieces : fed_all 4 l [] (ascii "t\n\nJ" ∷ [] ∷ ascii " " ∷ ascii "1" ∷ []) ≡ record { text = ascii "bad\nbad\n"; after = l; line = ascii "J 1" }
  last : ended l (ascii "J 1") ≡ record { text = ascii "bad\n"; after = l }
  long : fed_all 4 l [] (ascii "TA" ∷ ascii "TATA\nP" ∷ []) ≡ record { text = ascii "bad\n"; after = l; line = ascii "P" }

on-any : (l : List ℕ) → OnAny l
unfolding bad_text last_line lines_from carried_out answer_to answered fed_byte fed fed_all input_of ended reversed fields_from fields digits_from
    decimal fitting command_of parsed ascii
on-any l = record { whole = refl; pieces = refl; last = refl; long = refl }
