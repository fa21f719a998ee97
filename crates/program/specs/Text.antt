-- The text of an answer, with its newline (document 01, "The program"). Assumes nothing.
use Rattle.std.specs.Prelude.{ℕ, zero, suc, cond, List, ◌++◌, eqb}
use Rattle.std.proofs.Math.Option.{Option, none, some}
use Rattle.command.specs.Ascii.{ascii}
use Rattle.command.specs.Text.{shown}
use Rattle.record.specs.Reading.{CountAnswer}
use Rattle.find.specs.Find.{FindAnswer}

-- a line of another form
unfoldable pub bad_text : List ℕ
bad_text = ascii "bad\n"

-- a refused line
unfoldable pub refused_text : (refused : ℕ) → List ℕ
refused_text n = ascii "no " ++ (shown n ++ ascii "\n")

-- J, L, D, T and A
unfoldable pub done_text : (refused : ℕ) → List ℕ
done_text zero = ascii "ok\n"
done_text (suc n) = refused_text (suc n)

-- F: the holder's seat or none, and the hops
unfoldable pub holder_text : Option ℕ → List ℕ
holder_text none = ascii "none"
holder_text (some s) = ascii "holder " ++ shown s

unfoldable pub hops_text : (hops : ℕ) → List ℕ
hops_text h = ascii " hops " ++ (shown h ++ ascii "\n")

unfoldable pub found_text : FindAnswer → List ℕ
found_text a = cond (eqb a.refused 0) (holder_text a.holder ++ hops_text a.hops) (refused_text a.refused)

-- the first line of P: seated lots, phase and pending count
unfoldable pub phase_text : (phase : ℕ) → List ℕ
phase_text p = cond (eqb p 0) (ascii "open") (ascii "clearing")

unfoldable pub counts_text : CountAnswer → List ℕ
counts_text a = ascii "lots " ++ (shown a.lots ++ (ascii " phase " ++ (phase_text a.phase
    ++ (ascii " pending " ++ (shown a.pending ++ ascii "\n")))))
