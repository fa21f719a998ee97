-- A writer after a text: what the functions below an answer's do. Assumes nothing.
use Rattle.std.specs.Prelude.{ℕ, ◌+◌, min, max, List, length}
use Rattle.std.proofs.lemmas.List.Edits.{sets}
use Rattle.text.specs.declared.Writer.{Writer}

-- the bytes of the buffer o with the text t over it from position n on
unfoldable pub bytes_after : (o : List ℕ) (n : ℕ) (t : List ℕ) → List ℕ
bytes_after o n t = sets o n t

-- the position after the text, or the end of the buffer
unfoldable pub place_after : (o : List ℕ) (n : ℕ) (t : List ℕ) → ℕ
place_after o n t = min (max (length o) n) (n + length t)

-- the writer w after the text t, which it put into the same buffer from its position on
abbrev pub written : Writer → List ℕ → Writer
written w t = record w { out = record w.out { now = bytes_after w.out.now w.at t }; at = place_after w.out.now w.at t }
