-- Text that is put into a lent buffer from a position on, as far as there is room: what the functions below an answer's do. Assumes nothing.
use Rattle.std.specs.Prelude.{ℕ, ◌+◌, min, max, ◌≡◌, List, length}
use Rattle.std.proofs.lemmas.List.Edits.{sets}

-- the buffer `out` is o with the text t over it from position n on, and r is the position after the text, or the end of the buffer
pub record Put (o : List ℕ) (n : ℕ) (t out : List ℕ) (r : ℕ) : Type 0 where
  pub holds : out ≡ sets o n t
  pub next : r ≡ min (max (length o) n) (n + length t)
