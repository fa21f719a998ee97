-- Text over the start of a lent buffer, for which there is room if the buffer has it for the text of every answer. Assumes nothing.
use Rattle.std.specs.Prelude.{ℕ, ◌≤◌, List, length}
use Rattle.text.specs.inner.Put.{Put}
use Rattle.program.specs.inner.Room.{room}

-- the text t was put over the start of the buffer o, and fits `room` bytes
pub record Whole (o t out : List ℕ) (r : ℕ) : Type 0 where
  pub put : Put o 0 t out r
  pub fits : length t ≤ room
