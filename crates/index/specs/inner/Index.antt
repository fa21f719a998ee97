-- An index of the words of the pending bits, in numbers of 64 bits: bit w % 64 of number w / 64 says whether word w is noted. Beside them stands
-- the top: its bit k says whether number k is not 0. Assumes nothing.
use Rattle.std.specs.Prelude.{ℕ, ◌+◌, ◌*◌, ◌/◌, ◌%◌, ◌<◌, ◌≡◌, Bool, List, length, get_or, set}
use Rattle.base.specs.Loops.{any, first_from}
use Rattle.memory.specs.Bits.{has_bit, with_bit}
use Rattle.record.specs.Layout.{messages}

-- the words of the pending bits, and the numbers that have a bit for each
abbrev pub words : ℕ
words = messages / 64

abbrev pub parts : ℕ
parts = (words + 63) / 64

-- word w is noted
abbrev pub is_noted : (x : List ℕ) (w : ℕ) → Bool
is_noted x w = has_bit (get_or x (w / 64) 0) (w % 64)

-- x with word w noted or not, as v says
abbrev pub noting : (x : List ℕ) (w : ℕ) (v : Bool) → List ℕ
noting x w v = set x (w / 64) (with_bit (get_or x (w / 64) 0) (w % 64) v)

-- the first noted word, or the number after all that could be
abbrev pub first_noted : List ℕ → ℕ
first_noted x = first_from (parts * 64) 0 (is_noted x)

-- number k has a set bit
abbrev pub is_some : (x : List ℕ) (k : ℕ) → Bool
is_some x k = any 64 (has_bit (get_or x k 0))

-- t is the top of x
pub record Exact (x : List ℕ) (t : ℕ) : Type 0 where
  pub long : length x ≡ parts
  pub tells : (k : ℕ) → k < 64 → has_bit t k ≡ is_some x k
