-- The two sides of a lot in a list. Assumes nothing.
use Rattle.std.specs.Prelude.{ℕ, Bool, cond, eqb, ltb}

pub data Side : Type 0 where
  left right : Side
  deriving Discrete as Side-discrete

-- the other side
abbrev pub opp : Side → Side
opp left = right
opp right = left

-- number b lies on side d of number a
unfoldable pub on_side : Side → ℕ → ℕ → Bool
on_side left a b = ltb b a
on_side right a b = ltb a b

-- the side of number a on which number b lies
unfoldable pub side_of : ℕ → ℕ → Side
side_of a b = cond (ltb a b) right left

-- side 0 is left, 1 right
abbrev pub side_number : Side → ℕ
side_number left = 0
side_number right = 1

-- the side of a number: 1 is right, any other left
abbrev pub side_of_number : ℕ → Side
side_of_number d = cond (eqb d 1) right left
