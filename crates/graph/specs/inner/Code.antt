-- The sides as the code has them. Assumes nothing.
use Rattle.graph.specs.Side.{Side, left, right}
use Rattle.graph.specs.declared.Side as code
use Rattle.graph.specs.declared.Side.TheVariants.{Left, Right}

-- the side that a value of the code is
abbrev pub as_side : code.Side → Side
as_side Left = left
as_side Right = right
