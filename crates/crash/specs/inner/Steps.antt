-- What the steps of a crash send. The contract of `crash` names none of these. Assumes nothing.
use Rattle.std.specs.Prelude.{ℕ, suc, List, ◌++◌}
use Rattle.graph.specs.Side.{left, right}
use Rattle.graph.specs.Graph.{Links}
use Rattle.graph.specs.Vector.{width}
use Rattle.protocol.specs.Message.{Msg}
use Rattle.protocol.specs.Page.{each}
use Rattle.protocol.specs.pages.Crash.{introduced}

-- of the links of x one level above k, and of all its links above level 0
abbrev pub level_introductions : Links → (x k : ℕ) → List Msg
level_introductions L x k = introduced L x (suc k) left ++ introduced L x (suc k) right

abbrev pub lot_introductions : Links → (x : ℕ) → List Msg
lot_introductions L x = each width (level_introductions L x)
