-- `index::lowest` meets its contract: the machine's count is the first set bit. Assumes nothing.
use Rattle.memory.proofs.FirstSet.{count-below}
use Rattle.memory.proofs.MachineCounts.{trailing-first}
use Rattle.index.proofs.lowest.Goals as goal

pub returns : goal.returns
returns c = (trailing-first 64 c.args.x, count-below 64 c.args.x c.requires)
