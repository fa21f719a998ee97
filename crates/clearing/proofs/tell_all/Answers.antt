-- `clearing::tell_all` meets its contract: the lots below `y` are done. Assumes nothing.
use native.Mathlib.Omega.{arith}
use Rattle.protocol.specs.pages.Turn.{farewells}
use Rattle.record.specs.Layout.{seats}
use Rattle.clearing.proofs.Telling.{leavers_say, Step-none, Step-next, Step-all}
use Rattle.clearing.proofs.tell_all.Goals as goal

pub loop-y-init : goal.loop-y-init
loop-y-init c = Step-none leavers_say _

pub loop-y-preserved : goal.loop-y-preserved
loop-y-preserved c = Step-next leavers_say c.loop-y.y c.loop-y.invariant c.tell_if_leaving.ensures

pub returns : goal.returns
unfolding farewells
returns c = Step-all leavers_say seats (omega arith) c.loop-y.invariant
