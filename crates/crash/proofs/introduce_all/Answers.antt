-- `crash::introduce_all` meets its contract: the links of the lots below `x` are done. Assumes nothing.
use native.Mathlib.Omega.{arith}
use Rattle.protocol.specs.pages.Crash.{introductions}
use Rattle.record.specs.Layout.{seats}
use Rattle.crash.specs.inner.Steps.{lot_introductions}
use Rattle.clearing.proofs.Telling.{Step-none, Step-next, Step-all}
use Rattle.crash.proofs.introduce_all.Goals as goal

pub loop-x-init : goal.loop-x-init
loop-x-init c = Step-none (λ s. lot_introductions) _

pub loop-x-preserved : goal.loop-x-preserved
loop-x-preserved c = Step-next (λ s. lot_introductions) c.loop-x.x c.loop-x.invariant c.introduce_seat.ensures

pub returns : goal.returns
unfolding introductions
returns c = Step-all (λ s. lot_introductions) seats (omega arith) c.loop-x.invariant
