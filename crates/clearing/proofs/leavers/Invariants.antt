-- `clearing::leavers` meets its contract: the set has the leavers below `s`. Assumes nothing.
use Rattle.protocol.specs.State.{leaves}
use Rattle.record.specs.Meaning.{seats_in}
use Rattle.clearing.proofs.Leaving.{Gathered}
use Rattle.clearing.proofs.leavers.Given as goal

abbrev pub invariant-loop-s : goal.invariant-loop-s
invariant-loop-s l = Gathered (leaves (seats_in l.rec)) l.set l.s
