-- `clearing::leavers` meets its contract: the set has the leavers below `s`. Assumes nothing.
use mathlib.Core.Path.{sym, ◌∙◌}
use native.Mathlib.Omega.{arith}
use Rattle.protocol.specs.State.{leaves}
use Rattle.record.specs.Meaning.{seats_in}
use Rattle.clearing.proofs.Leaving.{Gathered-none, Gathered-more, Gathered-past, Gathered-all}
use Rattle.clearing.proofs.leavers.Goals as goal
use Rattle.clearing.proofs.leavers.Goals.{then-is_leaving, else-is_leaving}

pub loop-s-init : goal.loop-s-init
loop-s-init c = Gathered-none (leaves (seats_in c.args.rec.now))

pub loop-s-preserved : goal.loop-s-preserved
loop-s-preserved c =
    let p = leaves (seats_in c.args.rec.now) in
    elim c.if-is_leaving.branch [
      | then-is_leaving w ↦
          Gathered-more p c.loop-s.set c.loop-s.s _ c.loop-s-test.true c.loop-s.invariant (sym c.is_leaving.ensures ∙ w.if-is_leaving.true) w.set-is
      | else-is_leaving w ↦ Gathered-past p c.loop-s.set c.loop-s.s _ c.loop-s.invariant (sym c.is_leaving.ensures ∙ w.if-is_leaving.false) w.set-is
    ]

pub returns : goal.returns
returns c = Gathered-all c.args.rec.now c.loop-s.set c.loop-s.s (omega arith) c.loop-s.invariant
