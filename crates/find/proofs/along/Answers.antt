-- `find::along` meets its contract. Assumes nothing.
use mathlib.Core.Path.{sym, ◌∙◌, ap}
use Rattle.graph.specs.Side.{on_side}
use Rattle.graph.specs.inner.Code.{as_side}
use Rattle.record.specs.Meaning.{seats_in, meaning}
use Rattle.find.specs.inner.Steps.{as_step}
use Rattle.find.proofs.Read.{number_read}
use Rattle.find.proofs.Steps.{along-moves, along-past, along-none}
use Rattle.find.proofs.along.Goals as goal

pub returns-in_err-y : goal.returns-in_err-y
returns-in_err-y c =
    let l = c.args.rec.now in
    along-none (seats_in l).number (meaning l).link c.args.x _ c.in_err-y.ensures.link ∙ ap as_step (sym c.from_residual.ensures)

pub returns-then-on_side : goal.returns-then-on_side
returns-then-on_side c =
    let l = c.args.rec.now in
    let n = number_read l c.in_ok-y.y c.number.result c.in_ok-y.ensures.seat c.number.ensures in
    along-past (seats_in l).number (meaning l).link c.args.x _ c.in_ok-y.y c.in_ok-y.ensures.link
    (ap (on_side (as_side c.args.d) c.args.x) n ∙ sym c.on_side.ensures ∙ c.if-on_side.true)

pub returns : goal.returns
returns c =
    let l = c.args.rec.now in
    let n = number_read l c.in_ok-y.y c.number.result c.in_ok-y.ensures.seat c.number.ensures in
    along-moves (seats_in l).number (meaning l).link c.args.x _ c.in_ok-y.y c.in_ok-y.ensures.link
    (ap (on_side (as_side c.args.d) c.args.x) n ∙ sym c.on_side.ensures ∙ c.if-on_side.false)
