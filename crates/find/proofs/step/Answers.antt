-- `find::step` meets its contract. Assumes nothing.
use Prim.Native.Nat.{ℕ}
use mathlib.Core.Path.{sym, ◌∙◌, ap}
use Rattle.graph.specs.Side.{side_of}
use Rattle.record.specs.Meaning.{seats_in, meaning}
use Rattle.find.proofs.Read.{number_read}
use Rattle.find.proofs.Steps.{step-side}
use Rattle.find.proofs.step.Goals as goal

pub returns : goal.returns
returns c =
    let l = c.args.rec.now in
    let x = c.args.x in
    let n = number_read l c.args.s c.number.result c.requires.0 c.number.ensures in
    step-side (seats_in l).number (meaning l).link x c.args.s c.args.k _ c.requires.2
    (c.side_of-d.ensures ∙ ap (λ (m : ℕ). side_of m x) (sym n)) c.along.ensures
