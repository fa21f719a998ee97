-- `delivery::deliver_pull` meets its contract. Assumes nothing.
use mathlib.Core.Path.{refl}
use borrow.Author.Rules.{rules}
use Rattle.protocol.specs.Message.{name}
use Rattle.delivery.proofs.ByKind.{pull-kind, pull-in}
use Rattle.delivery.proofs.Steps.{idle, fits, carried-noted}
use Rattle.delivery.proofs.deliver_pull.Goals as goal

pub returns-in_err-take_named : goal.returns-in_err-take_named
returns-in_err-take_named c =
    let m = c.args.m in
    let e = c.in_err-take_named.ensures in
    idle c.args.rec.now c.requires (name 3 m.to m.about m.level m.side) c.from_residual.result _ c.from_residual.ensures.1 e.taken e.refused

pub pull-requires : goal.pull-requires
pull-requires c =
    let m = c.args.m in
    let f = fits c.args.rec.now c.requires (pull-kind m.to m.about m.level m.side) c.in_ok-take_named.ensures.taken refl in
    let p = pull-in m.to m.about m.level m.side f.0 f.1 in
    (p.0, p.1, p.2)

pub returns : goal.returns
returns c =
    let m = c.args.m in
    carried-noted c.args.rec.now c.requires (pull-kind m.to m.about m.level m.side) c.in_ok-take_named.ensures.taken refl (λ i. search rules)
    _ _ (rw c.of_number-side.ensures at c.pull.ensures)
