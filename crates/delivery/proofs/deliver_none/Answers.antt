-- `delivery::deliver_none` meets its contract. Assumes nothing.
use mathlib.Core.Path.{refl}
use borrow.Author.Rules.{rules}
use Rattle.protocol.specs.Message.{name}
use Rattle.delivery.proofs.ByKind.{none-kind, none_in}
use Rattle.delivery.proofs.Steps.{idle, fits, carried-out}
use Rattle.delivery.proofs.deliver_none.Goals as goal

pub returns-in_err-take_named : goal.returns-in_err-take_named
returns-in_err-take_named c =
    let m = c.args.m in
    let e = c.in_err-take_named.ensures in
    idle c.args.rec.now c.requires (name 7 m.to m.about m.level m.side) c.from_residual.result _ c.from_residual.ensures.1 e.taken e.refused

pub none-requires : goal.none-requires
none-requires c =
    let m = c.args.m in
    let f = fits c.args.rec.now c.requires (none-kind m.to m.about m.level m.side) c.in_ok-take_named.ensures.taken refl in
    let p = none_in m.to m.about m.level m.side f.0 f.1 in
    (p.0, p.1)

pub returns : goal.returns
returns c =
    let m = c.args.m in
    carried-out c.args.rec.now c.requires (none-kind m.to m.about m.level m.side) c.in_ok-take_named.ensures.taken refl (λ i. search rules)
    (rw c.of_number-side.ensures at c.none.ensures)
