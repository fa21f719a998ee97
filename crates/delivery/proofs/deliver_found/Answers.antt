-- `delivery::deliver_found` meets its contract. Assumes nothing.
use mathlib.Core.Path.{refl}
use borrow.Author.Rules.{rules}
use Rattle.protocol.specs.Message.{name}
use Rattle.delivery.proofs.ByKind.{found-kind, found_in}
use Rattle.delivery.proofs.Steps.{idle, fits, carried-out}
use Rattle.delivery.proofs.deliver_found.Goals as goal

pub returns-in_err-take_named : goal.returns-in_err-take_named
returns-in_err-take_named c =
    let m = c.args.m in
    let e = c.in_err-take_named.ensures in
    idle c.args.rec.now c.requires (name 6 m.to m.about m.level m.side) c.from_residual.result _ c.from_residual.ensures.1 e.taken e.refused

pub found-requires : goal.found-requires
found-requires c =
    let m = c.args.m in
    let f = fits c.args.rec.now c.requires (found-kind m.to m.about m.level m.side) c.in_ok-take_named.ensures.taken refl in
    let p = found_in m.to m.about m.level m.side f.1 in
    (p.0, p.1, p.2)

pub returns : goal.returns
returns c =
    let m = c.args.m in
    carried-out c.args.rec.now c.requires (found-kind m.to m.about m.level m.side) c.in_ok-take_named.ensures.taken refl (λ i. search rules)
    c.found.ensures
