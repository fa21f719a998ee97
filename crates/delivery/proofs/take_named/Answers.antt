-- `delivery::take_named` meets its contract. Assumes nothing.
use mathlib.Core.Path.{refl, sym, ◌∙◌}
use native.Mathlib.Omega.{arith}
use Rattle.delivery.proofs.Steps.{unplaced, by_bit}
use Rattle.delivery.proofs.take_named.Goals as goal

pub returns-in-Some-clause-taken : goal.returns-in-Some-clause-taken
returns-in-Some-clause-taken c =
    let (e, h) = c.in-Some.ensures in
    by_bit _ _ e (λ q. omega (arith, q, h)) (sym c.if-is_pending.true ∙ c.is_pending.ensures) c.take.ensures

pub returns-in_default-clause-taken : goal.returns-in_default-clause-taken
returns-in_default-clause-taken c =
    let (e, h) = c.in-Some.ensures in
    by_bit _ _ e (λ q. omega (arith, q, h)) (sym c.if-is_pending.false ∙ c.is_pending.ensures) refl

pub returns-in_default-2-clause-taken : goal.returns-in_default-2-clause-taken
returns-in_default-2-clause-taken c = unplaced _ _ refl c.in_default.ensures
