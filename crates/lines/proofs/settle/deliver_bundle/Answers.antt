-- `deliver_bundle` meets its contract, case by case. Assumes nothing.
use mathlib.Core.Path.{ap}
use lib.Dec.{eqb}
use Rattle.record.specs.Bundle.{BundleOutcome}
use Rattle.lines.proofs.settle.deliver_bundle.Goals as goal

pub returns-in-Ok : goal.returns-in-Ok
returns-in-Ok c = (ap (λ (o : BundleOutcome). eqb o.delivered 65535) c.in-Ok.ensures, ap (λ (o : BundleOutcome). o.after) c.in-Ok.ensures)

pub returns-in-Err : goal.returns-in-Err
returns-in-Err c = (ap (λ (o : BundleOutcome). eqb o.delivered 65535) c.in-Err.ensures, ap (λ (o : BundleOutcome). o.after) c.in-Err.ensures)
