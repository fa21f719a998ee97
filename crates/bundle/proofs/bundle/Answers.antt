-- `bundle::bundle` meets its contract. Assumes nothing.
use mathlib.Core.Path.{refl, sym}
use Rattle.record.proofs.Answered.{number-0}
use Rattle.record.proofs.Bundle.{bundle-done}
use Rattle.bundle.proofs.Ready.{first-place, quiet_none}
use Rattle.bundle.proofs.Going.{refused-bundle, unsized-bundle}
use Rattle.bundle.proofs.bundle.Goals as goal

pub returns-in_default : goal.returns-in_default
returns-in_default c = unsized-bundle _ _ c.in_default.ensures.cases

pub returns-in_err-first : goal.returns-in_err-first
returns-in_err-first c =
    rw (← c.in-Some.ensures.cases.same)
    (refused-bundle _ _ c.from_residual.result _ c.in_err-first.was c.look.ensures.refused c.from_residual.ensures.1)

pub returns-in-None : goal.returns-in-None
returns-in-None c =
    let l = c.in-Some.rec.now in
    let none = rw c.in-None.is at c.in_ok-first.ensures.first in
    rw (← c.in-Some.ensures.cases.same)
    (sym (bundle-done l c.args.limit (number-0 _ c.in_ok-first.ensures.refused) (quiet_none l (sym none) refl)))

pub deliver_smallest-requires : goal.deliver_smallest-requires
deliver_smallest-requires c =
    let place = rw c.in-Some-2.is at c.in_ok-first.ensures.first in
    (number-0 _ c.in_ok-first.ensures.refused, first-place _ place.0)
