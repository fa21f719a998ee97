-- `clearing::freeing::clear_seat` meets its contract. Assumes nothing.
use mathlib.Core.Path.{sym, ◌∙◌}
use native.Mathlib.Omega.{arith}
use Rattle.clearing.proofs.Freed.{clear-freed, clear_kept}
use Rattle.clearing.proofs.freeing.clear_seat.Goals as goal

pub returns-then-in_set : goal.returns-then-in_set
returns-then-in_set c = λ M f e.
    let a = c.args in
    c.fill.ensures ∙ clear-freed a.set a.s _ (omega arith) M e (sym c.in_set.ensures ∙ c.if-in_set.true)

pub returns-else-in_set : goal.returns-else-in_set
returns-else-in_set c = λ M f e.
    let s = c.args.s in
    let set = c.args.set in
    clear_kept set s _ (omega arith) M e (sym c.in_set.ensures ∙ c.if-in_set.false)
