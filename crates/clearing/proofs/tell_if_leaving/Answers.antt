-- `clearing::tell_if_leaving` meets its contract. Assumes nothing.
use mathlib.Core.Path.{sym, ◌∙◌}
use native.Mathlib.Omega.{arith}
use Rattle.clearing.proofs.Telling.{tell-leaver, tell-other}
use Rattle.clearing.proofs.tell_if_leaving.Goals as goal

pub returns-then-is_leaving : goal.returns-then-is_leaving
returns-then-is_leaving c = λ M f e.
    let y = c.args.y in
    c.tell_links.ensures M f e ∙ tell-leaver M y (omega arith) e (sym c.is_leaving.ensures ∙ c.if-is_leaving.true)

pub returns-else-is_leaving : goal.returns-else-is_leaving
returns-else-is_leaving c = λ M f e.
    let y = c.args.y in
    tell-other M y (omega arith) e (sym c.is_leaving.ensures ∙ c.if-is_leaving.false)
