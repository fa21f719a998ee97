-- `clearing::freeing::unlink` meets its contract. Assumes nothing.
use Prim.Native.Nat.{◌+◌}
use mathlib.Core.Path.{refl, sym, ◌∙◌}
use mathlib.Core.Option.{none, some}
use borrow.Author.Rules.{rules}
use Rattle.graph.specs.inner.Code.{as_side}
use Rattle.clearing.proofs.Unlinking.{cut-link, uncut-link}
use Rattle.clearing.proofs.freeing.unlink.Goals as goal
use Rattle.clearing.proofs.freeing.unlink.Goals.{in_default-via-in-None-1, in_default-via-in-Some+else-parts}

pub returns-then-parts : goal.returns-then-parts
returns-then-parts c = λ M f e.
    let a = c.args in
    c.write_link.ensures
    ∙ cut-link a.set (a.x + 1) a.x a.k _ c.requires.0 c.requires.1 M f e _ c.in-Some.ensures.link (sym c.parts.ensures ∙ c.if-parts.true)

pub returns-in_default : goal.returns-in_default
returns-in_default c = λ M f e.
    let a = c.args in
    let kept = uncut-link a.set (a.x + 1) a.x a.k (as_side a.d) c.requires.0 c.requires.1 M f e in
    elim c.in_default.branch [
      | in_default-via-in-None-1 w ↦ kept none (search rules) refl
      | in_default-via-in-Some+else-parts w ↦ kept (some w.in-Some.y) w.in-Some.ensures.link (sym w.parts.ensures ∙ w.if-parts.false)
    ]
