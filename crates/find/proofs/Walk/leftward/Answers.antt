-- `Walk::leftward` meets its contract. The loop's invariant: what goes on from where it stands goes on from the first; each turn, fewer lots lie
-- left of it. Assumes nothing.
use mathlib.Core.Path.{sym, ◌∙◌}
use native.Mathlib.Omega.{arith}
use Rattle.find.proofs.Leftward.{ends-here, hop-fits, hop-less, ends_there, goes-past}
use Rattle.find.proofs.Walk.leftward.Goals as goal

pub overflow_add-self : goal.overflow_add-self
overflow_add-self c = omega (arith, hop-fits c.loop-y.invariant c.in-Some.y 0 c.in-Some.ensures.link)

pub returns-then-is_staying : goal.returns-then-is_staying
returns-then-is_staying c = ends_there c.loop-y.invariant c.in-Some.y _ c.in-Some.ensures.link (sym c.is_staying.ensures ∙ c.if-is_staying.true)

pub loop-y-smaller : goal.loop-y-smaller
loop-y-smaller c = hop-less c.loop-y.invariant c.in-Some.y c.loop-y.self.level c.in-Some.ensures.link

pub loop-y-preserved : goal.loop-y-preserved
loop-y-preserved c = goes-past c.loop-y.invariant c.in-Some.y _ c.in-Some.ensures.link (sym c.is_staying.ensures ∙ c.if-is_staying.false)

pub returns : goal.returns
returns c = ends-here c.loop-y.invariant c.in_default.ensures.link
