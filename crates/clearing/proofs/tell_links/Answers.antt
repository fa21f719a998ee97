-- `clearing::tell_links` meets its contract: the levels below `k` are done. Assumes nothing.
use native.Mathlib.Omega.{arith}
use Rattle.graph.specs.Side.{left, right}
use Rattle.protocol.specs.pages.Turn.{farewell}
use Rattle.record.specs.Layout.{levels}
use Rattle.clearing.specs.inner.Steps.{level_farewells}
use Rattle.clearing.proofs.Telling.{Step-none, Step-then, Step-next, Step-all}
use Rattle.clearing.proofs.tell_links.Goals as goal

pub loop-k-init : goal.loop-k-init
loop-k-init c = Step-none (λ s L. level_farewells L c.args.y) _

pub loop-k-preserved : goal.loop-k-preserved
loop-k-preserved c =
    let y = c.args.y in
    let k = c.loop-k.k in
    Step-next (λ s L. level_farewells L y) k c.loop-k.invariant
    (Step-then (λ s L. farewell L y k left) (λ s L. farewell L y k right) c.tell.ensures c.tell-in-loop-k.ensures)

pub returns : goal.returns
returns c = Step-all (λ s L. level_farewells L c.args.y) levels (omega arith) c.loop-k.invariant
