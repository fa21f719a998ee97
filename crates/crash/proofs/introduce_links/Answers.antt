-- `crash::introduce_links` meets its contract: the levels from 1 below `k` are done. Assumes nothing.
use Prim.Native.Nat.{suc, ◌+◌, ◌-◌}
use mathlib.Core.Path.{◌≡◌}
use native.Mathlib.Omega.{arith}
use Rattle.graph.specs.Side.{left, right}
use Rattle.graph.specs.Vector.{width}
use Rattle.protocol.specs.pages.Crash.{introduced}
use Rattle.crash.specs.inner.Steps.{level_introductions}
use Rattle.clearing.proofs.Telling.{Step-none, Step-then, Step-next, Step-all}
use Rattle.crash.proofs.introduce_links.Goals as goal

pub loop-k-init : goal.loop-k-init
loop-k-init c = Step-none (λ s L. level_introductions L c.args.x) _

pub loop-k-preserved : goal.loop-k-preserved
loop-k-preserved c =
    let x = c.args.x in
    let k = c.loop-k.k in
    let above : suc (k - 1) ≡ k = omega arith in
    Step-all (λ s L. level_introductions L x) (k + 1 - 1) (omega arith)
    (Step-next (λ s L. level_introductions L x) (k - 1) c.loop-k.invariant
    (rw above (Step-then (λ s L. introduced L x k left) (λ s L. introduced L x k right) c.introduce.ensures c.introduce-in-loop-k.ensures)))

pub returns : goal.returns
returns c = Step-all (λ s L. level_introductions L c.args.x) width (omega arith) c.loop-k.invariant
