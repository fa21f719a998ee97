-- `clearing::freeing::unlink_lot` meets its contract: the levels below `k` are done. Assumes nothing.
use Prim.Native.Nat.{ℕ, ◌+◌}
use mathlib.Core.Path.{◌≡◌, ap, ◌∙◌}
use native.Mathlib.Omega.{arith}
use Rattle.record.specs.Meaning.{bytes_of}
use Rattle.clearing.specs.inner.Steps.{link_place, freed_to}
use Rattle.clearing.proofs.freeing.unlink_lot.Goals as goal

pub loop-k-preserved : goal.loop-k-preserved
loop-k-preserved c = λ M f e.
    let x = c.args.x in
    let k = c.loop-k.k in
    let to = λ (n : ℕ). bytes_of (freed_to c.args.set (x + 1) n M) in
    let u : link_place x k 0 + 1 ≡ link_place x k 1 = omega arith in
    let v : link_place x k 1 + 1 ≡ link_place x (k + 1) 0 = omega arith in
    c.unlink-in-loop-k.ensures M f (c.unlink.ensures M f (c.loop-k.invariant M f e) ∙ ap to u) ∙ ap to v

pub returns : goal.returns
returns c = λ M f e.
    let x = c.args.x in
    let n : link_place x c.loop-k.k 0 ≡ link_place (x + 1) 0 0 = omega arith in
    c.loop-k.invariant M f e ∙ ap (λ (n : ℕ). bytes_of (freed_to c.args.set (x + 1) n M)) n
