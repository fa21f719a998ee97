-- `memory::skip_runs` meets its contract: the runs before the first that has a byte that is not 0 are passed. Assumes nothing.
use mathlib.Core.Path.{◌≡◌, ◌∙◌}
use mathlib.Core.Bool.{true, false}
use mathlib.Core.List.{List}
use Prim.Native.Nat.{ℕ, ◌/◌}
use native.Mathlib.Nat.{div-mul-le_self}
use lib.Dec.{eqb}
use lib.ListN.{length}
use borrow.Author.Rules.{rules}
use borrow.Author.Tests.{tests}
use Rattle.std.specs.List.{list_all, prefix_len}
use Rattle.std.specs.Simd.{first_chunks}
use Rattle.std.proofs.lemmas.Iterator.{IsFirst-from_position, YieldsList-from_slice}
use Rattle.memory.proofs.Runs.{prefix-position, prefix-runs}
use Rattle.memory.proofs.skip_runs.Goals as goal

pub returns-clause-same : goal.returns-clause-same
returns-clause-same g c =
    let z = λ (x : ℕ). eqb x 0 in
    let n = g.row.N in
    let xs = c.args.bytes.now in
    let m = length xs / n in
    let r = IsFirst-from_position _ _ c.position.result (λ (run : List ℕ). list_all z run ≡ false) (λ run. list_all z run ≡ true)
    c.position.ensures.ran (YieldsList-from_slice (first_chunks n m xs) cc) (λ x q k. search (rules, tests)) (λ x q k. search (rules, tests)) in
    let k : prefix_len (list_all z) (first_chunks n m xs) ≡ c.unwrap_or.result = prefix-position (list_all z) (first_chunks n m xs) c.position.result r ∙ cc in
    rw k at (prefix-runs z n m xs (div-mul-le_self (length xs) n))
