-- `memory::zero_run` meets its contract: the or is 0 exactly if the bytes are. Assumes nothing.
use mathlib.Core.Path.{ap, ◌∙◌}
use Prim.Native.Nat.{ℕ}
use lib.Bits.{bit_or}
use lib.Dec.{eqb}
use borrow.Author.Rules.{rules}
use borrow.Author.Tests.{tests}
use Rattle.std.proofs.lemmas.Iterator.{YieldsList-from_slice}
use Rattle.std.proofs.lemmas.Iterator.Consumers.{fold_from_yields_List}
use Rattle.memory.proofs.Runs.{or-zeros}
use Rattle.memory.proofs.zero_run.Goals as goal

pub returns : goal.returns
returns c =
    let or = fold_from_yields_List _ bit_or 0 c.fold.result c.fold.ensures.ran (YieldsList-from_slice c.args.bytes.now cc)
    (λ a x b q k. search (rules, tests)) in
    ap (λ (x : ℕ). eqb x 0) or ∙ or-zeros 0 c.args.bytes.now
