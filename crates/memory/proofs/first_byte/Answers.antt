-- `memory::first_byte` meets its contract: the first byte that is not 0 is the first of those that are left. Assumes nothing.
use mathlib.Core.Path.{◌≡◌, sym, ap, ◌∙◌}
use Prim.Native.Nat.{ℕ, ◌+◌}
use mathlib.Core.Bool.{true, false}
use lib.Dec.{eqb}
use lib.ListN.{drop}
use borrow.Author.Rules.{rules}
use borrow.Author.Tests.{tests}
use Rattle.std.specs.List.{prefix_len}
use Rattle.std.proofs.lemmas.Iterator.{IsFirst-from_position, YieldsList-from_slice}
use Rattle.std.proofs.lemmas.List.{take_rest}
use Rattle.std.proofs.lemmas.List.Sums.{prefix_len-le-length}
use native.Mathlib.Omega.{arith}
use Rattle.memory.proofs.Runs.{prefix-position}
use Rattle.memory.proofs.first_byte.Goals as goal

pub returns-clause-first : goal.returns-clause-first
returns-clause-first c =
    let z = λ (x : ℕ). eqb x 0 in
    let rest = drop c.skip_zeros-at.result c.args.bytes.now in
    let whole = take_rest c.args.bytes.now c.skip_zeros-at.result in
    let r = IsFirst-from_position _ _ c.position.result (λ (x : ℕ). z x ≡ false) (λ x. z x ≡ true)
    c.position.ensures.ran (YieldsList-from_slice rest cc) (λ x q k. search (rules, tests)) (λ x q k. search (rules, tests)) in
    let k : prefix_len z rest ≡ c.unwrap_or.result = prefix-position z rest c.position.result r ∙ cc in
    ap (λ (n : ℕ). c.skip_zeros-at.result + n) (sym k) ∙ sym c.skip_zeros-at.ensures.same

pub returns-clause-within : goal.returns-clause-within
returns-clause-within c = omega (arith, returns-clause-first c, prefix_len-le-length (λ (x : ℕ). eqb x 0) c.args.bytes.now)
