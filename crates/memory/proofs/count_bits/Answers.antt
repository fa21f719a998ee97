-- `memory::count_bits` meets its contract. The loop's invariant: n and the set bits of the bytes that are left are those of all. Assumes nothing.
use mathlib.Core.Path.{◌≡◌, ap, sym, ◌∙◌}
use mathlib.Core.List.{List, []}
use Prim.Native.Nat.{ℕ, ◌+◌, ◌-◌, ◌/◌}
use native.Mathlib.Omega.{arith}
use lib.Count.{ones}
use lib.ListN.{length, take, drop}
use borrow.Author.Rules.{rules}
use borrow.Author.Tests.{tests}
use Rattle.std.specs.List.{sum_by}
use Rattle.std.proofs.lemmas.List.{take_rest, nil_from_length}
use Rattle.std.proofs.lemmas.List.Sums.{sum_by-take-drop}
use Rattle.base.specs.Loops.{count as count_of}
use Rattle.base.proofs.Count.{count-le}
use Rattle.memory.specs.Bytes.{AreBytes}
use Rattle.memory.specs.Bits.{bit_set}
use Rattle.memory.proofs.Runs.{ones-prefix}
use Rattle.memory.proofs.Search.{ones-taken}
use Rattle.memory.proofs.count_bits.Goals as goal
use Rattle.memory.proofs.count_bits.Goals.{Start, After-count_chunk-n}

-- the set bits of all bytes
total : (c : Start)
    → let s = c.args in
    AreBytes s.rec.now → sum_by ones (take (s.base + s.count / 8 - s.base) (drop s.base s.rec.now)) ≡ count_of s.count (bit_set s.rec.now s.base)
total c known =
    let s = c.args in
    ones-taken s.rec.now s.base (s.base + s.count / 8 - s.base) s.count known (omega arith) (omega arith)

-- those of the chunk are counted
counted : (c : After-count_chunk-n)
    → let s = c.args in
    c.loop-rest.n + c.count_chunk-n.result + sum_by ones c.split_at.result.1.now
    ≡ sum_by ones (take (s.base + s.count / 8 - s.base) (drop s.base s.rec.now))
counted c =
    let rest = c.loop-rest.rest.now in
    let at = c.first_byte.result in
    let found : List ℕ = take (length rest - at) (drop at rest) in
    let zeros : sum_by ones rest ≡ sum_by ones found =
    ones-prefix rest ∙ ap (λ (n : ℕ). sum_by ones (drop n rest)) (sym c.first_byte.ensures.first) ∙ ap (sum_by ones) (sym (take_rest rest at)) in
    let chunk = ap (sum_by ones) c.split_at.ensures.front in
    let after = ap (sum_by ones) c.split_at.ensures.back in
    omega (arith, sum_by-take-drop ones found c.min.result)

pub overflow_add-n : goal.overflow_add-n
overflow_add-n c = let s = c.args in
    let all = total (goal.at.overflow_add-n c).Start (λ j. omega (arith, c.type_inv.rec j)) in
    omega (arith, counted (goal.at.overflow_add-n c).After-count_chunk-n, count-le s.count (bit_set s.rec.now s.base))

pub loop-rest-preserved : goal.loop-rest-preserved
loop-rest-preserved c = counted (goal.at.loop-rest-preserved c).After-count_chunk-n

pub returns : goal.returns
returns c =
    let none : c.loop-rest.rest.now ≡ [] = nil_from_length c.loop-rest.rest.now (search (rules, tests)) in
    let zero : sum_by ones c.loop-rest.rest.now ≡ 0 = rw none in
    omega (arith, total (goal.at.returns c).Start (λ j. omega (arith, c.type_inv.rec j)))
