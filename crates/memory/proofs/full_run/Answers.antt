-- `memory::full_run` meets its contract: the words and the bytes that are left are all full exactly if the bytes are. Assumes nothing.
use mathlib.Core.Path.{◌≡◌, ap, ◌∙◌}
use mathlib.Core.Bool.{Bool, ◌&&◌}
use mathlib.Core.List.{List}
use Prim.Native.Nat.{ℕ, ◌+◌, ◌-◌, ◌*◌, ◌/◌}
use native.Mathlib.Omega.{arith}
use lib.ListN.{length, take, drop}
use borrow.Author.Rules.{rules}
use borrow.Author.Tests.{tests}
use Rattle.std.specs.List.{list_all}
use Rattle.std.specs.Simd.{first_chunks}
use Rattle.std.proofs.lemmas.Iterator.{YieldsList-from_slice}
use Rattle.std.proofs.lemmas.Iterator.Search.{all_from_yields_List}
use Rattle.memory.specs.Bytes.{fulls}
use Rattle.memory.proofs.Search.{bytes-taken}
use Rattle.memory.proofs.Fulls.{is_full, word_full, full-parts, fulls-taken}
use Rattle.memory.proofs.full_run.Goals as goal
use Rattle.memory.proofs.full_run.Goals.{After-all}

-- the test of the words, and that of the bytes that are left
words : (c : After-all)
    → let s = c.args in
    let xs = take (s.at + s.n - s.at) (drop s.at s.rec.now) in
    (c.all.result && list_all is_full (drop (length xs / 8 * 8) xs)) ≡ fulls s.rec.now s.at s.n
words c =
    let s = c.args in
    let k : s.at + s.n - s.at ≡ s.n = omega arith in
    let xs : List ℕ = take (s.at + s.n - s.at) (drop s.at s.rec.now) in
    let first = all_from_yields_List word_full _ _ c.all.result c.all.ensures.ran (YieldsList-from_slice (first_chunks 8 (length xs / 8) xs) cc)
    (λ x b q h. search (rules, tests)) in
    ap (λ (t : Bool). t && list_all is_full (drop (length xs / 8 * 8) xs)) first
    ∙ full-parts xs (bytes-taken s.rec.now s.at (s.at + s.n - s.at) (λ j. omega (arith, c.type_inv.rec j)))
    ∙ rw k (fulls-taken s.rec.now s.at s.n (omega arith))

pub returns-then-all : goal.returns-then-all
returns-then-all c =
    let s = c.args in
    let xs : List ℕ = take (s.at + s.n - s.at) (drop s.at s.rec.now) in
    let rest = all_from_yields_List is_full _ _ c.all-then-all.result c.all-then-all.ensures.ran
    (YieldsList-from_slice (drop (length xs / 8 * 8) xs) cc) (λ x b q h. search (rules, tests)) in
    rest ∙ rw c.if-all.true at (words (goal.at.returns-then-all c).After-all)

pub returns-else-all : goal.returns-else-all
returns-else-all c = c.if-all.false ∙ rw c.if-all.false at (words (goal.at.returns-else-all c).After-all)
