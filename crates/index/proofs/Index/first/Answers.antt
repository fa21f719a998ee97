-- `index::Index::first` meets its contract: the search gives the first number that is not 0, and the count its first set bit. Assumes nothing.
use mathlib.Core.Path.{◌≡◌}
use native.Mathlib.Omega.{arith}
use borrow.Author.Rules.{rules}
use borrow.Author.Tests.{tests}
use Rattle.std.specs.Prelude.{◌<◌, length, MatchOption}
use Rattle.std.specs.List.{AllWithin, HoldsAt}
use Rattle.std.proofs.lemmas.Iterator.{IsFirst-from_position, YieldsList-from_slice}
use Rattle.index.proofs.Noted.{some-set}
use Rattle.index.proofs.FirstWord.{none-there, first-there}
use Rattle.index.proofs.Index.first.Goals as goal
use Rattle.index.proofs.Index.first.Goals.{After-position}

-- what the search found
searched : (w : After-position) → let x = w.args.self.now.numbers in
    MatchOption w.position.result (AllWithin (λ n. n ≡ 0) x 0 (length x))
    (λ k. (k < length x) × HoldsAt (λ n. n ≡ 0 → ⊥) x k × AllWithin (λ n. n ≡ 0) x 0 k)
searched w =
    IsFirst-from_position _ _ w.position.result (λ n. n ≡ 0 → ⊥) (λ n. n ≡ 0) w.position.ensures.ran
    (YieldsList-from_slice w.args.self.now.numbers cc)
    (λ x q k. search (rules, tests))
    (λ x q k. search (rules, tests))

pub returns-in_err-k : goal.returns-in_err-k
returns-in_err-k c =
    let s = rw c.in_err-k.was at (searched (goal.at.returns-in_err-k c).After-position) in
    rw c.from_residual.ensures (none-there c.args.self.now.numbers (search rules) s)

pub lowest-requires : goal.lowest-requires
lowest-requires c =
    let s = rw c.in_ok-k.was at (searched (goal.at.lowest-requires c).After-position) in
    some-set _ (search rules) (s.1 0)

pub returns : goal.returns
returns c =
    let s = rw c.in_ok-k.was at (searched (goal.at.returns c).After-position) in
    let m = c.lowest.ensures in
    (first-there c.args.self.now.numbers (omega (arith, s.0)) s.2 m.0 m.1, omega (arith, s.0, m.1))
