-- `index::Index::first_by_top` meets its contract: the first number that is not 0, and its first set bit. Assumes nothing.
use native.Mathlib.Omega.{arith}
use borrow.Author.Rules.{rules}
use Rattle.index.proofs.Noted.{some-set, top-none}
use Rattle.index.proofs.FirstWord.{number-some, number-within, word-found}
use Rattle.index.proofs.Index.first_by_top.Goals as goal

pub returns-then-self-eq0 : goal.returns-then-self-eq0
returns-then-self-eq0 c = top-none c.requires c.if-self-eq0.true

pub lowest-k-requires : goal.lowest-k-requires
lowest-k-requires c = some-set c.args.self.now.top (search rules) c.if-self-eq0.false

pub bounds-self-k : goal.bounds-self-k
bounds-self-k c = number-within c.requires c.lowest-k.ensures.0 c.lowest-k.ensures.1

pub lowest-requires : goal.lowest-requires
lowest-requires c = number-some c.requires c.lowest-k.ensures.0 c.lowest-k.ensures.1

pub returns : goal.returns
returns c =
    let e = c.requires in
    let l = c.lowest-k.ensures in
    let m = c.lowest.ensures in
    (word-found e l.0 l.1 m.0 m.1, omega (arith, number-within e l.0 l.1, m.1))
