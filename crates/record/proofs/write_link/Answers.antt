-- `record::write_link` meets its contract: a link written in the entry is that link of the record. Assumes nothing.
use borrow.Author.Rules.{rules}
use Rattle.graph.specs.inner.Code.{as_side}
use Rattle.record.proofs.Lent.{written-lent}
use Rattle.record.proofs.write_link.Goals as goal

pub returns : goal.returns
returns c =
    let a = c.args in
    written-lent a.rec.now a.s (search rules) c.requires.0 _ a.k (as_side a.d) a.change c.requires.1 c.write_link.ensures
