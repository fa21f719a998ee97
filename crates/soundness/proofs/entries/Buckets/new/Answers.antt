-- `soundness::entries::Buckets::new` meets its contract. Assumes nothing.
use borrow.Author.Rules.{rules}
use Rattle.soundness.proofs.Kept.{kept-none}
use Rattle.soundness.proofs.entries.Buckets.new.Goals as goal

pub returns : goal.returns
returns c = λ l. kept-none l _ (search rules)
