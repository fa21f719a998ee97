-- `record::lots::link` meets its contract. Assumes nothing.
use borrow.Author.Tests.{lt-ltb, le-ltb}
use Rattle.record.specs.Meaning.{link_of}
use Rattle.record.proofs.Form.{meaning-link}
use Rattle.record.proofs.lots.link.Goals as goal

pub returns-then-y-lt-SEATS-clause-link : goal.returns-then-y-lt-SEATS-clause-link
unfolding link_of
returns-then-y-lt-SEATS-clause-link c =
    rw (meaning-link _ _ _ _ c.requires.0 c.requires.1, ← c.link-y.ensures, lt-ltb _ _ c.if-y-lt-SEATS.true)

pub returns-else-y-lt-SEATS-clause-link : goal.returns-else-y-lt-SEATS-clause-link
unfolding link_of
returns-else-y-lt-SEATS-clause-link c =
    rw (meaning-link _ _ _ _ c.requires.0 c.requires.1, ← c.link-y.ensures, le-ltb _ _ c.if-y-lt-SEATS.false)
