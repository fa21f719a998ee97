-- `reading::open` meets its contract: the bytes written are those of the opened record. Assumes nothing.
use lib.ListN.{length}
use borrow.Author.Rules.{rules}
use borrow.Author.Tests.{eq-eqb, ne_eqb}
use Rattle.protocol.specs.Refusals.{first}
use Rattle.record.specs.Answer.{number_of}
use Rattle.record.specs.Layout.{size}
use Rattle.record.specs.Reading.{open_refusal, open_bytes}
use Rattle.record.proofs.Opened.{opened-bytes}
use Rattle.reading.proofs.Filled.{zero-filled}
use Rattle.reading.proofs.open.Goals as goal

pub returns-in_default : goal.returns-in_default
unfolding open_refusal open_bytes first number_of
returns-in_default c = let e = ne_eqb (length c.args.rec.now) size c.in_default.ensures.cases in (rw e, rw e)

pub no_links-requires : goal.no_links-requires
no_links-requires c = zero-filled _ (c.fill.ensures.after (λ y e. e))

pub returns : goal.returns
unfolding open_refusal open_bytes first number_of
returns c =
    let e = eq-eqb (length c.args.rec.now) size (search rules) in
    (rw e, rw e ((opened-bytes _).1 c.no_links.ensures))
