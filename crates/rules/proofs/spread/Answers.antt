-- `rules::spread` meets its contract. Assumes nothing.
use borrow.Author.Tests.{le-ltb}
use Rattle.rules.specs.inner.Done.{send_all}
use Rattle.graph.specs.inner.Code.{as_side}
use Rattle.rules.proofs.Meets.{spread-sent}
use Rattle.rules.proofs.Sides.{bit_not}
use Rattle.rules.proofs.Sends.{send-link, send-no-link}
use Rattle.rules.proofs.spread.Goals as goal

pub returns-in-Some : goal.returns-in-Some
returns-in-Some c =
    let a = c.args in
    spread-sent a.rec.now a.to a.about a.vector a.other (as_side a.side) a.index.now.numbers a.index.now.top
    c.if-level-lt-WIDTH.true
    c.probe_place.ensures.0
    c.send.ensures
    (rw (c.in-Some.is, send-link) (rw (c.pull_place.ensures.0, bit_not _ c.bit-want.ensures.1, c.bit-want.ensures.0) at c.send-in-Some.ensures))

pub returns-in_default : goal.returns-in_default
returns-in_default c =
    let a = c.args in
    spread-sent a.rec.now a.to a.about a.vector a.other (as_side a.side) a.index.now.numbers a.index.now.top
    c.if-level-lt-WIDTH.true
    c.probe_place.ensures.0
    c.send.ensures
    (rw (c.in_default.is, send-no-link))

pub returns-else-level-lt-WIDTH : goal.returns-else-level-lt-WIDTH
unfolding send_all
returns-else-level-lt-WIDTH c = rw (le-ltb _ _ c.if-level-lt-WIDTH.false)
