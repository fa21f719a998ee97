-- `rules::probe` meets its contract. Assumes nothing.
use native.Mathlib.Numerals.{add-one}
use borrow.Author.Tests.{lt-ltb, le-ltb}
use Rattle.protocol.specs.Rules.{effect, probing, to_link}
use Rattle.protocol.specs.pages.Deliver.{rule}
use Rattle.rules.specs.inner.Done.{changed, send_all, carried}
use Rattle.rules.proofs.probe.Goals as goal

pub returns-then-level-share : goal.returns-then-level-share
unfolding carried send_all changed rule effect probing
returns-then-level-share c =
    rw (
      ← c.share.ensures,
      lt-ltb _ _ c.if-level-share.true,
      ← add-one c.args.level,
      ← c.meet_place.ensures.0,
    ) c.send.ensures

pub returns-in-Some : goal.returns-in-Some
unfolding carried send_all changed rule effect probing to_link
returns-in-Some c =
    rw (
      ← c.share.ensures,
      le-ltb _ _ c.if-level-share.false,
      ← c.side_of-d.ensures,
      ← c.opposite.ensures,
      ← c.in-Some.ensures.link,
      ← c.probe_place.ensures.0,
    ) c.send-in-Some.ensures

pub returns-in_default : goal.returns-in_default
unfolding carried send_all changed rule effect probing to_link
returns-in_default c =
    rw (
      ← c.share.ensures,
      le-ltb _ _ c.if-level-share.false,
      ← c.side_of-d.ensures,
      ← c.opposite.ensures,
      ← c.in_default.ensures.link,
    )
