-- `rules::pull` meets its contract. Assumes nothing.
use borrow.Author.Tests.{eq-eqb, ne_eqb}
use Rattle.protocol.specs.Rules.{effect, pulling, to_link}
use Rattle.protocol.specs.pages.Deliver.{rule}
use Rattle.record.proofs.Form.{meaning-vector}
use Rattle.rules.specs.inner.Done.{changed, send_all, carried}
use Rattle.rules.proofs.Sides.{same_bits}
use Rattle.rules.proofs.pull.Goals as goal

pub returns-in-Some : goal.returns-in-Some
unfolding carried send_all changed rule effect pulling to_link
returns-in-Some c =
    rw (
      meaning-vector _ _ c.requires.0,
      ← c.vector.ensures,
      ← c.bit.ensures.0,
      same_bits _ _ c.bit.ensures.1 c.requires.1,
      eq-eqb _ _ c.if-bit-want.true,
      ← c.opposite.ensures,
      ← c.in-Some.ensures.link,
      ← c.probe_place.ensures.0,
    ) c.send.ensures

pub returns-in_default : goal.returns-in_default
unfolding carried send_all changed rule effect pulling to_link
returns-in_default c =
    rw (
      meaning-vector _ _ c.requires.0,
      ← c.vector.ensures,
      ← c.bit.ensures.0,
      same_bits _ _ c.bit.ensures.1 c.requires.1,
      eq-eqb _ _ c.if-bit-want.true,
      ← c.opposite.ensures,
      ← c.in_default.ensures.link,
    )

pub returns-in-Some-link : goal.returns-in-Some-link
unfolding carried send_all changed rule effect pulling to_link
returns-in-Some-link c =
    rw (
      meaning-vector _ _ c.requires.0,
      ← c.vector.ensures,
      ← c.bit.ensures.0,
      same_bits _ _ c.bit.ensures.1 c.requires.1,
      ne_eqb _ _ c.if-bit-want.false,
      ← c.in-Some-link.ensures.link,
      ← c.pull_place.ensures.0,
    ) c.send-in-Some-link.ensures

pub returns-in_default-link : goal.returns-in_default-link
unfolding carried send_all changed rule effect pulling to_link
returns-in_default-link c =
    rw (
      meaning-vector _ _ c.requires.0,
      ← c.vector.ensures,
      ← c.bit.ensures.0,
      same_bits _ _ c.bit.ensures.1 c.requires.1,
      ne_eqb _ _ c.if-bit-want.false,
      ← c.in_default-link.ensures.link,
    )
