-- `rules::going` meets its contract. Assumes nothing.
use Rattle.protocol.specs.Rules.{effect, parting, to_link}
use Rattle.protocol.specs.pages.Deliver.{rule}
use Rattle.rules.specs.inner.Done.{changed, send_all, carried}
use Rattle.rules.proofs.Sides.{staying-in}
use Rattle.rules.proofs.going.Goals as goal

pub returns-in-Some : goal.returns-in-Some
unfolding carried send_all changed rule effect parting to_link
returns-in-Some c =
    rw (
      staying-in,
      ← c.is_staying.ensures,
      c.if-is_staying.true,
      ← c.in-Some.ensures.link,
      ← c.seek_place.ensures.0,
    ) c.send.ensures

pub returns-in_default : goal.returns-in_default
unfolding carried send_all changed rule effect parting to_link
returns-in_default c = rw (staying-in, ← c.is_staying.ensures, c.if-is_staying.true, ← c.in_default.ensures.link)

pub returns-else-is_staying : goal.returns-else-is_staying
unfolding carried send_all changed rule effect parting
returns-else-is_staying c = rw (staying-in, ← c.is_staying.ensures, c.if-is_staying.false)
