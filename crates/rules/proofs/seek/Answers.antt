-- `rules::seek` meets its contract. Assumes nothing.
use Rattle.protocol.specs.Rules.{effect, seeking, passing}
use Rattle.protocol.specs.pages.Deliver.{rule}
use Rattle.rules.specs.inner.Done.{changed, send_all, carried}
use Rattle.rules.proofs.Sides.{staying-in}
use Rattle.rules.proofs.seek.Goals as goal

pub returns-then-is_staying : goal.returns-then-is_staying
unfolding carried send_all changed rule effect seeking
returns-then-is_staying c =
    rw (
      staying-in,
      ← c.is_staying.ensures,
      c.if-is_staying.true,
      ← c.found_place.ensures.0,
    ) c.send.ensures

pub returns-in-Some : goal.returns-in-Some
unfolding carried send_all changed rule effect seeking passing
returns-in-Some c =
    rw (
      staying-in,
      ← c.is_staying.ensures,
      c.if-is_staying.false,
      ← c.side_of-d.ensures,
      ← c.in-Some.ensures.link,
      ← c.seek_place.ensures.0,
    ) c.send-in-Some.ensures

pub returns-in-None : goal.returns-in-None
unfolding carried send_all changed rule effect seeking passing
returns-in-None c =
    rw (
      staying-in,
      ← c.is_staying.ensures,
      c.if-is_staying.false,
      ← c.side_of-d.ensures,
      ← c.in-None.ensures.link,
      ← c.none_place.ensures.0,
    ) c.send-in-None.ensures
