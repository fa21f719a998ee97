-- `rules::found` meets its contract. Assumes nothing.
use Rattle.protocol.specs.Rules.{effect}
use Rattle.protocol.specs.pages.Deliver.{rule}
use Rattle.record.specs.inner.Sent.{sent_bits}
use Rattle.rules.specs.inner.Done.{changed, done}
use Rattle.rules.proofs.found.Goals as goal

pub returns : goal.returns
unfolding done sent_bits changed rule effect
returns c =
    rw (← c.side_of-d.ensures) c.write_link.ensures
