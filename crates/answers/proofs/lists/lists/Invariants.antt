-- `lists` meets its contract: before each turn the levels below k. Assumes nothing.
use Rattle.std.proofs.Common.{◌≡◌}
use Rattle.graph.specs.Vector.{width}
use Rattle.record.specs.Layout.{seats}
use Rattle.record.specs.Meaning.{meaning}
use Rattle.check_links.specs.Check.{members_in}
use Rattle.listing.specs.Text.{text_below, level_text}
use Rattle.text.specs.inner.Written.{written}
use Rattle.answers.proofs.lists.lists.Given as goal

abbrev pub invariant-loop-k : goal.invariant-loop-k
invariant-loop-k l = l.w ≡ written l.initial.w (text_below l.k (level_text seats width (members_in l.rec) (meaning l.rec).link))
