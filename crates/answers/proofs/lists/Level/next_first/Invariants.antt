-- `next_first` meets its contract: before each turn, of the seats passed. Assumes nothing.
use Rattle.std.proofs.Common.{◌≡◌, ◌<◌}
use Rattle.std.specs.Option.{ForSome}
use Rattle.graph.specs.Vector.{width}
use Rattle.record.specs.Layout.{seats}
use Rattle.record.specs.Meaning.{meaning}
use Rattle.check_links.specs.Check.{members_in}
use Rattle.listing.specs.Lists.{next_first}
use Rattle.record.specs.Code.{as_link}
use Rattle.answers.proofs.lists.Level.next_first.Given as goal

abbrev pub invariant-loop-s : goal.invariant-loop-s
invariant-loop-s l = record {
  seat : ForSome l.best (λ y. y < seats);
  first : as_link l.best ≡ next_first width (members_in l.self.rec.now) (meaning l.self.rec.now).link l.s l.self.k (as_link l.last);
}
