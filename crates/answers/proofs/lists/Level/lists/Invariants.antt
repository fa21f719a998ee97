-- `level` meets its contract: before each turn the lists that are left. Assumes nothing.
use Rattle.std.proofs.Common.{◌≡◌, ◌-◌, ◌<◌, ◌≤◌}
use Rattle.std.proofs.Math.Option.{none}
use Rattle.std.specs.Option.{ForSome}
use Rattle.graph.specs.Vector.{width}
use Rattle.record.specs.Layout.{seats}
use Rattle.record.specs.Meaning.{meaning}
use Rattle.check_links.specs.Check.{members_in}
use Rattle.listing.proofs.Steps.{lists_after}
use Rattle.text.specs.inner.Written.{written}
use Rattle.record.specs.Code.{as_link}
use Rattle.answers.proofs.lists.Level.lists.Given as goal

abbrev pub invariant-loop : goal.invariant-loop
invariant-loop l = record {
  turns : l.counter ≤ seats;
  seat : ForSome l.last (λ y. y < seats);
  left : written l.initial.w (lists_after seats width (members_in l.self.rec.now) (meaning l.self.rec.now).link l.self.k seats none)
      ≡ written l.w (lists_after seats width (members_in l.self.rec.now) (meaning l.self.rec.now).link l.self.k (seats - l.counter) (as_link l.last));
}
