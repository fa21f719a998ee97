-- `numbers` meets its contract: before each turn the numbers that are left. Assumes nothing.
use Rattle.std.proofs.Common.{◌≡◌, ◌-◌, ◌<◌, ◌≤◌}
use Rattle.std.specs.Option.{ForSome}
use Rattle.std.proofs.Math.Option.{some}
use Rattle.record.specs.Layout.{seats}
use Rattle.record.specs.Meaning.{seats_in, meaning}
use Rattle.listing.proofs.Steps.{numbers_from}
use Rattle.text.specs.inner.Written.{written}
use Rattle.record.specs.Code.{as_link}
use Rattle.answers.proofs.lists.Level.numbers.Given as goal

abbrev pub invariant-loop : goal.invariant-loop
invariant-loop l = record {
  turns : l.counter ≤ seats;
  seat : ForSome l.next (λ y. y < seats);
  left : written l.initial.w (numbers_from (seats_in l.self.rec.now).number (meaning l.self.rec.now).link l.self.k seats (some l.s))
      ≡ written l.w (numbers_from (seats_in l.self.rec.now).number (meaning l.self.rec.now).link l.self.k (seats - l.counter) (as_link l.next));
}
