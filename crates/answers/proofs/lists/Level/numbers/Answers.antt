-- `numbers` meets its contract: before each turn the numbers that are left. Assumes nothing.
use Rattle.std.proofs.Common.{arith, ◌-◌, ◌<◌}
use Rattle.record.specs.Layout.{seats}
use Rattle.record.specs.Meaning.{seats_in, meaning}
use Rattle.listing.proofs.Steps.{numbers-zero, numbers-none}
use Rattle.record.specs.Code.{as_link}
use Rattle.answers.proofs.Parts.{lots}
use Rattle.answers.proofs.Turns.{numbers-turn}
use Rattle.answers.proofs.lists.Level.numbers.Goals as goal

pub loop-preserved : goal.loop-preserved
loop-preserved c =
    let l = c.args.self.now.rec.now in
    let s = c.in-Some.seat in
    let h : s < seats = c.loop.invariant.seat s c.in-Some.is in
    let e = numbers-turn seats c.loop.counter (omega arith) (seats_in l).number (meaning l).link c.args.self.now.k s in
    record { turns = omega arith; seat = (λ x e. rw e at c.link-next.ensures.seat); left = grind (arith, lots) }

pub returns-after-loop : goal.returns-after-loop
returns-after-loop c =
    let l = c.args.self.now.rec.now in
    let e = numbers-zero (seats_in l).number (meaning l).link c.args.self.now.k (as_link c.loop.next) in
    grind (arith, lots)

pub returns-in_default : goal.returns-in_default
returns-in_default c =
    let l = c.args.self.now.rec.now in
    let e = numbers-none (seats_in l).number (meaning l).link c.args.self.now.k (seats - c.loop.counter) in
    grind (arith, lots)
