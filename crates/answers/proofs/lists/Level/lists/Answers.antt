-- `level` meets its contract: before each turn the lists that are left. Assumes nothing.
use Rattle.std.proofs.Common.{arith, ◌-◌, ◌<◌, sym, ◌∙◌}
use Rattle.graph.specs.Vector.{width}
use Rattle.record.specs.Layout.{seats}
use Rattle.record.specs.Meaning.{meaning}
use Rattle.check_links.specs.Check.{members_in}
use Rattle.listing.specs.Text.{level_text}
use Rattle.listing.proofs.Steps.{lists-zero, lists-none}
use Rattle.record.specs.Code.{as_link}
use Rattle.answers.proofs.Words.{words}
use Rattle.answers.proofs.Turns.{lists-turn}
use Rattle.answers.proofs.lists.Level.lists.Goals as goal

pub loop-preserved : goal.loop-preserved
loop-preserved c =
    let l = c.args.self.now.rec.now in
    let x = c.in-Some.first in
    let h : x < seats = c.next_first.ensures.seat x c.in-Some.is in
    let e = lists-turn seats c.loop.counter (omega arith) seats width (members_in l) (meaning l).link c.args.self.now.k (as_link c.loop.last) x
    (sym c.next_first.ensures.next ∙ rw c.in-Some.is) in
    record { turns = omega arith; seat = grind (arith, words); left = grind (arith, words) }

pub returns-after-loop : goal.returns-after-loop
unfolding level_text
returns-after-loop c =
    let l = c.args.self.now.rec.now in
    let e = lists-zero seats width (members_in l) (meaning l).link c.args.self.now.k (as_link c.loop.last) in
    grind (arith, words)

pub returns-in_default : goal.returns-in_default
unfolding level_text
returns-in_default c =
    let l = c.args.self.now.rec.now in
    let e = lists-none seats width (members_in l) (meaning l).link c.args.self.now.k (seats - c.loop.counter) (as_link c.loop.last)
    (sym c.next_first.ensures.next ∙ rw c.in_default.is) in
    grind (arith, words)
