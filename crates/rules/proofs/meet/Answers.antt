-- `rules::meet` meets its contract. Assumes nothing.
use mathlib.Core.Path.{sym, ◌∙◌}
use Rattle.graph.specs.inner.Code.{as_side}
use Rattle.rules.proofs.Meets.{same-done, Met, passed-done, set-done}
use Rattle.rules.proofs.meet.Goals as goal
use Rattle.rules.proofs.meet.Goals.{After-write_link}

pub returns-then-eq : goal.returns-then-eq
returns-then-eq c =
    let a = c.args in
    same-done a.rec.now a.index.now.numbers a.index.now.top a.to a.about a.level (as_side c.side_of-d.result) c.link-old.result
    c.side_of-d.ensures
    c.link-old.ensures.link
    (sym c.eq.ensures ∙ c.if-eq.true)

-- where the link is another
met : (w : After-write_link)
    →
    let a = w.args in
    Met a.rec.now a.to a.about a.level (as_side w.side_of-d.result) w.link-old.result w.nearer-near.result
    w.change_to.result w.write_link.new.rec
met w = record {
  side = w.side_of-d.ensures;
  link = w.link-old.ensures.link;
  other = sym w.eq.ensures ∙ w.if-eq.false;
  nearer = w.nearer-near.ensures;
  change = rw (← w.is_some-stays.ensures) w.change_to.ensures;
  wrote = w.write_link.ensures;
}

pub returns-in-Some : goal.returns-in-Some
returns-in-Some c =
    let n = c.args.index.now in
    passed-done (met (goal.at.returns-in-Some c).After-write_link) n.numbers n.top c.in-Some.is c.meet_place.ensures.0 c.send.ensures

pub returns-in-None : goal.returns-in-None
returns-in-None c =
    let n = c.args.index.now in
    set-done (met (goal.at.returns-in-None c).After-write_link) n.numbers n.top c.in-None.is c.requires.0 c.requires.2 c.tell.ensures
