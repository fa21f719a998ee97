-- `rules::tell` meets its contract. Assumes nothing.
use mathlib.Core.Path.{◌≡◌}
use Rattle.protocol.specs.Message.{meet}
use Rattle.protocol.specs.Rules.{to_link}
use Rattle.rules.specs.inner.Done.{indexed, send_all}
use Rattle.record.specs.Code.{as_link}
use Rattle.graph.specs.inner.Code.{as_side}
use Rattle.rules.proofs.Meets.{told-sent}
use Rattle.rules.proofs.Sends.{send-link, send-no-link}
use Rattle.rules.proofs.tell.Goals as goal
use Rattle.rules.proofs.tell.Goals.{in-Some, in_default}

pub returns : goal.returns
returns c =
    let a = c.args in
    -- the old link is told of `about`, if there was one
    let x = c.match-old.index in
    let y = c.send.new.index in
    let handed : indexed c.match-old.rec x.numbers x.top
    ≡ send_all (to_link (as_link a.old) (λ o. meet a.about o a.level)) (indexed c.send.new.rec y.numbers y.top) =
    elim c.match-old.branch [
      | in-Some w ↦ rw (w.rec-is, w.index-is, w.in-Some.is, send-link, ← w.meet_place-in-Some.ensures.0) w.send-in-Some.ensures
      | in_default w ↦ rw (w.rec-is, w.index-is, w.in_default.is, send-no-link)
    ] in
    told-sent a.rec.now a.index.now.numbers a.index.now.top a.to a.about a.level a.old c.link-other.result (as_side a.d) c.vector-vector.result
    c.requires.0
    (rw c.opposite-away.ensures at c.link-other.ensures.link)
    c.vector-vector.ensures
    c.meet_place.ensures.0
    c.send.ensures
    handed
    (rw c.opposite-away.ensures at c.spread.ensures)
