-- `soundness::links::Lots::may_link` meets its contract. Assumes nothing.
use mathlib.Core.Path.{sym, ap₂, ◌∙◌}
use borrow.Author.Rules.{rules}
use Rattle.graph.specs.Side.{on_side}
use Rattle.graph.specs.inner.Code.{as_side}
use Rattle.base.proofs.Stops.{and-stop, and-go}
use Rattle.protocol.proofs.SoundFacts.{seated-held}
use Rattle.record.specs.Meaning.{seats_in}
use Rattle.soundness.proofs.LinkByte.{link-ok}
use Rattle.soundness.proofs.links.Lots.may_link.Goals as goal

pub returns-then-shares : goal.returns-then-shares
returns-then-shares c =
    let n = c.args.self.now.numbered in
    let seated = sym c.is_seated.ensures ∙ c.if-is_seated.true in
    let e = ap₂ (on_side (as_side c.args.d)) (n c.args.x (search rules) (seated-held (seats_in c.args.self.now.rec.now) c.args.x c.requires.2))
    (n c.args.y (search rules) (seated-held (seats_in c.args.self.now.rec.now) c.args.y seated)) in
    and-go c.is_seated.ensures c.if-is_seated.true
    (and-go c.shares.ensures c.if-shares.true (c.on_side.ensures ∙ e))
    ∙ sym (link-ok _ _ _ _ _ c.requires.2)

pub returns-else-shares : goal.returns-else-shares
returns-else-shares c =
    and-go c.is_seated.ensures c.if-is_seated.true (and-stop _ c.shares.ensures c.if-shares.false)
    ∙ sym (link-ok _ _ _ _ _ c.requires.2)

pub returns-else-is_seated : goal.returns-else-is_seated
returns-else-is_seated c = and-stop _ c.is_seated.ensures c.if-is_seated.false ∙ sym (link-ok _ _ _ _ _ c.requires.2)
