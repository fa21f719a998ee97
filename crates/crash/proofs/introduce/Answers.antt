-- `crash::introduce` meets its contract. Assumes nothing.
use mathlib.Core.Path.{◌∙◌}
use Rattle.crash.proofs.Introducing.{introduce-ends, introduce-none}
use Rattle.crash.proofs.introduce.Goals as goal

pub returns-in-Some : goal.returns-in-Some
returns-in-Some c = λ M f e.
    let a = c.args in
    c.send-in-Some.ensures
    ∙ rw (c.meet_place-in-Some.ensures.0, c.send.ensures, c.meet_place.ensures.0)
    (introduce-ends M f a.x a.k _ c.requires.0 c.requires.1 e c.in-Some.y c.in-Some.ensures.seat c.in-Some.ensures.link)

pub returns-in_default : goal.returns-in_default
returns-in_default c = λ M f e. let a = c.args in introduce-none M f a.x a.k _ c.requires.0 c.requires.1 e c.in_default.ensures.link
