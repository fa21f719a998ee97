-- `clearing::tell` meets its contract. Assumes nothing.
use Rattle.clearing.proofs.Telling.{tell-sent, tell_none}
use Rattle.clearing.proofs.tell.Goals as goal

pub returns-in-Some : goal.returns-in-Some
returns-in-Some c = λ M f e.
    let a = c.args in
    rw (c.send.ensures, c.going_place.ensures.0, c.opposite.ensures)
    (tell-sent M f a.y a.k _ c.requires.0 c.requires.1 e c.in-Some.to c.in-Some.ensures.seat c.in-Some.ensures.link)

pub returns-in_default : goal.returns-in_default
returns-in_default c = λ M f e. let a = c.args in tell_none M f a.y a.k _ c.requires.0 c.requires.1 e c.in_default.ensures.link
