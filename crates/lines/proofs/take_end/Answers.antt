-- `take_end` meets its contract. Assumes nothing.
use native.Mathlib.Omega.{arith}
use Rattle.program.proofs.Kept.{gives_nothing, ended-none, ended-line, take-empty}
use Rattle.lines.proofs.take_end.Goals as goal

pub returns-then-n-eq0 : goal.returns-then-n-eq0
returns-then-n-eq0 c = let s = c.args in rw (c.if-n-eq0.true, ended-none) (gives_nothing s.rec.now s.out.now)

pub returns-then-line-eq0 : goal.returns-then-line-eq0
returns-then-line-eq0 c = let s = c.args in
    rw (take-empty s.line.now s.n c.if-line-eq0.true, ended-none) (gives_nothing s.rec.now s.out.now)

pub returns : goal.returns
returns c = let s = c.args in
    rw (ended-line s.rec.now s.line.now s.n (omega (arith, c.if-n-eq0.false))
    (omega (arith, c.if-line-eq0.false))) c.answer_kept.ensures
