-- `answer_kept` meets its contract. Assumes nothing.
use mathlib.Core.Path.{sym}
use lib.Seq.{take_all, length-take-le}
use borrow.Author.Rules.{rules}
use Rattle.lines.proofs.answer_kept.Goals as goal

pub slice_bounds-answer-end : goal.slice_bounds-answer-end
slice_bounds-answer-end c = let s = c.args in sym (length-take-le s.n s.line.now (search rules))

pub returns : goal.returns
returns c = let s = c.args in
    rw (take_all s.n s.line.now c.if-n-line.false) c.answer-2.ensures
