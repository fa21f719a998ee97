-- The words that `index::tests::strikes_out_the_first` strikes out are noted. Assumes nothing.
use mathlib.Core.Path.{◌∙◌}
use mathlib.Core.Bool.{true, false}
use native.Mathlib.Omega.{arith}
use borrow.Author.Rules.{rules}
use Rattle.index.proofs.Noted.{noted-same, noted_other}
use Rattle.index.proofs.tests.strikes_out_the_first.Goals as goal

pub strike-requires : goal.strike-requires
strike-requires g c = (omega arith, rw c.note-2.ensures.0 (noted-same c.note.new.self.numbers 5 true (search rules)))

pub strike-requires-2 : goal.strike-requires-2
strike-requires-2 g c =
    let struck = noted_other c.note-2.new.self.numbers 5 false (search rules) 130 (λ e. omega arith) in
    let noted = noted_other c.note.new.self.numbers 5 true (search rules) 130 (λ e. omega arith) in
    let first = noted-same c.new-index.result.numbers 130 true (search rules) in
    (omega arith, rw c.strike.ensures.0 (struck ∙ rw c.note-2.ensures.0 (noted ∙ rw c.note.ensures.0 first)))
