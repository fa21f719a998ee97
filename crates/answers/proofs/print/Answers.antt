-- `print` meets its contract, by what the counts and the check say. Assumes nothing.
use Rattle.std.proofs.Common.{arith, refl, sym, ap}
use mathlib.Core.Logic.{⊎_elim}
use mathlib.Core.Bool.{true, false}
use Rattle.base.proofs.Cases.{true-or-false}
use Rattle.memory.specs.Bytes.{AreBytes}
use Rattle.record.specs.Reading.{CountAnswer}
use Rattle.record.proofs.Reading.{counts-passed}
use Rattle.record.proofs.Determined.{refusal_number-positive}
use Rattle.check_links.specs.Check.{check_in}
use Rattle.program.proofs.Long.{print-length}
use Rattle.program.proofs.Printed.{print-refused, print-waits, print-no, print-yes, yes-lists}
use Rattle.answers.proofs.Words.{words}
use Rattle.answers.proofs.print.Goals as goal
use Rattle.answers.proofs.print.Goals.{in-Err, in-Ok+then-read-eq0, in-Ok+else-read-eq0}

pub fit_lists-requires : goal.fit_lists-requires
fit_lists-requires c =
    let p = counts-passed c.args.rec.now (ap (λ (a : CountAnswer). a.refused) (sym c.in-Ok.ensures)) in
    (p.sized, p.fine)

pub returns : goal.returns
returns c =
    let l = c.args.rec.now in
    let b : AreBytes l = λ j. omega (arith, c.type_inv.rec j) in
    record {
      put = elim c.match-read_counts.branch [
        | in-Err w ↦
            rw (print-refused l _ (sym w.in-Err.ensures) (refusal_number-positive w.in-Err.refusal), ← w.from.ensures) (grind (arith, words))
        | in-Ok+then-read-eq0 w ↦
            let e = sym w.in-Ok.ensures in
            let p = counts-passed l (ap (λ (a : CountAnswer). a.refused) e) in
            ⊎_elim
            (λ yes. let lists = rw yes at w.fit_lists.ensures in
            rw (print-yes l _ e refl w.if-read-eq0.true yes, ← yes-lists l b p yes) (grind (arith, words)))
            (λ no. let none = rw no at w.fit_lists.ensures in rw (print-no l _ e refl w.if-read-eq0.true no) (grind (arith, words)))
            (true-or-false (check_in l).yes)
        | in-Ok+else-read-eq0 w ↦ rw (print-waits l _ (sym w.in-Ok.ensures) refl w.if-read-eq0.false) (grind (arith, words))
      ];
      fits = print-length l b;
    }
