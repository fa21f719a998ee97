-- `soundness::entries::lot_fits` meets its contract. Assumes nothing.
use mathlib.Core.Path.{refl, sym, ap, ◌∙◌}
use mathlib.Core.Bool.{not}
use Rattle.base.proofs.Tests.{true-false}
use Rattle.soundness.proofs.Numbers.{all-differ}
use Rattle.soundness.proofs.entries.Buckets.lot_fits.Goals as goal

pub returns-then-repeats : goal.returns-then-repeats
returns-then-repeats c =
    (sym (all-differ c.args.rec.now c.args.s c.requires.1 ∙ ap not (sym c.repeats.ensures ∙ c.if-repeats.true)), λ e. true-false e refl)

pub returns : goal.returns
returns c =
    let none = sym c.repeats.ensures ∙ c.if-repeats.false in
    (sym (all-differ c.args.rec.now c.args.s c.requires.1 ∙ ap not none), λ e. c.keep.ensures)
