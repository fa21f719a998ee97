-- `soundness::entries::Buckets::seat_fits` meets its contract. Assumes nothing.
use mathlib.Core.Path.{refl, sym, ◌∙◌}
use Rattle.base.proofs.Tests.{true-false}
use Rattle.base.proofs.Cases.{and-true}
use Rattle.soundness.proofs.Numbers.{free-differs}
use Rattle.soundness.proofs.Kept.{kept_free}
use Rattle.soundness.proofs.entries.Buckets.seat_fits.Goals as goal

pub returns-then-not-state_fits : goal.returns-then-not-state_fits
returns-then-not-state_fits c = (rw (sym c.state_fits.ensures ∙ c.if-not-state_fits.true), λ e. true-false e refl)

pub lot_fits-requires : goal.lot_fits-requires
lot_fits-requires c =
    (c.requires.0, sym c.is_taken.ensures ∙ c.if-is_taken.true, c.requires.1)

pub returns-then-is_taken : goal.returns-then-is_taken
returns-then-is_taken c =
    let state = sym c.state_fits.ensures ∙ c.if-not-state_fits.false in
    let lot = sym c.is_taken.ensures ∙ c.if-is_taken.true in
    (rw (state, lot) c.lot_fits.ensures.0, c.lot_fits.ensures.1)

pub returns : goal.returns
returns c =
    let l = c.args.rec.now in
    let state = sym c.state_fits.ensures ∙ c.if-not-state_fits.false in
    let free = sym c.is_taken.ensures ∙ c.if-is_taken.false in
    (rw (state, free-differs l c.args.s free, free, and-true) c.as_opened.ensures, λ e. kept_free l c.args.s c.requires.1 free)
