-- `Walk::advance` and `Walk::descend` meet their contracts, in one proof; the falling number is the distance and the level. Assumes nothing.
use mathlib.Core.Path.{sym, ◌∙◌}
use native.Mathlib.Omega.{arith}
use Rattle.find.proofs.Read.{number_read}
use Rattle.find.proofs.Steps.{lot-seat, stop-walked, move-ready, move-less, move-fits, move-walked}
use Rattle.find.proofs.Steps.{end-walked, drop-walked}
use Rattle.find.proofs.Walk.+advance_descend.Goals as goal

pub advance-returns-then-number-x : goal.advance-returns-then-number-x
advance-returns-then-number-x t c =
    let l = c.args.rec.now in
    let w = c.args.self in
    let h = c.requires in
    stop-walked l c.args.x w h (number_read l w.seat c.number.result (lot-seat l c.args.x w h) c.number.ensures ∙ c.if-number-x.true)

pub advance-step-requires : goal.advance-step-requires
advance-step-requires t c =
    let l = c.args.rec.now in
    let w = c.args.self in
    let h = c.requires in
    let seat = lot-seat l c.args.x w h in
    (seat, h.level, λ e. c.if-number-x.false (sym (number_read l w.seat c.number.result seat c.number.ensures) ∙ e))

pub advance-overflow_add-w : goal.advance-overflow_add-w
advance-overflow_add-w t c =
    let q = move-fits c.args.rec.now c.args.x c.args.self c.requires c.in-Some.y c.in-Some.ensures in
    omega arith

pub advance-advance-requires : goal.advance-advance-requires
advance-advance-requires t c =
    let l = c.args.rec.now in
    let x = c.args.x in
    let w = c.args.self in
    let h = c.requires in
    let d = move-less l x w h c.in-Some.y c.in-Some.ensures in
    (omega arith, move-ready l x w h c.in-Some.y c.in-Some.ensures _ (omega arith))

pub advance-returns-in-Some : goal.advance-returns-in-Some
advance-returns-in-Some t c =
    move-walked c.args.rec.now c.args.x c.args.self c.requires c.in-Some.y c.in-Some.ensures c.advance.result c.advance.ensures

pub descend-returns-then-self-eq0 : goal.descend-returns-then-self-eq0
descend-returns-then-self-eq0 t c = let h = c.requires in end-walked c.args.rec.now c.args.x c.args.self h.0 h.1 c.if-self-eq0.true

pub descend-returns : goal.descend-returns
descend-returns t c =
    let h = c.requires in
    drop-walked c.args.rec.now c.args.x c.args.self h.0 h.1 c.if-self-eq0.false c.advance.result c.advance.ensures
