-- `check_links::ahead` meets its contract. The loop's invariant: the run from y on, of the lots that are left, finds what the whole run finds.
-- Assumes nothing.
use Prim.Native.Nat.{suc, ◌+◌, ◌-◌}
use mathlib.Core.Path.{◌≡◌, sym, ap, ◌∙◌}
use mathlib.Core.Option.{some}
use native.Mathlib.Omega.{arith}
use borrow.Author.Rules.{rules}
use Rattle.graph.specs.Vector.{width, bit}
use Rattle.record.specs.Layout.{seats}
use Rattle.record.specs.Meaning.{seats_in}
use Rattle.record.specs.Code.{as_link}
use Rattle.check_links.proofs.Runs.{run_of, run_none, run-found, run_on, run_end}
use Rattle.check_links.proofs.ahead.Goals as goal

pub returns-in_err-y-clause-lot : goal.returns-in_err-y-clause-lot
returns-in_err-y-clause-lot c =
    let s = c.args in
    let b = bit width s.k ((seats_in s.rec.now).vector s.x) in
    ap as_link c.from_residual.ensures ∙ run_none s.rec.now s.k b seats ∙ ap (run_of s.rec.now s.k b seats) c.in_err-y.ensures.link

pub returns-then-bit_of-b-clause-lot : goal.returns-then-bit_of-b-clause-lot
returns-then-bit_of-b-clause-lot c =
    let s = c.args in
    run-found s.rec.now s.k (bit width s.k ((seats_in s.rec.now).vector s.x)) (seats - c.loop.counter) c.loop.y
    (sym c.bit_of.ensures ∙ c.if-bit_of-b.true ∙ c.bit_of-b.ensures)
    ∙ c.loop.invariant.2

pub returns-in_err-y-2-clause-lot : goal.returns-in_err-y-2-clause-lot
returns-in_err-y-2-clause-lot c =
    let s = c.args in
    let b = bit width s.k ((seats_in s.rec.now).vector s.x) in
    let rest = seats - (c.loop.counter + 1) in
    let e : suc rest ≡ seats - c.loop.counter = omega arith in
    let on = run_on s.rec.now s.k b rest c.loop.y (λ q. c.if-bit_of-b.false (c.bit_of.ensures ∙ q ∙ sym c.bit_of-b.ensures)) c.in_err-y-2.ensures.link in
    ap as_link c.from_residual-in_err-y-2.ensures ∙ run_none s.rec.now s.k b rest ∙ (rw e at on) ∙ c.loop.invariant.2

pub loop-preserved : goal.loop-preserved
loop-preserved c =
    let s = c.args in
    let b = bit width s.k ((seats_in s.rec.now).vector s.x) in
    let rest = seats - (c.loop.counter + 1) in
    let e : suc rest ≡ seats - c.loop.counter = omega arith in
    let on = run_on s.rec.now s.k b rest c.loop.y (λ q. c.if-bit_of-b.false (c.bit_of.ensures ∙ q ∙ sym c.bit_of-b.ensures)) c.in_ok-y-2.ensures.link in
    (search rules, c.in_ok-y-2.ensures.seat, (rw e at on) ∙ c.loop.invariant.2)

pub returns-after-loop-clause-lot : goal.returns-after-loop-clause-lot
returns-after-loop-clause-lot c =
    let s = c.args in
    let e : seats - c.loop.counter ≡ 0 = omega arith in
    run_end s.rec.now s.k (bit width s.k ((seats_in s.rec.now).vector s.x)) (some c.loop.y) ∙ (rw e at c.loop.invariant.2)
