-- `answer` meets its contract, command by command. Assumes nothing.
use mathlib.Core.Path.{◌≡◌, refl, sym, ap, ◌∙◌}
use lib.ListN.{length}
use mathlib.Core.Option.{some}
use Rattle.command.specs.Answer.{command_as}
use Rattle.program.specs.inner.Room.{room}
use Rattle.program.specs.Line.{answer_to}
use Rattle.lines.proofs.Arms.{gives, call-gives}
use borrow.Author.Rules.{rules}
use Rattle.lines.proofs.answer.Goals as goal

pub returns-in_default : goal.returns-in_default
unfolding answer_to
returns-in_default c = let s = c.args in
    let z : length s.out.now ≡ room = search rules in
    gives s.rec.now s.line.now c.in_default.ensures z refl c.bad.ensures

pub returns-in-Join : goal.returns-in-Join
unfolding answer_to
returns-in-Join c = let s = c.args in
    let e = ap (λ d. some (command_as d)) (sym c.in-Join.is) ∙ c.in-Some.ensures in
    let z : length s.out.now ≡ room = search rules in
    call-gives s.rec.now s.line.now e z _ refl c.join-a.ensures c.changed.ensures

pub returns-in-Leave : goal.returns-in-Leave
unfolding answer_to
returns-in-Leave c = let s = c.args in
    let e = ap (λ d. some (command_as d)) (sym c.in-Leave.is) ∙ c.in-Some.ensures in
    let z : length s.out.now ≡ room = search rules in
    call-gives s.rec.now s.line.now e z _ refl c.leave-a.ensures c.changed-in-Leave.ensures

pub returns-in-Deliver : goal.returns-in-Deliver
unfolding answer_to
returns-in-Deliver c = let s = c.args in
    let e = ap (λ d. some (command_as d)) (sym c.in-Deliver.is) ∙ c.in-Some.ensures in
    let z : length s.out.now ≡ room = search rules in
    call-gives s.rec.now s.line.now e z _ refl c.deliver-a.ensures c.changed-in-Deliver.ensures

pub returns-in-Turn : goal.returns-in-Turn
unfolding answer_to
returns-in-Turn c = let s = c.args in
    let e = ap (λ d. some (command_as d)) (sym c.in-Turn.is) ∙ c.in-Some.ensures in
    let z : length s.out.now ≡ room = search rules in
    call-gives s.rec.now s.line.now e z _ refl c.turn-a.ensures c.changed-in-Turn.ensures

pub returns-in-Settle : goal.returns-in-Settle
unfolding answer_to
returns-in-Settle c = let s = c.args in
    let e = ap (λ d. some (command_as d)) (sym c.in-Settle.is) ∙ c.in-Some.ensures in
    let z : length s.out.now ≡ room = search rules in
    let r = c.settle-a.ensures in
    gives s.rec.now s.line.now e z (rw (← r.0, ← r.1)) c.changed-in-Settle.ensures

pub returns-in-Find : goal.returns-in-Find
unfolding answer_to
returns-in-Find c = let s = c.args in
    let e = ap (λ d. some (command_as d)) (sym c.in-Find.is) ∙ c.in-Some.ensures in
    let z : length s.out.now ≡ room = search rules in
    gives s.rec.now s.line.now e z (rw (← c.find-a.ensures)) c.searched.ensures

pub returns-in-Print : goal.returns-in-Print
unfolding answer_to
returns-in-Print c = let s = c.args in
    let e = ap (λ d. some (command_as d)) (sym c.in-Print.is) ∙ c.in-Some.ensures in
    let z : length s.out.now ≡ room = search rules in
    gives s.rec.now s.line.now e z refl c.print.ensures
