-- `settle` meets its contract, case by case. Assumes nothing.
use Prim.Native.Nat.{ℕ}
use mathlib.Core.Path.{sym, ap, ◌∙◌}
use native.Mathlib.Omega.{arith}
use borrow.Author.Rules.{rules}
use Rattle.record.specs.Answer.{number_of}
use Rattle.record.specs.Bundle.{BundleOutcome}
use Rattle.record.proofs.Answered.{refusal-on}
use Rattle.record.proofs.Bundle.{bundle-limit}
use Rattle.program.specs.Line.{settled}
use Rattle.program.proofs.Settled.{same-refusal, settled-after, settled-less}
use Rattle.lines.proofs.settle.settle.Goals as goal

pub returns-in_err-n : goal.returns-in_err-n
unfolding number_of
returns-in_err-n c =
    let l = c.args.rec.now in
    let e = c.in_err-n.ensures in
    let d = ap (λ (o : BundleOutcome). o.delivered) e in (
      refusal-on ℕ c.from_residual.result _ c.from_residual.ensures.1 (ap (λ (o : BundleOutcome). o.refused) e ∙ same-refusal l 65535),
      ap (λ (o : BundleOutcome). o.after) e ∙ sym (settled-less l (λ j. search rules) 65535 (omega (arith, d))),
    )

pub returns-then-n : goal.returns-then-n
unfolding number_of
returns-then-n c =
    let l = c.args.rec.now in
    let e = c.in_ok-n.ensures in (
      ap (λ (o : BundleOutcome). o.refused) e ∙ same-refusal l 65535,
      c.deliver_rest.ensures ∙ ap (λ (o : BundleOutcome). (settled o.after).after) e ∙ settled-after l (λ j. search rules) 65535,
    )

pub returns-else-n : goal.returns-else-n
unfolding number_of
returns-else-n c =
    let l = c.args.rec.now in
    let e = c.in_ok-n.ensures in
    let d = ap (λ (o : BundleOutcome). o.delivered) e in (
      ap (λ (o : BundleOutcome). o.refused) e ∙ same-refusal l 65535,
      ap (λ (o : BundleOutcome). o.after) e
          ∙ sym (settled-less l (λ j. search rules) 65535 (omega (arith, d, bundle-limit l 65535, c.if-n.false))),
    )
