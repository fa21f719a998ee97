-- `reading::read_counts` meets its contract. Assumes nothing.
use Prim.Native.Nat.{ℕ, ◌^◌, ◌≤◌, ◌<◌}
use mathlib.Core.Path.{◌≡◌, sym, ◌∙◌, subst}
use mathlib.Core.Bool.{Bool}
use native.Mathlib.Omega.{arith}
use Rattle.base.specs.Loops.{count}
use Rattle.base.proofs.Count.{count-le}
use Rattle.record.specs.Layout.{messages}
use Rattle.record.specs.Answer.{number_of}
use Rattle.messages.specs.inner.Numbers.{NoneBefore}
use Rattle.messages.proofs.First.{none-before-zero, none-before-end}
use Rattle.reading.proofs.Values.{counts-wrong_size, counts-refused, counts-values}
use Rattle.reading.proofs.read_counts.Goals as goal
use Rattle.reading.proofs.read_counts.Goals.{then-pending-eq0, else-pending-eq0}

-- a count of messages fits
count_fits : (n : ℕ) (p : ℕ → Bool) {m : ℕ} → m ≡ count n p → n ≤ messages → m < 2 ^ 32
count_fits n p e h = omega (arith, e, count-le n p)

pub returns-in_default : goal.returns-in_default
returns-in_default c = counts-wrong_size _ c.in_default.ensures.cases

pub sized_refusal-requires : goal.sized_refusal-requires
sized_refusal-requires c = elim c.if-pending-eq0.branch [
  | then-pending-eq0 w ↦
      subst (NoneBefore _) (sym w.sized_refusal-is) (none-before-end _ (sym c.count_bits-pending.ensures ∙ w.if-pending-eq0.true))
  | else-pending-eq0 w ↦ subst (NoneBefore _) (sym w.sized_refusal-is) (none-before-zero _)
]

pub returns-in_err-sized_refusal : goal.returns-in_err-sized_refusal
unfolding number_of
returns-in_err-sized_refusal c =
    rw (← c.in-Some.ensures.cases.same) (counts-refused _ c.from_residual.result _ c.from_residual.ensures.1 c.in_err-sized_refusal.ensures)

pub overflow_cast-result : goal.overflow_cast-result
overflow_cast-result c = record { fits = count_fits _ _ c.count_bits-pending.ensures (omega arith) }

pub returns : goal.returns
unfolding number_of
returns c =
    rw (← c.in-Some.ensures.cases.same) (counts-values _ _ c.in_ok-sized_refusal.ensures c.seated_lots.ensures c.phase.ensures c.count_bits-pending.ensures)
