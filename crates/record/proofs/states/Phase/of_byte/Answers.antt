-- `record::states::Phase::of_byte` meets its contract. Assumes nothing.
use native.Mathlib.Omega.{arith}
use borrow.Author.Tests.{ne_eqb}
use Rattle.record.specs.Meaning.{phase_of}
use Rattle.record.proofs.states.Phase.of_byte.Goals as goal

pub returns-in-0 : goal.returns-in-0
unfolding phase_of
returns-in-0 c = rw c.in-0.is

pub returns-in_default : goal.returns-in_default
unfolding phase_of
returns-in_default c = rw (ne_eqb c.args.b 0 (λ e. omega (arith, c.in_default)))
