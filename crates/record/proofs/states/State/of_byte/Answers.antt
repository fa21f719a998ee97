-- `record::states::State::of_byte` meets its contract. Assumes nothing.
use native.Mathlib.Omega.{arith}
use borrow.Author.Tests.{ne_eqb}
use Rattle.record.specs.Meaning.{state_of}
use Rattle.record.proofs.states.State.of_byte.Goals as goal

pub returns-in-0 : goal.returns-in-0
unfolding state_of
returns-in-0 c = rw c.in-0.is

pub returns-in-1 : goal.returns-in-1
unfolding state_of
returns-in-1 c = rw c.in-1.is

pub returns-in-2 : goal.returns-in-2
unfolding state_of
returns-in-2 c = rw c.in-2.is

pub returns-in_default : goal.returns-in_default
unfolding state_of
returns-in_default c = rw (
  ne_eqb c.args.b 0 (λ e. omega (arith, c.in_default)),
  ne_eqb c.args.b 1 (λ e. omega (arith, c.in_default)),
  ne_eqb c.args.b 2 (λ e. omega (arith, c.in_default)),
)
