-- `memory::first_in_byte` meets its contract: the trailing zeros of the shifted byte are the clear bits before the first set bit.
-- Assumes nothing.
use mathlib.Core.Path.{sym}
use Prim.Native.Nat.{◌-◌}
use native.Mathlib.Omega.{arith}
use borrow.Author.Rules.{rules}
use Rattle.base.proofs.First.{first}
use Rattle.memory.specs.Bits.{has_bit}
use Rattle.memory.proofs.MachineCounts.{first-by-shift, first-of-none}
use Rattle.memory.proofs.first_in_byte.Goals as goal

pub returns-then-rest-eq0-clause-first : goal.returns-then-rest-eq0-clause-first
returns-then-rest-eq0-clause-first c = sym (first-of-none 8 c.args.from c.args.x (omega arith) (search rules) c.if-rest-eq0.true)

pub returns-clause-first : goal.returns-clause-first
returns-clause-first c = sym (first-by-shift 8 c.args.from c.args.x (omega arith) (search rules) c.if-rest-eq0.false)

pub returns-clause-within : goal.returns-clause-within
returns-clause-within c = omega (arith, returns-clause-first c, (first (8 - c.args.from) c.args.from (has_bit c.args.x)).high)
