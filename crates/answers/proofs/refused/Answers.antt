-- `refused` has room for its text. Assumes nothing.
use Rattle.std.proofs.Common.{arith}
use Rattle.program.proofs.Long.{refused-length}
use Rattle.answers.proofs.refused.Goals as goal

pub returns-clause-fits : goal.returns-clause-fits
returns-clause-fits c = omega (arith, refused-length c.args.n (omega arith))
