-- `nobody` has room for its text. Assumes nothing.
use Rattle.std.proofs.Common.{arith}
use Rattle.std.proofs.Math.Option.{none}
use Rattle.program.proofs.Long.{found-length}
use Rattle.answers.proofs.nobody.Goals as goal

pub returns-clause-fits : goal.returns-clause-fits
returns-clause-fits c = found-length none (λ x e. cc) c.args.h (omega arith)
