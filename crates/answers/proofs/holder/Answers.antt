-- `holder` has room for its text. Assumes nothing.
use Rattle.std.proofs.Common.{arith}
use Rattle.std.proofs.Math.Option.{some}
use Rattle.base.proofs.Tests.{some_inj}
use Rattle.program.proofs.Long.{found-length}
use Rattle.answers.proofs.holder.Goals as goal

pub returns-clause-fits : goal.returns-clause-fits
returns-clause-fits c = found-length (some c.args.seat) (λ x e. rw (← some_inj e) (omega arith)) c.args.h (omega arith)
