-- `decimal` puts the digits of a number: all but the last, and then the last. Assumes nothing.
use Rattle.std.proofs.Common.{arith}
use Rattle.command.proofs.Decimal.{shown-digit, shown-more}
use Rattle.text.proofs.Written.{texts}
use Rattle.text.proofs.Writer.+decimal.Goals as goal

pub returns : goal.returns
returns t c = grind (arith, texts, shown-digit, shown-more)
