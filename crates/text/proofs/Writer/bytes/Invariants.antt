-- `bytes` meets its contract: before each turn the bytes passed are put. Assumes nothing.
use Rattle.std.proofs.Common.{◌≡◌, take}
use Rattle.text.specs.inner.Written.{written}
use Rattle.text.proofs.Writer.bytes.Given as goal

abbrev pub invariant-loop-b : goal.invariant-loop-b
invariant-loop-b l = l.self ≡ written l.initial.self (take l.b-index l.some)
