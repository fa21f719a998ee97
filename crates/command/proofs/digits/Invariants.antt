-- Before each turn of the loop n is the number of the digits so far, and the field reads the same from there on.
use Rattle.std.proofs.Common.{◌≡◌, ◌<◌, ◌^◌, drop}
use Rattle.command.specs.inner.Reading.{digits_field}
use Rattle.command.proofs.digits.Given as goal

abbrev pub invariant-loop-b : goal.invariant-loop-b
invariant-loop-b l = (l.n < 2 ^ 64) × (digits_field 0 l.field ≡ digits_field l.n (drop l.b-index l.field))
