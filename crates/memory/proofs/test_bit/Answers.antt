-- `memory::test_bit` meets its contract: the shifted byte's lowest bit is the bit. Assumes nothing.
use mathlib.Core.Path.{refl}
use Rattle.memory.specs.Bits.{bit_of}
use Rattle.memory.proofs.test_bit.Goals as goal

pub returns : goal.returns
unfolding bit_of
returns c = refl
