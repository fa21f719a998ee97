-- `clearing::freeing::in_set` meets its contract: the lowest bit of the shifted set is the bit. Assumes nothing.
use mathlib.Core.Path.{refl}
use Rattle.memory.specs.Bits.{bit_of}
use Rattle.clearing.proofs.freeing.in_set.Goals as goal

pub returns : goal.returns
unfolding bit_of
returns c = refl
