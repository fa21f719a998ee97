-- Sides and bits as the numbers 0 and 1, and who stays. Assumes nothing.
use Prim.Native.Nat.{ℕ, zero, suc, ◌-◌, ◌<◌}
use mathlib.Core.Path.{◌≡◌, refl}
use mathlib.Core.Bool.{not}
use mathlib.Core.List.{List}
use native.Mathlib.Omega.{arith}
use lib.Dec.{eqb}
use Rattle.graph.specs.Vector.{same_bit}
use Rattle.protocol.specs.Rules.{is_staying}
use Rattle.protocol.specs.State.{stays}
use Rattle.record.specs.Meaning.{seats_in, meaning}

-- the other bit
pub bit_not : (n : ℕ) → n < 2 → eqb (1 - n) 1 ≡ not (eqb n 1)
bit_not zero h = refl
bit_not (suc zero) h = refl
bit_not (suc (suc n)) h = absurd (omega arith)

-- two bits are the same: their numbers are
pub same_bits : (m n : ℕ) → m < 2 → n < 2 → same_bit (eqb m 1) (eqb n 1) ≡ eqb m n
same_bits zero zero h g = refl
same_bits zero (suc zero) h g = refl
same_bits (suc zero) zero h g = refl
same_bits (suc zero) (suc zero) h g = refl
same_bits (suc (suc m)) n h g = absurd (omega arith)
same_bits zero (suc (suc n)) h g = absurd (omega arith)
same_bits (suc zero) (suc (suc n)) h g = absurd (omega arith)

-- whether a lot stays, by the seats in the bytes
pub staying-in : (l : List ℕ) (s : ℕ) → is_staying ((meaning l).seats.state s) ≡ stays (seats_in l) s
unfolding meaning
staying-in l s = refl
