-- Small cases of the definitions, evaluated: the order of bytes and of bits, and what the loops answer. Assumes nothing.
use Prim.Native.Nat.{ℕ, ◌+◌}
use mathlib.Core.Path.{◌≡◌, refl}
use mathlib.Core.Bool.{true, false}
use mathlib.Core.List.{List, [], ◌∷◌}
use lib.Dec.{ltb}
use Rattle.base.specs.Loops.{all, first_from, count, tabulate_from, tabulate}
use Rattle.memory.specs.Bytes.{number_at, put_number, digit, zeros}
use Rattle.memory.specs.Bits.{bit_of, with_bit, packed, bit_set, set_bit, clear_bit}

-- four bytes; 129 has bits 0 and 7 set
bytes : List ℕ
bytes = 7 ∷ 1 ∷ 2 ∷ 129 ∷ []

-- 1 * 256 + 2: the highest byte is first
number_read : number_at bytes 1 2 ≡ 258
unfolding bytes number_at
number_read = refl

number-written : put_number bytes 1 2 773 ≡ 7 ∷ 3 ∷ 5 ∷ 129 ∷ []
unfolding bytes put_number
number-written = refl

number_digits : (digit 2 773 0 ≡ 3) × (digit 2 773 1 ≡ 5)
unfolding digit
number_digits = (refl, refl)

-- the bitmap at byte 2 has bits 1, 8 and 15 set: bit 0 is a byte's lowest
bits-read : (bit_set bytes 2 0 ≡ false) × (bit_set bytes 2 1 ≡ true) × (bit_set bytes 2 8 ≡ true) × (bit_set bytes 2 15 ≡ true)
unfolding bytes bit_of
bits-read = (refl, refl, refl, refl)

bit-set : set_bit bytes 2 9 ≡ 7 ∷ 1 ∷ 2 ∷ 131 ∷ []
unfolding bytes bit_of with_bit
bit-set = refl

bit-cleared : clear_bit bytes 2 15 ≡ 7 ∷ 1 ∷ 2 ∷ 1 ∷ []
unfolding bytes bit_of with_bit
bit-cleared = refl

bits-packed : packed 8 (bit_set bytes 3) ≡ 129
unfolding bytes bit_of packed
bits-packed = refl

-- the first set bits from 0 on, from 2 on, and from 9 up to 15, where there is none; and how many are set
bits-found : (first_from 16 0 (bit_set bytes 2) ≡ 1) × (first_from 14 2 (bit_set bytes 2) ≡ 8) × (first_from 6 9 (bit_set bytes 2) ≡ 15)
unfolding bytes bit_of first_from
bits-found = (refl, refl, refl)

bits-counted : count 16 (bit_set bytes 2) ≡ 3
unfolding bytes bit_of count
bits-counted = refl

zeros-tested : (zeros (1 ∷ 0 ∷ 0 ∷ 2 ∷ []) 1 2 ≡ true) × (zeros (1 ∷ 0 ∷ 0 ∷ 2 ∷ []) 1 3 ≡ false)
unfolding all
zeros-tested = (refl, refl)

all_tested : (all 3 (λ i. ltb i 3) ≡ true) × (all 4 (λ i. ltb i 3) ≡ false)
unfolding all
all_tested = (refl, refl)

list-made : tabulate 3 (λ i. 10 + i) ≡ 10 ∷ 11 ∷ 12 ∷ []
unfolding tabulate_from
list-made = refl
