-- The arguments that the types of the code can hold: a lot's number and a set of seats are a u64, the limit of a bundle a u16, everything else a u8. Demand 3
-- speaks of every list of calls and bundles with such arguments, and of no fewer. Assumes nothing.
use Rattle.std.specs.Prelude.{ℕ, ◌^◌, ◌<◌, List, [], ◌∷◌}
use Rattle.protocol.specs.Calls.{Call, join, reserve, confirm, give_back, leave, deliver, turn, crash, merge}
use Rattle.protocol.specs.Bundle.{Item, one, bundle}

-- the bits of the types u8, u16 and u64
abbrev pub u8_bits : ℕ
u8_bits = 8

abbrev pub u16_bits : ℕ
u16_bits = 16

abbrev pub u64_bits : ℕ
u64_bits = 64

abbrev pub IsU8 : ℕ → Type 0
IsU8 n = n < 2 ^ u8_bits

abbrev pub IsU16 : ℕ → Type 0
IsU16 n = n < 2 ^ u16_bits

abbrev pub IsU64 : ℕ → Type 0
IsU64 n = n < 2 ^ u64_bits

-- the arguments of a call
abbrev pub Typed : Call → Type 0
Typed (join seat number vector contact) = IsU8 seat × IsU64 number × IsU8 vector × IsU8 contact
Typed (reserve seat number vector) = IsU8 seat × IsU64 number × IsU8 vector
Typed (confirm seat contact) = IsU8 seat × IsU8 contact
Typed (give_back seat) = IsU8 seat
Typed (leave seat) = IsU8 seat
Typed (deliver n) = IsU8 n.kind × IsU8 n.to × IsU8 n.about × IsU8 n.level × IsU8 n.side
Typed turn = Unit {0}
Typed (crash set) = IsU64 set
Typed (merge first second) = IsU8 first × IsU8 second

-- of a call, or the limit of a bundle
abbrev pub TypedItem : Item Call → Type 0
TypedItem (one c) = Typed c
TypedItem (bundle limit) = IsU16 limit

-- of every item of a list
abbrev pub AllTyped : List (Item Call) → Type 0
AllTyped [] = Unit {0}
AllTyped (i ∷ is) = TypedItem i × AllTyped is
