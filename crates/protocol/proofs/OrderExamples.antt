-- The order of the five numbers, and the smallest of three pending messages among two seats at width 1, evaluated. Assumes nothing.
use mathlib.Core.Path.{◌≡◌, refl}
use mathlib.Core.Option.{none, some}
use mathlib.Core.Bool.{Bool, true, false}
use mathlib.Core.List.{List, [], ◌∷◌}
use Rattle.protocol.specs.Message.{Msg, meet, probe, name, among, same_msg}
use Rattle.protocol.specs.Numbering.{pair_at, pull_at, side_at, split, message_at}
use Rattle.protocol.specs.Order.{or_next, before, smaller, smallest_of, smallest_from, smallest}

-- the first number that differs decides
by-each : List Bool
by-each =
    before (name 1 9 9 9 1) (name 2 0 0 0 0) ∷ before (name 1 1 9 9 1) (name 1 2 0 0 0) ∷ before (name 1 1 1 9 1) (name 1 1 2 0 0)
    ∷ before (name 1 1 1 1 1) (name 1 1 1 2 0) ∷ before (name 1 1 1 1 0) (name 1 1 1 1 1) ∷ []

by-each-true : by-each ≡ true ∷ true ∷ true ∷ true ∷ true ∷ []
unfolding by-each before or_next
by-each-true = refl

not_itself : before (name 1 1 1 1 1) (name 1 1 1 1 1) ≡ false
unfolding before or_next
not_itself = refl

pending : Msg → Bool
pending = among (probe 0 1 0 ∷ meet 1 0 1 ∷ meet 0 1 1 ∷ [])

first : smallest 2 1 pending ≡ some (meet 0 1 1)
unfolding smallest_from smallest_of smaller pending among same_msg before or_next message_at split pair_at pull_at side_at
first = refl

-- at a message, after it, from numbers that no message has, and after the last
at : smallest_from 2 1 pending (name 1 0 1 1 0) ≡ some (meet 0 1 1)
unfolding smallest_from smallest_of smaller pending among same_msg before or_next message_at split pair_at pull_at side_at
at = refl

after : smallest_from 2 1 pending (name 1 0 1 1 1) ≡ some (meet 1 0 1)
unfolding smallest_from smallest_of smaller pending among same_msg before or_next message_at split pair_at pull_at side_at
after = refl

beyond : smallest_from 2 1 pending (name 1 255 0 0 0) ≡ some (probe 0 1 0)
unfolding smallest_from smallest_of smaller pending among same_msg before or_next message_at split pair_at pull_at side_at
beyond = refl

last : smallest_from 2 1 pending (name 2 0 1 0 1) ≡ none
unfolding smallest_from smallest_of smaller pending among same_msg before or_next message_at split pair_at pull_at side_at
last = refl
