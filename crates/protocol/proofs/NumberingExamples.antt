-- The numbering at 64 seats and width 8, evaluated: the count, where each kind begins, and messages by their places. Assumes nothing.
use Prim.Native.Nat.{ℕ}
use mathlib.Core.Path.{◌≡◌, refl}
use mathlib.Core.Bool.{true, false}
use mathlib.Core.List.{List, [], ◌∷◌, map}
use Rattle.graph.specs.Side.{left, right}
use Rattle.protocol.specs.Message.{Msg, meet, probe, pull, going, seek, found, none_found}
use Rattle.protocol.specs.Numbering.{count, place, pair_at, pull_at, side_at, split, message_at}

abbrev seats : ℕ
seats = 64

abbrev width : ℕ
width = 8

count-64-8 : count seats width ≡ 147712
count-64-8 = refl

firsts : List Msg
firsts = meet 0 0 0 ∷ probe 0 0 0 ∷ pull 0 false 0 left ∷ going 0 0 left ∷ seek 0 0 0 ∷ found 0 0 0 ∷ none_found 0 0 left ∷ []

lasts : List Msg
lasts = meet 63 63 8 ∷ probe 63 63 7 ∷ pull 63 true 7 right ∷ going 63 8 right ∷ seek 63 63 8 ∷ found 63 63 8 ∷ none_found 63 8 right ∷ []

place-firsts : map (place seats width) firsts ≡ 0 ∷ 36864 ∷ 69632 ∷ 71680 ∷ 72832 ∷ 109696 ∷ 146560 ∷ []
unfolding place firsts
place-firsts = refl

place-lasts : map (place seats width) lasts ≡ 36863 ∷ 69631 ∷ 71679 ∷ 72831 ∷ 109695 ∷ 146559 ∷ 147711 ∷ []
unfolding place lasts
place-lasts = refl

message_at-firsts : map (message_at seats width) (0 ∷ 36864 ∷ 69632 ∷ 71680 ∷ 72832 ∷ 109696 ∷ 146560 ∷ []) ≡ firsts
unfolding message_at split pair_at pull_at side_at firsts
message_at-firsts = refl

message_at-lasts : map (message_at seats width) (36863 ∷ 69631 ∷ 71679 ∷ 72831 ∷ 109695 ∷ 146559 ∷ 147711 ∷ []) ≡ lasts
unfolding message_at split pair_at pull_at side_at lasts
message_at-lasts = refl

-- the next message changes the last of its numbers first
message_at-next : map (message_at seats width) (8 ∷ 9 ∷ 576 ∷ 69633 ∷ 69634 ∷ 69648 ∷ 69664 ∷ 71698 ∷ []) ≡
    meet 0 0 8 ∷ meet 0 1 0 ∷ meet 1 0 0 ∷ pull 0 false 0 right ∷ pull 0 false 1 left ∷ pull 0 true 0 left ∷ pull 1 false 0 left
    ∷ going 1 0 left ∷ []
unfolding message_at split pair_at pull_at side_at
message_at-next = refl
