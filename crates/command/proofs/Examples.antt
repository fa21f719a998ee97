-- Lines of document 01, lines at the limits, and the lines that the readings call bad, evaluated. Assumes nothing.
use Prim.Native.Nat.{ℕ}
use Prim.Native.Char.{code}
use Prim.Native.String.{String, [] as none_left, ◌∷◌ as ◌then◌}
use mathlib.Core.Path.{◌≡◌, refl}
use mathlib.Core.Option.{Option, none, some}
use mathlib.Core.List.{List, [], ◌∷◌, map}
use Rattle.command.specs.Command.{Command, join, leave, deliver, turn, settle, find, print}
use Rattle.command.specs.Command.{reversed, fields_from, fields, digits_from, decimal, fitting, command_of, parsed}

-- the bytes of a text whose characters are below 128
bytes : String → List ℕ
bytes none_left = []
bytes (c then s) = code c ∷ bytes s

line : String → Option Command
unfolding bytes parsed command_of fields fields_from reversed fitting decimal digits_from
line s = parsed (bytes s)

commands : map line ("J 0 100 0 255" ∷ "J 1 200 128 0" ∷ "A" ∷ "P" ∷ "F 0 250" ∷ "T" ∷ "L 1" ∷ "D 1 0 2 0 0" ∷ [])
    ≡ some (join 0 100 0 255) ∷ some (join 1 200 128 0) ∷ some settle ∷ some print ∷ some (find 0 250) ∷ some turn ∷ some (leave 1)
    ∷ some (deliver 1 0 2 0 0) ∷ []
unfolding line
commands = refl

limits : map line ("L 255" ∷ "L 256" ∷ "F 0 18446744073709551615" ∷ "F 0 18446744073709551616" ∷ "J 255 18446744073709551615 255 255" ∷ [])
    ≡ some (leave 255) ∷ none ∷ some (find 0 18446744073709551615) ∷ none ∷ some (join 255 18446744073709551615 255 255) ∷ []
unfolding line
limits = refl

abbrev no_lines : List String
no_lines =
    "" ∷ " " ∷ " T" ∷ "T " ∷ "t" ∷ "TT" ∷ "T\r" ∷ "\tT" ∷ "T\0" ∷ "X" ∷ "L" ∷ "L " ∷ "L  1" ∷ "L 1 " ∷ "L 00" ∷ "L 01"
    ∷ "L +1" ∷ "L -1" ∷ "L 1a"
    ∷ "L 1 2" ∷ "L\t1" ∷ "F 0" ∷ "F 0 1 2" ∷ "J 0 1 2" ∷ "J 0 1 2 3 4" ∷ "D 1 2 3 4" ∷ "D 1 2 3 4 5 6" ∷ []

bad : map line no_lines ≡ map (λ s. none) no_lines
unfolding line
bad = refl
