-- Parts of the clauses of record's specs/Sound.antt that have no name there, and the numbers of all taken seats in an array. Assumes nothing.
use Rattle.std.specs.Prelude.{ℕ, ◌<◌, ◌≡◌, Bool, true, not, ◌&&◌, ◌||◌, List, eqb, ltb, get_or}
use Rattle.base.specs.Loops.{all}
use Rattle.protocol.specs.State.{taken}
use Rattle.record.specs.Layout.{seats, states, state_at}
use Rattle.record.specs.Meaning.{seats_in}
use Rattle.record.specs.Sound.{phase_fits, as_opened, numbers_differ, links_fit}

-- a has the number of each taken seat
abbrev pub HasNumbers : (l a : List ℕ) → Type 0
HasNumbers l a = (s : ℕ) → s < seats → taken (seats_in l) s ≡ true → get_or a s 0 ≡ (seats_in l).number s

-- x and y are not two taken seats with one number
abbrev pub differ : (l : List ℕ) (x y : ℕ) → Bool
differ l x y = not (taken (seats_in l) x && (taken (seats_in l) y && eqb ((seats_in l).number x) ((seats_in l).number y)))

-- the clauses of one seat: its state, and if it is free its entry
abbrev pub seat_fits : (l : List ℕ) (s : ℕ) → Bool
seat_fits l s = ltb (get_or l (state_at s) 0) states && (taken (seats_in l) s || as_opened l s)

-- every clause of `sound` but that of the messages, those of the seats together
unfoldable pub entries_fit : List ℕ → Bool
entries_fit l = phase_fits l && (all seats (seat_fits l) && (numbers_differ l && links_fit l))
