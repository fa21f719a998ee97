-- Numbers of the meaning, from what code reads. Assumes nothing.
use Prim.Native.Nat.{ℕ, ◌<◌}
use mathlib.Core.Path.{◌≡◌, sym}
use mathlib.Core.List.{List}
use borrow.Author.Tests.{lt-ltb}
use Rattle.memory.specs.Bytes.{number_at}
use Rattle.record.specs.Layout.{seats, number_size, number_from}
use Rattle.record.specs.Meaning.{seats_in}

pub number_read : (l : List ℕ) (s n : ℕ) → s < seats → n ≡ number_at l (number_from s) number_size → (seats_in l).number s ≡ n
unfolding seats_in
number_read l s n h e = rw (lt-ltb s seats h) (sym e)
