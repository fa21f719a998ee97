-- A byte as a state, by tests, and number and vector of a seat that exists, by their bytes. Assumes nothing.
use Prim.Native.Nat.{ℕ, zero, suc, ◌<◌}
use mathlib.Core.Path.{◌≡◌}
use mathlib.Core.Bool.{Bool}
use mathlib.Core.List.{List}
use native.Mathlib.Omega.{arith}
use borrow.Author.Tests.{lt-ltb, ne_eqb}
use Rattle.memory.specs.Bytes.{number_at}
use Rattle.protocol.specs.Rules.{SeatState, free, staying, leaving, reserved}
use Rattle.record.specs.Layout.{seats, number_size, vector_size, number_from, vector_from}
use Rattle.record.specs.Meaning.{state_of, seats_in}

-- what a test says of a byte as a state, from what it says of 0, 1, 2 and any above
pub by_state : (p : SeatState → Bool) (q : ℕ → Bool) → p free ≡ q 0 → p staying ≡ q 1 → p leaving ≡ q 2
    → ((b : ℕ) → 2 < b → p reserved ≡ q b) → (b : ℕ) → p (state_of b) ≡ q b
unfolding state_of
by_state p q e f g h zero = e
by_state p q e f g h (suc zero) = f
by_state p q e f g h (suc (suc zero)) = g
by_state p q e f g h (suc (suc (suc b))) =
    let c = suc (suc (suc b)) in
    rw (ne_eqb c 0 (λ e. omega arith), ne_eqb c 1 (λ e. omega arith), ne_eqb c 2 (λ e. omega arith)) (h c (omega arith))

module _ (l : List ℕ) (s : ℕ) (h : s < seats) where
  pub number-bytes : (seats_in l).number s ≡ number_at l (number_from s) number_size
  unfolding seats_in
  number-bytes = rw (lt-ltb s seats h)

  pub vector-bytes : (seats_in l).vector s ≡ number_at l (vector_from s) vector_size
  unfolding seats_in
  vector-bytes = rw (lt-ltb s seats h)
