-- Rows of the table, one by one: r is what a test answered, b what its row asks. Assumes nothing.
use Prim.Native.Nat.{ℕ}
use mathlib.Core.Path.{◌≡◌}
use mathlib.Core.Bool.{Bool, true, false, cond}

-- the row applies
pub row_here : {r b : Bool} (n rest : ℕ) → r ≡ b → r ≡ true → n ≡ cond b n rest
row_here n rest e t = rw (← e, t)

-- it does not, and the rows after it give m
pub row_next : {r b : Bool} {m rest : ℕ} (n : ℕ) → r ≡ b → r ≡ false → m ≡ rest → m ≡ cond b n rest
row_next n e f h = rw (← e, f) h
