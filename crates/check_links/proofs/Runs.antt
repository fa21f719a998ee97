-- The run to the right of a lot, step by step by the links that the code reads. Assumes nothing.
use Prim.Native.Nat.{ℕ, zero, suc, ◌+◌, ◌<◌}
use mathlib.Core.Path.{◌≡◌, refl}
use mathlib.Core.Logic.{◌≢◌}
use mathlib.Core.Option.{Option, none, some}
use mathlib.Core.Bool.{Bool, true, false}
use mathlib.Core.List.{List}
use native.Mathlib.Omega.{arith}
use native.Mathlib.Numerals.{add-one}
use lib.Dec.{eqb, leb}
use lib.ListN.{get_or}
use Rattle.base.specs.Loops.{one_if}
use Rattle.graph.specs.Side.{right}
use Rattle.graph.specs.Vector.{width, same_bit, bit}
use Rattle.record.specs.Layout.{seats, link_at}
use Rattle.record.specs.Meaning.{link_of, seats_in, meaning}
use Rattle.record.proofs.Links.{link-read}
use Rattle.search.specs.inner.LinkCheck.{ahead, ahead_of, above_ok}
use Rattle.check_links.specs.Check.{members_in}
use Rattle.check_links.proofs.Parts.{same-seat, same_none}

-- two bits, as numbers
bits-same : (a b : Bool) → one_if b ≡ one_if a → same_bit a b ≡ true
bits-same true true e = refl
bits-same true false e = absurd (omega arith)
bits-same false true e = absurd (omega arith)
bits-same false false e = refl

bits-differ : (a b : Bool) → one_if b ≢ one_if a → same_bit a b ≡ false
bits-differ true true e = absurd (e refl)
bits-differ true false e = refl
bits-differ false true e = refl
bits-differ false false e = absurd (e refl)

module _ (l : List ℕ) (k : ℕ) (b : Bool) where
  -- what the run of n lots from o on finds
  abbrev pub run_of : (n : ℕ) → Option ℕ → Option ℕ
  run_of n o = ahead width (members_in l) (meaning l).link n k b o

  -- it stands at none, at a lot with the bit, at another, or at its end
  pub run_none : (n : ℕ) → none ≡ run_of n none
  unfolding ahead
  run_none zero = refl
  run_none (suc n) = refl

  pub run-found : (n y : ℕ) → one_if (bit width k ((seats_in l).vector y)) ≡ one_if b → some y ≡ run_of n (some y)
  unfolding ahead
  run-found zero y e = refl
  run-found (suc n) y e = rw (bits-same b (bit width k ((seats_in l).vector y)) e)

  pub run_on : (n y : ℕ) {o : Option ℕ} → one_if (bit width k ((seats_in l).vector y)) ≢ one_if b
      → o ≡ (meaning l).link y k right → run_of n o ≡ run_of (suc n) (some y)
  unfolding ahead
  run_on n y ne e = rw (bits-differ b (bit width k ((seats_in l).vector y)) ne, e)

  pub run_end : (o : Option ℕ) → o ≡ run_of 0 o
  unfolding ahead
  run_end o = refl

-- the right link that is compared with what the run has found: y is its byte
module _ (l : List ℕ) (x k y : ℕ) (h : x < seats) (g : k < width) (e : y ≡ get_or l (link_at x (k + 1) right) 0) where
  pub above-byte : (meaning l).link x (suc k) right ≡ link_of y
  above-byte = rw (← add-one k) (link-read l x (k + 1) right y h (omega arith) e)

  pub above-none : none ≡ ahead_of seats width (members_in l) (meaning l).link x k → leb seats y ≡ above_ok seats width (members_in l) (meaning l).link x k
  unfolding above_ok
  above-none f = rw (above-byte, ← f, same_none y)

  pub above-some : (z : ℕ) → z < seats → some z ≡ ahead_of seats width (members_in l) (meaning l).link x k
      → eqb y z ≡ above_ok seats width (members_in l) (meaning l).link x k
  unfolding above_ok
  above-some z q f = rw (above-byte, ← f, same-seat y z q)
