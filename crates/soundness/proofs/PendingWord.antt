-- The 64 pending bits from a place on, in one word that is shifted from its lowest set bit to the next. Assumes nothing.
use Prim.Native.Nat.{ℕ, ◌+◌, ◌-◌, ◌*◌, ◌/◌, ◌^◌, ◌≤◌, ◌<◌}
use mathlib.Core.Path.{◌≡◌, sym, ap, ◌∙◌}
use mathlib.Core.Logic.{⊎_elim}
use mathlib.Core.Bool.{Bool, true, false}
use mathlib.Core.List.{List}
use native.Mathlib.Omega.{arith}
use lib.Count.{count_trailing_zeros}
use lib.Pow.{shr-shr}
use Rattle.base.specs.Loops.{first_from}
use Rattle.memory.specs.Bits.{packed, bit_set}
use Rattle.base.proofs.Cases.{lt-or-ge, eq-or-ne}
use Rattle.base.proofs.All.{all_from, all-fails}
use Rattle.base.proofs.First.{first}
use Rattle.memory.proofs.Packed.{packed-same, packed_zero, packed-shr}
use Rattle.memory.proofs.Bitmap.{bit_set-from}
use Rattle.memory.proofs.MachineCounts.{trailing-packed, first-set}
use Rattle.record.specs.Layout.{pending_from}
use Rattle.soundness.specs.inner.Pending.{fits, passes, places_pass}
use Rattle.soundness.proofs.PendingPasses.{fits-passes, clear-passes}

-- the pending bits from place i on
abbrev pub bits_from : (l : List ℕ) (i j : ℕ) → Bool
bits_from l i j = bit_set l pending_from (i + j)

-- the places from `from` up to i pass, and x is made of the bits from i up to the end of the 64
pub record Rest (l : List ℕ) (from i x : ℕ) : Type 0 where
  pub low : from ≤ i
  pub high : i ≤ from + 64
  pub passed : (k : ℕ) → from ≤ k → k < i → passes l k ≡ true
  pub bits : x ≡ packed (from + 64 - i) (bits_from l i)

-- no bit of the first n from i on is set: the places pass
clear-pass : (l : List ℕ) (i n : ℕ) → ((j : ℕ) → j < n → bits_from l i j ≡ false) → (k : ℕ) → i ≤ k → k < i + n → passes l k ≡ true
clear-pass l i n h k a b = let e : i + (k - i) ≡ k = omega arith in clear-passes l k (rw e at (h (k - i) (omega arith)))

-- word w
pub rest-whole : (l : List ℕ) (w : ℕ) → Rest l (64 * w) (64 * w) (packed 64 (bit_set l (pending_from + 8 * w)))
rest-whole l w =
    let e : 64 * w + 64 - 64 * w ≡ 64 = omega arith in
    record {
      low = omega arith;
      high = omega arith;
      passed = λ k a b. absurd (omega arith);
      bits = rw e (packed-same 64 _ (bits_from l (64 * w)) (λ j h. bit_set-from l pending_from (8 * w) j ∙ ap (bit_set l pending_from) (omega arith)));
    }

-- no bit is left: all pass
pub rest-none : {l : List ℕ} {from i x : ℕ} → Rest l from i x → x ≡ 0 → places_pass l from 64 ≡ true
rest-none {l} {from} {i} r e =
    let clear = packed_zero (from + 64 - i) (bits_from l i) (sym r.bits ∙ e) in
    let n : i + (from + 64 - i) ≡ from + 64 = omega (arith, r.high) in
    all_from 64 (λ j. passes l (from + j))
    (λ j h. ⊎_elim
    (λ q. r.passed (from + j) (omega arith) q)
    (λ q. clear-pass l i (from + 64 - i) clear (from + j) q (omega arith))
    (lt-or-ge (from + j) i))

-- a bit is left: the lowest is that of the next place with a message
module _ {l : List ℕ} {from i x : ℕ} (r : Rest l from i x) (some : x ≡ 0 → ⊥) where
  abbrev left : ℕ
  left = from + 64 - i

  lowest : count_trailing_zeros 64 x ≡ first_from left 0 (bits_from l i)
  lowest = rw r.bits (trailing-packed 64 left (bits_from l i) (omega (arith, r.low)) (λ e. some (r.bits ∙ e)))

  pub rest-within : i + count_trailing_zeros 64 x < from + 64
  rest-within =
      omega (arith, lowest, r.high, first-set 64 left (bits_from l i) (omega (arith, r.low)) (λ e. some (r.bits ∙ e)))

  -- its message does not fit: the test fails
  pub rest-fails : fits l (i + count_trailing_zeros 64 x) ≡ false → places_pass l from 64 ≡ false
  rest-fails f =
      let z = count_trailing_zeros 64 x in
      let e : from + (i + z - from) ≡ i + z = omega (arith, r.low) in
      let set : bit_set l pending_from (i + z) ≡ true = rw lowest ((first left 0 (bits_from l i)).found (omega (arith, rest-within, lowest))) in
      all-fails 64 (i + z - from) (λ j. passes l (from + j)) (omega (arith, rest-within)) (rw (e, set, f))

  -- its message fits: the test goes on after it
  pub rest_more : fits l (i + count_trailing_zeros 64 x) ≡ true → let z = count_trailing_zeros 64 x in Rest l from (i + (z + 1)) (x / 2 ^ z / 2)
  rest_more t =
      let z = count_trailing_zeros 64 x in
      let m = from + 64 - (i + (z + 1)) in
      let e : left ≡ z + 1 + m = omega (arith, rest-within) in
      record {
        low = omega (arith, r.low);
        high = omega (arith, rest-within);
        passed = λ k a b. ⊎_elim (λ q. r.passed k a q) (λ q. ⊎_elim
            (λ p. rw p (fits-passes l (i + z) t))
            (λ p. clear-pass l i z (λ j h. (first left 0 (bits_from l i)).before j (omega arith) (omega (arith, lowest))) k q (omega (arith, p)))
            (eq-or-ne k (i + z)))
            (lt-or-ge k i);
        bits = shr-shr x z 1
            ∙ ap (λ (y : ℕ). y / 2 ^ (z + 1)) (r.bits ∙ ap (λ (n : ℕ). packed n (bits_from l i)) e)
            ∙ packed-shr (z + 1) m (bits_from l i)
            ∙ packed-same m _ (bits_from l (i + (z + 1))) (λ j h. ap (bit_set l pending_from) (omega arith));
      }
