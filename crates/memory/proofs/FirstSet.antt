-- The first set bit of a number, by the machine's count, and its power taken off; the same of a word of a bitmap. Assumes nothing.
use Prim.Native.Nat.{ℕ, ◌+◌, ◌-◌, ◌*◌, ◌/◌, ◌%◌, ◌^◌, ◌≤◌, ◌<◌}
use mathlib.Core.Path.{◌≡◌, sym, ap, ◌∙◌}
use mathlib.Core.Logic.{⊎_elim}
use mathlib.Core.Bool.{true, false, not}
use mathlib.Core.List.{List}
use native.Mathlib.Omega.{arith}
use lib.Count.{count_trailing_zeros}
use lib.Dec.{eqb}
use lib.ListN.{length}
use borrow.Author.Tests.{eq-eqb, eqb-true, not-true}
use Rattle.base.specs.Loops.{first_from, any}
use Rattle.base.proofs.Any.{any_same, any_none, none_any}
use Rattle.base.proofs.Cases.{eq-or-ne, same_test}
use Rattle.base.proofs.Tests.{false-T, not-T-false}
use Rattle.memory.specs.Bytes.{AreBytes}
use Rattle.memory.specs.Bits.{has_bit, with_bit, packed, bit_set, clear_bit}
use Rattle.memory.specs.inner.Words.{put_low, word_set}
use Rattle.base.proofs.First.{first, first-same, first_any}
use Rattle.memory.proofs.Bits.{one_shifted, power-within, power-off, has_bit-none, has_bit-with_bit, has_bit-with_bit-other, with_bit-lt}
use Rattle.memory.proofs.Packed.{packed_lt, packed-bits, bits-same}
use Rattle.memory.proofs.Bitmap.{bit_set-from, bit_set-put_bit, bit_set-put_bit-other}
use Rattle.memory.proofs.MachineCounts.{trailing-first}
use Rattle.memory.proofs.Words.{put-bit}

-- a number of n bits is 0 exactly if none is set
pub none-set : (n x : ℕ) → x < 2 ^ n → eqb x 0 ≡ not (any n (has_bit x))
none-set n x h = same_test (eqb x 0) (not (any n (has_bit x)))
    (λ e. ap not (none_any n (has_bit x) (λ j l. false-T {b = has_bit x j} (rw (eqb-true x 0 e) (has_bit-none j)))))
    (λ e. eq-eqb x 0 (bits-same n x 0 h (omega (arith, h)) (λ j l.
    not-T-false (any_none n (has_bit x) (not-true (any n (has_bit x)) e) j l) ∙ sym (has_bit-none j))))

-- the first set bit of a number of n bits, of which one is set
module _ (n x : ℕ) (some : any n (has_bit x) ≡ true) where
  pub count-below : count_trailing_zeros n x < n
  count-below = omega (arith, trailing-first n x, first_any n (has_bit x) some)

  pub count-has : has_bit x (count_trailing_zeros n x) ≡ true
  count-has = rw (trailing-first n x) ((first n 0 (has_bit x)).found (omega (arith, first_any n (has_bit x) some)))

  shifted : (1 * 2 ^ count_trailing_zeros n x) % 2 ^ n ≡ 2 ^ count_trailing_zeros n x
  shifted = one_shifted n (count_trailing_zeros n x) count-below

  -- its power, by a shift
  pub first-within : (1 * 2 ^ count_trailing_zeros n x) % 2 ^ n ≤ x
  first-within = rw shifted (power-within x (count_trailing_zeros n x) count-has)

  pub first_off : x - (1 * 2 ^ count_trailing_zeros n x) % 2 ^ n ≡ with_bit x (count_trailing_zeros n x) false
  first_off = rw shifted (power-off x (count_trailing_zeros n x) count-has)

-- word w of a bitmap, of which a bit is set, as the number x
module _ (l : List ℕ) (base w : ℕ) (b : AreBytes l) (f : base + w * 8 + 8 ≤ length l) (some : word_set l base w ≡ true)
    {x : ℕ} (e : x ≡ packed 64 (bit_set l (base + w * 8))) where
  own : (m : List ℕ) (j : ℕ) → bit_set m (base + w * 8) j ≡ bit_set m base (w * 64 + j)
  own m j = let q : w * 8 * 8 + j ≡ w * 64 + j = omega arith in bit_set-from m base (w * 8) j ∙ ap (bit_set m base) q

  has-own : (j : ℕ) → j < 64 → has_bit x j ≡ bit_set l base (w * 64 + j)
  has-own j h = rw e (packed-bits 64 (bit_set l (base + w * 8)) j h ∙ own l j)

  pub x-some : any 64 (has_bit x) ≡ true
  x-some = any_same 64 (has_bit x) (λ j. bit_set l base (w * 64 + j)) has-own ∙ some

  pub word_first : count_trailing_zeros 64 x ≡ first_from 64 0 (λ j. bit_set l base (w * 64 + j))
  word_first = trailing-first 64 x ∙ first-same 64 0 (has_bit x) (λ j. bit_set l base (w * 64 + j)) (λ j p q. has-own j (omega arith))

  has-cleared : (k j : ℕ) → k < 64 → j < 64 → has_bit (with_bit x k false) j ≡ bit_set (clear_bit l base (w * 64 + k)) base (w * 64 + j)
  has-cleared k j h p = ⊎_elim
      (λ q. rw q (has_bit-with_bit x k false ∙ sym (bit_set-put_bit l base (w * 64 + k) false (omega arith))))
      (λ ne. has_bit-with_bit-other x k j false ne
      ∙ has-own j p
      ∙ sym (bit_set-put_bit-other l base (w * 64 + k) false (w * 64 + j) (λ q. ne (omega arith))))
      (eq-or-ne j k)

  -- it is taken off x, and the rest is written back as y
  module _ {y : List ℕ} (g : y ≡ put_low l (base + w * 8) 8 (x - (1 * 2 ^ count_trailing_zeros 64 x) % 2 ^ 64)) where
    pub first-cleared : y ≡ clear_bit l base (w * 64 + count_trailing_zeros 64 x)
    first-cleared =
        let k = count_trailing_zeros 64 x in
        let d : (w * 64 + k) / 64 ≡ w = omega (arith, count-below 64 x x-some) in
        let m : (w * 64 + k) % 64 ≡ k = omega (arith, count-below 64 x x-some) in
        put-bit l base (w * 64 + k) b (rw d f) {x = x} (rw d e) false {n = x - (1 * 2 ^ k) % 2 ^ 64} {y = y} (rw m (first_off 64 x x-some)) (rw d g)

    pub rest-none : eqb (x - (1 * 2 ^ count_trailing_zeros 64 x) % 2 ^ 64) 0 ≡ not (word_set y base w)
    rest-none =
        let k = count_trailing_zeros 64 x in
        let r = with_bit x k false in
        let within : x < 2 ^ 64 = rw e (packed_lt 64 (bit_set l (base + w * 8))) in
        let h = count-below 64 x x-some in
        rw (first_off 64 x x-some, first-cleared)
        (none-set 64 r (with_bit-lt 64 x k false within h)
        ∙ ap not (any_same 64 (has_bit r) (λ j. bit_set (clear_bit l base (w * 64 + k)) base (w * 64 + j)) (λ j p. has-cleared k j h p)))
