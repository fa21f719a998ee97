-- Bitmaps in bytes: a bit after one was set or cleared, other bytes, and bytes as their bits. Assumes nothing.
use Prim.Native.Nat.{ℕ, ◌+◌, ◌*◌, ◌/◌, ◌%◌, ◌≤◌, ◌<◌}
use mathlib.Core.Path.{◌≡◌, sym, ap, ◌∙◌}
use mathlib.Core.Logic.{◌⊎◌, ⊎_elim}
use mathlib.Core.Bool.{Bool}
use mathlib.Core.List.{List}
use native.Mathlib.Omega.{arith}
use native.Mathlib.Nat.{div-add-mod'}
use lib.Dec.{eqb}
use lib.ListN.{length, get_or, set, length-set}
use lib.Seq.{get_or-set_same, get_or-set_other, set-get_or, set_out}
use Rattle.base.specs.Loops.{all}
use Rattle.memory.specs.Bytes.{AreBytes, put_number}
use Rattle.memory.specs.Bits.{has_bit, with_bit, packed, bit_set, put_bit}
use Rattle.base.proofs.Cases.{lt-or-ge, eq-or-ne}
use Rattle.base.proofs.All.{all_same}
use Rattle.memory.proofs.Bytes.{bytes-set, get_d-put_number-other}
use Rattle.memory.proofs.Bits.{has_bit-with_bit, has_bit-with_bit-other, with_bit-lt, with_bit-has_bit}
use Rattle.memory.proofs.Packed.{packed-is, packed-bits, packed-parts}

-- a bit is of its own byte alone
pub bit_set-agrees : (l m : List ℕ) (base i : ℕ) → get_or l (base + i / 8) 0 ≡ get_or m (base + i / 8) 0 → bit_set l base i ≡ bit_set m base i
bit_set-agrees l m base i e = ap (λ (x : ℕ). has_bit x (i % 8)) e

-- a bit beside a byte that was set, and beside a number that was written
pub bit_set-set-other : (l : List ℕ) (base i j v : ℕ) → (base + i / 8 ≡ j → ⊥) → bit_set (set l j v) base i ≡ bit_set l base i
bit_set-set-other l base i j v ne = bit_set-agrees (set l j v) l base i (get_or-set_other l j (base + i / 8) v 0 ne)

pub bit_set-put_number-other : (l : List ℕ) (base i a n v : ℕ) → (base + i / 8 < a) ⊎ (a + n ≤ base + i / 8)
    → bit_set (put_number l a n v) base i ≡ bit_set l base i
bit_set-put_number-other l base i a n v h = bit_set-agrees (put_number l a n v) l base i (get_d-put_number-other l a n v (base + i / 8) h)

-- bit j of byte b of the bitmap
pub bit_set-byte : (l : List ℕ) (base b j : ℕ) → j < 8 → bit_set l base (b * 8 + j) ≡ has_bit (get_or l (base + b) 0) j
bit_set-byte l base b j h =
    let d : (b * 8 + j) / 8 ≡ b = omega arith in
    let m : (b * 8 + j) % 8 ≡ j = omega arith in
    rw (d, m)

-- the bitmap from its byte b on
pub bit_set-from : (l : List ℕ) (base b j : ℕ) → bit_set l (base + b) j ≡ bit_set l base (b * 8 + j)
bit_set-from l base b j =
    let d : base + (b * 8 + j) / 8 ≡ base + b + j / 8 = omega arith in
    let m : (b * 8 + j) % 8 ≡ j % 8 = omega arith in
    rw (d, m)

-- a byte of the bitmap is its eight bits
pub byte-packed : (l : List ℕ) (base b : ℕ) → AreBytes l → get_or l (base + b) 0 ≡ packed 8 (λ j. bit_set l base (b * 8 + j))
byte-packed l base b h =
    sym (packed-is 8 (get_or l (base + b) 0) (λ j. bit_set l base (b * 8 + j)) (h (base + b)) (λ j q. sym (bit_set-byte l base b j q)))

-- n bytes as one number are w, whose bits are all b, exactly if each byte is v, whose bits are too
pub bytes-all : (l : List ℕ) (base n w v : ℕ) (b : Bool) → packed (n * 8) (λ j. b) ≡ w → packed 8 (λ j. b) ≡ v → AreBytes l
    → eqb (packed (n * 8) (bit_set l base)) w ≡ all n (λ i. eqb (get_or l (base + i) 0) v)
bytes-all l base n w v b e f h =
    ap (eqb (packed (n * 8) (bit_set l base))) (sym e)
    ∙ packed-parts n 8 (bit_set l base) (λ j. b)
    ∙ all_same n _ _ (λ i p. rw (byte-packed l base i h, f))

-- a bit of a byte that was made of its bits
pub bit_set-packed : (l : List ℕ) (base i : ℕ) (p : ℕ → Bool) → get_or l (base + i / 8) 0 ≡ packed 8 (λ j. p (i / 8 * 8 + j))
    → bit_set l base i ≡ p i
bit_set-packed l base i p e =
    ap (λ (x : ℕ). has_bit x (i % 8)) e ∙ packed-bits 8 (λ j. p (i / 8 * 8 + j)) (i % 8) (omega arith) ∙ ap p (div-add-mod' i 8)

module _ (l : List ℕ) (base i : ℕ) (b : Bool) where
  pub length-put_bit : length (put_bit l base i b) ≡ length l
  length-put_bit = rw length-set

  -- one byte changes
  pub get_d-put_bit-other : (j : ℕ) → (j ≡ base + i / 8 → ⊥) → get_or (put_bit l base i b) j 0 ≡ get_or l j 0
  get_d-put_bit-other j ne = get_or-set_other l (base + i / 8) j _ 0 ne

  pub get_d-put_bit : base + i / 8 < length l → get_or (put_bit l base i b) (base + i / 8) 0 ≡ with_bit (get_or l (base + i / 8) 0) (i % 8) b
  get_d-put_bit h = get_or-set_same l (base + i / 8) (with_bit (get_or l (base + i / 8) 0) (i % 8) b) 0 h

  pub bytes-put_bit : AreBytes l → AreBytes (put_bit l base i b)
  bytes-put_bit a = bytes-set l (base + i / 8) (with_bit (get_or l (base + i / 8) 0) (i % 8) b) a
      (with_bit-lt 8 (get_or l (base + i / 8) 0) (i % 8) b (a (base + i / 8)) (omega arith))

  -- the bit itself, and the others
  pub bit_set-put_bit : base + i / 8 < length l → bit_set (put_bit l base i b) base i ≡ b
  bit_set-put_bit h = rw (get_d-put_bit h) (has_bit-with_bit (get_or l (base + i / 8) 0) (i % 8) b)

  pub bit_set-put_bit-other : (j : ℕ) → (j ≡ i → ⊥) → bit_set (put_bit l base i b) base j ≡ bit_set l base j
  bit_set-put_bit-other j ne = ⊎_elim (λ e. ⊎_elim (λ h. one e h) (λ h. out h) (lt-or-ge (base + i / 8) (length l)))
      (λ q. bit_set-agrees (put_bit l base i b) l base j (get_d-put_bit-other (base + j / 8) (λ e. q (omega arith))))
      (eq-or-ne (j / 8) (i / 8))
    where
      one : j / 8 ≡ i / 8 → base + i / 8 < length l → bit_set (put_bit l base i b) base j ≡ bit_set l base j
      one e h = rw (e, get_d-put_bit h) (has_bit-with_bit-other (get_or l (base + i / 8) 0) (i % 8) (j % 8) b (λ q. ne (omega arith)))

      out : length l ≤ base + i / 8 → bit_set (put_bit l base i b) base j ≡ bit_set l base j
      out h = ap (λ (m : List ℕ). bit_set m base j) (set_out l (base + i / 8) (with_bit (get_or l (base + i / 8) 0) (i % 8) b) h)

-- the bit that is there changes nothing
pub put_bit-bit_set : (l : List ℕ) (base i : ℕ) → put_bit l base i (bit_set l base i) ≡ l
put_bit-bit_set l base i = rw (with_bit-has_bit (get_or l (base + i / 8) 0) (i % 8)) (set-get_or l (base + i / 8) 0)
