-- A number made of its bits: that they determine it, bits joined above others, the lowest shifted off, a test part by part. Assumes nothing.
use Prim.Native.Nat.{ℕ, zero, suc, ◌+◌, ◌*◌, ◌/◌, ◌%◌, ◌^◌, ◌<◌}
use mathlib.Core.Path.{◌≡◌, refl, sym, ap, ◌∙◌}
use mathlib.Core.Bool.{Bool, false, ◌&&◌}
use native.Mathlib.Omega.{arith}
use native.Mathlib.Nat.{zero-add, suc-add, zero-mul, suc-mul, mul_assoc, pow-suc}
use lib.Dec.{eqb}
use lib.Pow.{pow_pos, high, low}
use borrow.Author.Tests.{eq-eqb}
use Rattle.base.specs.Loops.{one_if, all}
use Rattle.memory.specs.Bits.{bit_of, has_bit, packed}
use Rattle.base.proofs.Cases.{eqb-both}
use Rattle.base.proofs.Count.{one_if-le}
use Rattle.memory.proofs.Bits.{bit_of-zero, bit_of-suc, one_if-has_bit, has_bit-is, has_bit-none}

pub packed_lt : (n : ℕ) (p : ℕ → Bool) → packed n p < 2 ^ n
unfolding packed
packed_lt zero p = omega arith
packed_lt (suc n) p = omega (arith, one_if-le (p 0), packed_lt n (λ j. p (suc j)), pow-suc 2 n)

bit_of-packed : (n : ℕ) (p : ℕ → Bool) (j : ℕ) → j < n → bit_of (packed n p) j ≡ one_if (p j)
unfolding packed
bit_of-packed zero p j h = absurd (omega arith)
bit_of-packed (suc n) p zero h = bit_of-zero (one_if (p 0) + 2 * packed n (λ j. p (suc j))) ∙ omega (arith, one_if-le (p 0))
bit_of-packed (suc n) p (suc j) h =
    let y = packed n (λ j. p (suc j)) in
    let e : (one_if (p 0) + 2 * y) / 2 ≡ y = omega (arith, one_if-le (p 0)) in
    bit_of-suc (one_if (p 0) + 2 * y) j ∙ ap (λ (x : ℕ). bit_of x j) e ∙ bit_of-packed n (λ j. p (suc j)) j (omega arith)

-- the bits of the number are those it was made of
pub packed-bits : (n : ℕ) (p : ℕ → Bool) (j : ℕ) → j < n → has_bit (packed n p) j ≡ p j
packed-bits n p j h = has_bit-is (packed n p) j (p j) (bit_of-packed n p j h)

pub packed-same : (n : ℕ) (p q : ℕ → Bool) → ((j : ℕ) → j < n → p j ≡ q j) → packed n p ≡ packed n q
unfolding packed
packed-same zero p q h = refl
packed-same (suc n) p q h = rw (h 0 (omega arith), packed-same n (λ j. p (suc j)) (λ j. q (suc j)) (λ j l. h (suc j) (omega arith)))

-- a number is made of its bits
pub packed-of : (n x : ℕ) → x < 2 ^ n → packed n (has_bit x) ≡ x
unfolding packed
packed-of zero x h = omega arith
packed-of (suc n) x h =
    let ih = packed-of n (x / 2) (omega (arith, pow-suc 2 n)) in
    let e = packed-same n (λ j. has_bit x (suc j)) (has_bit (x / 2)) (λ j l. ap (λ (y : ℕ). eqb y 1) (bit_of-suc x j)) in
    omega (arith, one_if-has_bit x 0, bit_of-zero x)

pub packed-is : (n x : ℕ) (p : ℕ → Bool) → x < 2 ^ n → ((j : ℕ) → j < n → has_bit x j ≡ p j) → packed n p ≡ x
packed-is n x p h f = packed-same n p (has_bit x) (λ j l. sym (f j l)) ∙ packed-of n x h

-- two numbers with the same bits are one
pub bits-same : (n x y : ℕ) → x < 2 ^ n → y < 2 ^ n → ((j : ℕ) → j < n → has_bit x j ≡ has_bit y j) → x ≡ y
bits-same n x y h k f = sym (packed-is n x (has_bit y) h f) ∙ packed-of n y k

-- a number made of bits is 0 exactly if none is set
pub packed_zero : (n : ℕ) (p : ℕ → Bool) → packed n p ≡ 0 → (j : ℕ) → j < n → p j ≡ false
packed_zero n p e j h = sym (packed-bits n p j h) ∙ rw e (has_bit-none j)

pub packed_none : (n : ℕ) (p : ℕ → Bool) → ((j : ℕ) → j < n → p j ≡ false) → packed n p ≡ 0
packed_none n p h = packed-is n 0 p (pow_pos n) (λ j l. has_bit-none j ∙ sym (h j l))

-- n bits above m bits, and the bits that a shift leaves
pub packed-append : (m n : ℕ) (p : ℕ → Bool) → packed (m + n) p ≡ packed n (λ j. p (m + j)) * 2 ^ m + packed m p
unfolding packed
packed-append zero n p = simp zero-add (omega arith)
packed-append (suc m) n p =
    let ih = packed-append m n (λ j. p (suc j)) in
    let x = packed n (λ j. p (suc (m + j))) in
    simp (suc-add, pow-suc) (omega (arith, mul_assoc x (2 ^ m) 2))

pub packed-shr : (m n : ℕ) (p : ℕ → Bool) → packed (m + n) p / 2 ^ m ≡ packed n (λ j. p (m + j))
packed-shr m n p = rw packed-append (high (packed n (λ j. p (m + j))) m (packed_lt m p))

-- two numbers that are made of m parts of n bits are one exactly if each part is
pub packed-parts : (m n : ℕ) (p q : ℕ → Bool)
    → eqb (packed (m * n) p) (packed (m * n) q) ≡ all m (λ i. eqb (packed n (λ j. p (i * n + j))) (packed n (λ j. q (i * n + j))))
unfolding all
packed-parts zero n p q = eq-eqb (packed (0 * n) p) (packed (0 * n) q) (packed-same (0 * n) p q (λ j h. absurd (omega (arith, zero-mul n))))
packed-parts (suc m) n p q =
    let k = m * n in
    let x = packed n (λ j. p (k + j)) in
    let y = packed n (λ j. q (k + j)) in
    let a = packed k p in
    let b = packed k q in
    rw (suc-mul, packed-append k n p, packed-append k n q)
    (eqb-both (x * 2 ^ k + a) (y * 2 ^ k + b) a b x y (λ e. (
      sym (low x k (packed_lt k p)) ∙ ap (λ (z : ℕ). z % 2 ^ k) e ∙ low y k (packed_lt k q),
      sym (high x k (packed_lt k p)) ∙ ap (λ (z : ℕ). z / 2 ^ k) e ∙ high y k (packed_lt k q),
    )) (λ e f. rw (e, f))
    ∙ ap (λ (t : Bool). t && eqb x y) (packed-parts m n p q))
