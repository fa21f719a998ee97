-- What the library's conversions between 8 bytes and a number give, as the definitions of specs/ say it. Assumes nothing.
use Prim.Native.Nat.{ℕ, zero, suc, ◌+◌, ◌-◌, ◌*◌, ◌/◌, ◌%◌, ◌^◌, ◌≤◌, ◌<◌}
use mathlib.Core.Path.{◌≡◌, refl, sym, ap, ◌∙◌}
use mathlib.Core.Logic.{◌⊎◌, ⊎_elim, inl, inr}
use mathlib.Core.List.{List}
use native.Mathlib.Omega.{arith}
use native.Mathlib.Nat.{mul_comm}
use lib.ListN.{length, get_or}
use lib.Seq.{ext_get_or}
use borrow.Rule.Slice.PartMut.{put_mid}
use Rattle.std.specs.Int.{w64, from_be_bytes, from_le_bytes, to_be_bytes, to_le_bytes, bytes_high_first, bytes_low_first}
use Rattle.std.proofs.lemmas.List.{places}
use Rattle.base.proofs.Cases.{lt-or-ge}
use Rattle.memory.specs.Bytes.{AreBytes, number_at, put_number, digit}
use Rattle.memory.specs.Bits.{packed, bit_set}
use Rattle.memory.specs.inner.Words.{put_low}
use Rattle.memory.proofs.Bytes.{length-put_number, get_d-put_number-other}
use Rattle.memory.proofs.Digits.{get_d-put_number, pow-bytes}
use Rattle.memory.proofs.Packed.{packed_lt, packed-append}
use Rattle.memory.proofs.Bitmap.{byte-packed}
use Rattle.memory.proofs.Words.{length-put_low, get_d-put_low, get_d-put_low-other}

-- m is the 8 bytes of l from a on
abbrev pub AreAt : (m l : List ℕ) (a : ℕ) → Type 0
AreAt m l a = (j : ℕ) → j < 8 → get_or m j 0 ≡ get_or l (a + j) 0

-- read highest byte first
pub number-from_be : (m l : List ℕ) (a : ℕ) → AreAt m l a → from_be_bytes w64 m ≡ number_at l a 8
unfolding number_at
number-from_be m l a h = omega (arith, h)

-- and lowest byte first
packed-more : (l : List ℕ) (a n : ℕ) → AreBytes l → packed (n * 8 + 8) (bit_set l a) ≡ get_or l (a + n) 0 * 2 ^ (n * 8) + packed (n * 8) (bit_set l a)
packed-more l a n b =
    packed-append (n * 8) 8 (bit_set l a) ∙ ap (λ (x : ℕ). x * 2 ^ (n * 8) + packed (n * 8) (bit_set l a)) (sym (byte-packed l a n b))

pub word-from_le : (m l : List ℕ) (a : ℕ) → AreBytes l → AreAt m l a → from_le_bytes w64 m ≡ packed 64 (bit_set l a)
word-from_le m l a b h =
    let more = λ (n : ℕ). packed-more l a n b in
    omega (arith, h, packed_lt 0 (bit_set l a), more 0, more 1, more 2, more 3, more 4, more 5, more 6, more 7)

-- the bytes of a number, the highest and the lowest first
digit-high : (k v j : ℕ) → j < k → get_or (bytes_high_first k v) j 0 ≡ digit k v j
unfolding digit
digit-high zero v j h = absurd (omega arith)
digit-high (suc zero) v zero h = omega arith
digit-high (suc (suc k)) v zero h = let e : suc (suc k) - 1 ≡ suc k = omega arith in rw e
digit-high (suc k) v (suc j) h = let e : suc k - suc (suc j) ≡ k - suc j = omega arith in rw e (digit-high k v j (omega arith))

digit-low : (i k v j m : ℕ) → j < k → i + j ≡ m → get_or (bytes_low_first i k v) j 0 ≡ v / 2 ^ (m * 8) % 256
digit-low i zero v j m h q = absurd (omega arith)
digit-low zero (suc k) v zero m h q = let e : m ≡ 0 = omega arith in rw e (omega arith)
digit-low (suc i) (suc k) v zero m h q = let e : m ≡ suc i = omega arith in rw (e, mul_comm (suc i) 8, pow-bytes (suc i))
digit-low i (suc k) v (suc j) m h q = digit-low (suc i) k v j m (omega arith) (omega arith)

-- n bytes ys written over those of l from a on
put_mid-is : (l m ys : List ℕ) (a n : ℕ) → a + n ≤ length l → length ys ≡ n → length m ≡ length l
    → ((j : ℕ) → (j < a) ⊎ (a + n ≤ j) → get_or m j 0 ≡ get_or l j 0) → ((j : ℕ) → j < n → get_or m (a + j) 0 ≡ get_or ys j 0)
    → put_mid a n l ys ≡ m
put_mid-is l m ys a n f e g other own = ext_get_or 0 (put_mid a n l ys) m (grind (arith, places)) (λ i p. ⊎_elim
    (λ q. let o = other i (inl q) in grind (arith, places))
    (λ q. ⊎_elim
    (λ r. let o = own (i - a) (omega arith) in let k : a + (i - a) ≡ i = omega arith in grind (arith, places))
    (λ r. let o = other i (inr r) in grind (arith, places))
    (lt-or-ge i (a + n)))
    (lt-or-ge i a))

-- a number and a word written over the k bytes from a on, which are 8
module _ (l ys : List ℕ) (a k v : ℕ) (e : k ≡ 8) (f : a + 8 ≤ length l) where
  pub put_mid-number : ys ≡ to_be_bytes w64 v → put_mid a k l ys ≡ put_number l a 8 v
  put_mid-number g = rw (e, g) (put_mid-is l (put_number l a 8 v) (to_be_bytes w64 v) a 8 f refl (length-put_number l a 8 v)
      (get_d-put_number-other l a 8 v) (λ j h. get_d-put_number l a 8 v j f h ∙ sym (digit-high 8 v j h)))

  pub put_mid-low : ys ≡ to_le_bytes w64 v → put_mid a k l ys ≡ put_low l a 8 v
  put_mid-low g = rw (e, g) (put_mid-is l (put_low l a 8 v) (to_le_bytes w64 v) a 8 f refl (length-put_low l a v 8)
      (get_d-put_low-other l a v 8) (λ j h. get_d-put_low l a v 8 j f h ∙ sym (digit-low 0 8 v j j h (omega arith))))
