-- Words of a bitmap: a word written back with one bit changed is that bit changed in the bytes, and which words have a set bit. Assumes nothing.
use Prim.Native.Nat.{ℕ, zero, suc, ◌+◌, ◌-◌, ◌*◌, ◌/◌, ◌%◌, ◌^◌, ◌≤◌, ◌<◌}
use mathlib.Core.Path.{◌≡◌, refl, sym, ap, ◌∙◌}
use mathlib.Core.Logic.{◌⊎◌, inl, inr, ⊎_elim}
use mathlib.Core.Bool.{Bool, true, false}
use mathlib.Core.List.{List}
use native.Mathlib.Omega.{arith}
use lib.Bits.{bit_and, bit_or, and_comm}
use lib.ListN.{length, get_or, length-set}
use lib.Pow.{low}
use lib.Seq.{get_or-set_same, get_or-set_other, ext_get_or}
use Rattle.std.specs.Int.{w64, bit_not}
use Rattle.std.proofs.lemmas.Nat.{and-not}
use Rattle.base.proofs.Any.{any_here, any_same, none_any}
use Rattle.base.proofs.Cases.{lt-or-ge, eq-or-ne}
use Rattle.base.proofs.Tests.{T_true, true-false, false-T, not-T-false}
use Rattle.memory.specs.Bytes.{AreBytes}
use Rattle.memory.specs.Bits.{with_bit, packed, bit_set, put_bit}
use Rattle.memory.specs.inner.Words.{put_low, word_set}
use Rattle.memory.proofs.Bits.{has_bit-with_bit, has_bit-with_bit-other, with_bit-lt, one_shifted, mask-set, mask-clear}
use Rattle.memory.proofs.Packed.{packed_lt, packed-bits, packed-is, packed-append, packed-shr}
use Rattle.memory.proofs.Bitmap.{byte-packed, length-put_bit, get_d-put_bit-other, bytes-put_bit, bit_set-put_bit, bit_set-put_bit-other}

module _ (l : List ℕ) (a v : ℕ) where
  pub length-put_low : (n : ℕ) → length (put_low l a n v) ≡ length l
  unfolding put_low
  length-put_low zero = refl
  length-put_low (suc n) = rw length-set (length-put_low n)

  pub get_d-put_low-other : (n j : ℕ) → (j < a) ⊎ (a + n ≤ j) → get_or (put_low l a n v) j 0 ≡ get_or l j 0
  unfolding put_low
  get_d-put_low-other zero j h = refl
  get_d-put_low-other (suc n) j h =
      get_or-set_other (put_low l a n v) (a + n) j _ 0 (λ e. ⊎_elim (λ q. omega arith) (λ q. omega arith) h)
      ∙ get_d-put_low-other n j (⊎_elim (λ q. inl q) (λ q. inr (omega arith)) h)

  pub get_d-put_low : (n j : ℕ) → a + n ≤ length l → j < n → get_or (put_low l a n v) (a + j) 0 ≡ v / 2 ^ (j * 8) % 256
  unfolding put_low
  get_d-put_low zero j f h = absurd (omega arith)
  get_d-put_low (suc n) j f h = ⊎_elim
      (λ e. rw e (get_or-set_same (put_low l a n v) (a + n) (v / 2 ^ (n * 8) % 256) 0 (omega (arith, length-put_low n))))
      (λ ne. get_or-set_other (put_low l a n v) (a + n) (a + j) _ 0 (λ e. ne (omega arith)) ∙ get_d-put_low n j (omega arith) (omega arith))
      (eq-or-ne j n)

-- byte m of a number made of 64 bits
byte-of-packed : (p : ℕ → Bool) (m : ℕ) → m < 8 → packed 64 p / 2 ^ (m * 8) % 256 ≡ packed 8 (λ j. p (m * 8 + j))
byte-of-packed p m h =
    let e : 64 ≡ m * 8 + (8 + (7 - m) * 8) = omega arith in
    let q = packed-append 8 ((7 - m) * 8) (λ j. p (m * 8 + j)) in
    ap (λ (n : ℕ). packed n p / 2 ^ (m * 8) % 256) e
    ∙ ap (λ (x : ℕ). x % 256) (packed-shr (m * 8) (8 + (7 - m) * 8) p ∙ q)
    ∙ low _ 8 (packed_lt 8 (λ j. p (m * 8 + j)))

-- the word of y written over bytes that are y's elsewhere leaves y
put_word : (l y : List ℕ) (a : ℕ) → AreBytes y → length l ≡ length y → a + 8 ≤ length l
    → ((j : ℕ) → (j < a) ⊎ (a + 8 ≤ j) → get_or l j 0 ≡ get_or y j 0) → put_low l a 8 (packed 64 (bit_set y a)) ≡ y
put_word l y a b z f same = ext_get_or 0 (put_low l a 8 w) y (length-put_low l a w 8 ∙ z) (λ i h. ⊎_elim
    (λ q. get_d-put_low-other l a w 8 i (inl q) ∙ same i (inl q))
    (λ q. ⊎_elim
    (λ r. inside i q r)
    (λ r. get_d-put_low-other l a w 8 i (inr r) ∙ same i (inr r))
    (lt-or-ge i (a + 8)))
    (lt-or-ge i a))
  where
    w : ℕ
    w = packed 64 (bit_set y a)

    inside : (i : ℕ) → a ≤ i → i < a + 8 → get_or (put_low l a 8 (packed 64 (bit_set y a))) i 0 ≡ get_or y i 0
    inside i q r =
        let e : i ≡ a + (i - a) = omega arith in
        rw e (get_d-put_low l a w 8 (i - a) f (omega arith) ∙ byte-of-packed (bit_set y a) (i - a) (omega arith) ∙ sym (byte-packed y a (i - a) b))

-- one bit of a word changed
module _ (l : List ℕ) (a k : ℕ) (v : Bool) (b : AreBytes l) (f : a + 8 ≤ length l) (h : k < 64) where
  changed-word : with_bit (packed 64 (bit_set l a)) k v ≡ packed 64 (bit_set (put_bit l a k v) a)
  changed-word =
      sym (packed-is 64 (with_bit (packed 64 (bit_set l a)) k v) (bit_set (put_bit l a k v) a)
      (with_bit-lt 64 (packed 64 (bit_set l a)) k v (packed_lt 64 (bit_set l a)) h)
      (λ j g. ⊎_elim
      (λ e. rw e (has_bit-with_bit (packed 64 (bit_set l a)) k v ∙ sym (bit_set-put_bit l a k v (omega arith))))
      (λ ne. has_bit-with_bit-other (packed 64 (bit_set l a)) k j v ne
      ∙ packed-bits 64 (bit_set l a) j g
      ∙ sym (bit_set-put_bit-other l a k v j ne))
      (eq-or-ne j k)))

  pub put-changed : put_low l a 8 (with_bit (packed 64 (bit_set l a)) k v) ≡ put_bit l a k v
  put-changed =
      ap (put_low l a 8) changed-word
      ∙ put_word l (put_bit l a k v) a (bytes-put_bit l a k v b) (sym (length-put_bit l a k v)) f
      (λ j q. sym (get_d-put_bit-other l a k v j (λ e. ⊎_elim (λ r. omega arith) (λ r. omega arith) q)))

-- bit i of the bitmap is bit i % 64 of its word
pub put_bit-word : (l : List ℕ) (base i : ℕ) (v : Bool) → put_bit l (base + i / 64 * 8) (i % 64) v ≡ put_bit l base i v
put_bit-word l base i v =
    let d : base + i / 64 * 8 + i % 64 / 8 ≡ base + i / 8 = omega arith in
    let m : i % 64 % 8 ≡ i % 8 = omega arith in
    rw (d, m)

-- the word x with one bit changed, and written back as y
pub put-bit : (l : List ℕ) (base i : ℕ) → AreBytes l → base + i / 64 * 8 + 8 ≤ length l → {x : ℕ} → x ≡ packed 64 (bit_set l (base + i / 64 * 8))
    → (v : Bool) {n : ℕ} {y : List ℕ} → n ≡ with_bit x (i % 64) v → y ≡ put_low l (base + i / 64 * 8) 8 n → y ≡ put_bit l base i v
put-bit l base i b f e v en ey =
    ey
    ∙ ap (put_low l (base + i / 64 * 8) 8) (en ∙ ap (λ (z : ℕ). with_bit z (i % 64) v) e)
    ∙ put-changed l (base + i / 64 * 8) (i % 64) v b f (omega arith)
    ∙ put_bit-word l base i v

-- code's masks of a word: bit k set, and cleared
pub mask_on : (x k : ℕ) → k < 64 → bit_or x ((1 * 2 ^ k) % 2 ^ 64) ≡ with_bit x k true
mask_on x k h = ap (bit_or x) (one_shifted 64 k h) ∙ mask-set x k

pub mask_off : (x k : ℕ) → k < 64 → x < 2 ^ 64 → bit_and x (bit_not w64 ((1 * 2 ^ k) % 2 ^ 64)) ≡ with_bit x k false
mask_off x k h f =
    let m = (1 * 2 ^ k) % 2 ^ 64 in
    let off : bit_and x (bit_not w64 m) ≡ x - bit_and x m =
    and_comm x (bit_not w64 m) ∙ omega (arith, and-not 64 m x (omega arith) f, and_comm m x) in
    off ∙ ap (λ (p : ℕ). x - bit_and x p) (one_shifted 64 k h) ∙ mask-clear x k

-- a bit and its word
module _ (l : List ℕ) (base : ℕ) where
  pub bit_word : (i : ℕ) → bit_set l base i ≡ true → word_set l base (i / 64) ≡ true
  bit_word i e =
      let d : i / 64 * 64 + i % 64 ≡ i = omega arith in
      any_here 64 (i % 64) (λ j. bit_set l base (i / 64 * 64 + j)) (omega arith) (rw d e)

  pub word-clear : (i : ℕ) → word_set l base (i / 64) ≡ false → bit_set l base i ≡ false
  word-clear i e = not-T-false (λ t. true-false (bit_word i (T_true {b = bit_set l base i} t)) e)

  pub clear-word-bits : (w : ℕ) → ((j : ℕ) → j < 64 → bit_set l base (w * 64 + j) ≡ false) → word_set l base w ≡ false
  clear-word-bits w h = none_any 64 (λ j. bit_set l base (w * 64 + j)) (λ j p t. false-T {b = bit_set l base (w * 64 + j)} (h j p) t)

  -- a word after a bit of another one is changed, and after one of its own is set
  pub word-other : (i : ℕ) (v : Bool) (w : ℕ) → (w ≡ i / 64 → ⊥) → word_set (put_bit l base i v) base w ≡ word_set l base w
  word-other i v w ne = any_same 64 (λ j. bit_set (put_bit l base i v) base (w * 64 + j)) (λ j. bit_set l base (w * 64 + j))
      (λ j h. bit_set-put_bit-other l base i v (w * 64 + j) (λ e. ne (omega arith)))

  pub word-set : (i : ℕ) → base + i / 8 < length l → word_set (put_bit l base i true) base (i / 64) ≡ true
  word-set i h = any_here 64 (i % 64) (λ j. bit_set (put_bit l base i true) base (i / 64 * 64 + j)) (omega arith)
      (let d : i / 64 * 64 + i % 64 ≡ i = omega arith in rw d (bit_set-put_bit l base i true h))
