-- A bitmap of whole bytes, searched and counted byte by byte: the bits of one byte, bytes that are 0, and the set bits of one byte more.
-- Assumes that the list is of bytes.
use Prim.Native.Nat.{ℕ, suc, ◌+◌, ◌-◌, ◌*◌, ◌/◌, ◌%◌, ◌≤◌, ◌<◌}
use mathlib.Core.Path.{◌≡◌, sym, ap, ◌∙◌}
use mathlib.Core.Logic.{⊎_elim}
use mathlib.Core.Bool.{false}
use mathlib.Core.List.{List, [], ◌∷◌}
use native.Mathlib.Omega.{arith}
use native.Mathlib.Nat.{sub_self}
use lib.Count.{ones}
use lib.Dec.{eqb}
use lib.ListN.{length, get_or, take, drop}
use borrow.Author.Tests.{eqb-true, eqb-false}
use Rattle.std.specs.List.{prefix_len, sum_by}
use Rattle.std.proofs.lemmas.List.{length-take, length-drop, get_or-drop, get_or-take, get_or_past}
use Rattle.std.proofs.lemmas.List.Sums.{prefix_len_passes, prefix_len_stops, prefix_len-le-length, sum_by-cons}
use Rattle.base.specs.Loops.{first_from, count as count_of}
use Rattle.memory.specs.Bytes.{AreBytes}
use Rattle.memory.specs.Bits.{has_bit, bit_set}
use Rattle.base.proofs.Cases.{lt-or-ge}
use Rattle.base.proofs.First.{first, first-end, first-same, first-shift, first-skip, first_found}
use Rattle.base.proofs.Count.{count_none, count-append, count_same}
use Rattle.memory.proofs.Bits.{has_bit-none}
use Rattle.memory.proofs.Packed.{bits-same}
use Rattle.memory.proofs.Bitmap.{bit_set-byte}
use Rattle.memory.proofs.MachineCounts.{ones-count}

-- a byte that is not 0 has a set bit
first-of-byte : (x : ℕ) → x < 256 → (x ≡ 0 → ⊥) → first_from 8 0 (has_bit x) < 8
first-of-byte x h ne =
    let f = first 8 0 (has_bit x) in
    ⊎_elim (λ l. l)
    (λ l. absurd (ne (bits-same 8 x 0 h (omega arith) (λ j p. f.before j (omega arith) (omega arith) ∙ sym (has_bit-none j)))))
    (lt-or-ge (first_from 8 0 (has_bit x)) 8)

-- the bitmap in the n bytes from base on, as a list of its own
pub bits-taken : (l : List ℕ) (base n i : ℕ) → i < n * 8 → bit_set (take n (drop base l)) 0 i ≡ bit_set l base i
bits-taken l base n i h =
    let e : base + (0 + i / 8) ≡ base + i / 8 = omega arith in
    rw (get_or-take n (drop base l) (0 + i / 8) 0 (omega arith), get_or-drop base l (0 + i / 8) 0, e)

pub first-taken : (l : List ℕ) (base n count i : ℕ) → n * 8 ≡ count → i ≤ count
    → first_from (count - i) i (bit_set (take n (drop base l)) 0) ≡ first_from (count - i) i (bit_set l base)
first-taken l base n count i e h = first-same (count - i) i _ _ (λ j p q. bits-taken l base n j (omega arith))

module _ (l : List ℕ) where
  -- a search in byte b from its bit k on
  first-in-byte : (b k : ℕ) → k ≤ 8 → first_from (8 - k) (b * 8 + k) (bit_set l 0) ≡ b * 8 + first_from (8 - k) k (has_bit (get_or l b 0))
  first-in-byte b k h =
      let z : 0 + b ≡ b = omega arith in
      first-shift (b * 8) (8 - k) k (bit_set l 0)
      ∙ ap (λ (r : ℕ). b * 8 + r)
      (first-same (8 - k) k (λ j. bit_set l 0 (b * 8 + j)) (has_bit (get_or l b 0)) (λ j p q. rw z at (bit_set-byte l 0 b j (omega arith))))

  -- a search up to count whose byte b has a set bit from k on
  pub first-byte-found : (count b k : ℕ) → k ≤ 8 → b * 8 + 8 ≤ count → first_from (8 - k) k (has_bit (get_or l b 0)) < 8
      → first_from (count - (b * 8 + k)) (b * 8 + k) (bit_set l 0) ≡ b * 8 + first_from (8 - k) k (has_bit (get_or l b 0))
  first-byte-found count b k h w r =
      let e = first-in-byte b k h in
      let f = first (8 - k) (b * 8 + k) (bit_set l 0) in
      let s = first_from (8 - k) (b * 8 + k) (bit_set l 0) in
      first_found count (b * 8 + k) s (bit_set l 0) f.low (omega arith) f.before (f.found (omega arith)) ∙ e

  -- and one whose byte b has none goes on in the bytes after it
  pub first-byte-none : (count b k : ℕ) → length l * 8 ≡ count → k ≤ 8 → b < length l → 8 ≤ first_from (8 - k) k (has_bit (get_or l b 0))
      → first_from (count - (b * 8 + k)) (b * 8 + k) (bit_set l 0)
      ≡ (b + 1) * 8 + first_from (length (drop (b + 1) l) * 8) 0 (bit_set (drop (b + 1) l) 0)
  first-byte-none count b k whole h w r =
      let e = first-in-byte b k h in
      let f = first (8 - k) (b * 8 + k) (bit_set l 0) in
      let n : count - (b + 1) * 8 ≡ length (drop (b + 1) l) * 8 = omega (arith, length-drop (b + 1) l) in
      let z : (b + 1) * 8 ≡ (b + 1) * 8 + 0 = omega arith in
      first-skip count (b * 8 + k) ((b + 1) * 8) (bit_set l 0) (omega arith) (omega arith) (λ j p q. f.before j p (omega arith))
      ∙ rw n (ap (λ (i : ℕ). first_from (length (drop (b + 1) l) * 8) i (bit_set l 0)) z)
      ∙ first-shift ((b + 1) * 8) (length (drop (b + 1) l) * 8) 0 (bit_set l 0)
      ∙ ap (λ (r : ℕ). (b + 1) * 8 + r) (first-same (length (drop (b + 1) l) * 8) 0 _ (bit_set (drop (b + 1) l) 0) (λ j p q. after j))
    where
      after : (j : ℕ) → bit_set l 0 ((b + 1) * 8 + j) ≡ bit_set (drop (b + 1) l) 0 j
      after j =
          let d : 0 + ((b + 1) * 8 + j) / 8 ≡ b + 1 + (0 + j / 8) = omega arith in
          let m : ((b + 1) * 8 + j) % 8 ≡ j % 8 = omega arith in
          rw (d, m, get_or-drop (b + 1) l (0 + j / 8) 0)

  -- the first set bit, by the first byte that is not 0, which is at
  module _ {at : ℕ} (f : at ≡ prefix_len (λ x. eqb x 0) l) where
    passed : (j : ℕ) → j < at * 8 → bit_set l 0 j ≡ false
    passed j h = rw (eqb-true (get_or l (0 + j / 8) 0) 0 (prefix_len_passes (λ x. eqb x 0) l (0 + j / 8) 0 (omega arith))) (has_bit-none (j % 8))

    within : at ≤ length l
    within = omega (arith, prefix_len-le-length (λ x. eqb x 0) l)

    pass : first_from (length l * 8) 0 (bit_set l 0) ≡ first_from (length l * 8 - at * 8) (at * 8) (bit_set l 0)
    pass =
        let z : length l * 8 ≡ length l * 8 - 0 = omega arith in
        ap (λ (n : ℕ). first_from n 0 (bit_set l 0)) z
        ∙ first-skip (length l * 8) 0 (at * 8) (bit_set l 0) (omega arith) (omega (arith, within)) (λ j p q. passed j q)

    pub first-bytes-none : at ≡ length l → first_from (length l * 8) 0 (bit_set l 0) ≡ at * 8
    first-bytes-none e = pass ∙ rw (e, sub_self (length l * 8)) (first-end (length l * 8) (bit_set l 0))

    pub first-bytes-found : AreBytes l → (at ≡ length l → ⊥) → first_from (length l * 8) 0 (bit_set l 0) ≡ at * 8 + first_from 8 0 (has_bit (get_or l at 0))
    first-bytes-found b ne =
        let z : at * 8 + 0 ≡ at * 8 = omega arith in
        let stop : eqb (get_or l at 0) 0 ≡ false = rw f (prefix_len_stops (λ x. eqb x 0) l 0 (omega (arith, within, ne, f))) in
        let r = first-of-byte (get_or l at 0) (b at) (eqb-false (get_or l at 0) 0 stop) in
        pass ∙ rw z at (first-byte-found (length l * 8) at 0 (omega arith) (omega (arith, within, ne)) r)

-- parts of bytes are bytes
pub bytes-taken : (l : List ℕ) (base n : ℕ) → AreBytes l → AreBytes (take n (drop base l))
bytes-taken l base n b i = ⊎_elim
    (λ h. rw (get_or-take n (drop base l) i 0 h, get_or-drop base l i 0) (b (base + i)))
    (λ h. rw (get_or_past (take n (drop base l)) i 0 (omega (arith, length-take n (drop base l)))) (omega arith))
    (lt-or-ge i n)

-- the set bits of bytes
pub ones-bits : (l : List ℕ) → AreBytes l → sum_by ones l ≡ count_of (length l * 8) (bit_set l 0)
ones-bits [] b = sym (count_none (bit_set [] 0))
ones-bits (x ∷ xs) b =
    let p = bit_set (x ∷ xs) 0 in
    let n = length xs * 8 in
    let e : suc (length xs) * 8 ≡ 8 + n = omega arith in
    let first = ones-count 8 x (b 0) ∙ sym (count_same 8 p (has_bit x) (λ j h.
    let d : 0 + j / 8 ≡ 0 = omega arith in let m : j % 8 ≡ j = omega arith in rw (d, m))) in
    let rest = ones-bits xs (λ i. b (suc i)) ∙ sym (count_same n (λ j. p (8 + j)) (bit_set xs 0) (λ j h.
    let d : 0 + (8 + j) / 8 ≡ suc (0 + j / 8) = omega arith in let m : (8 + j) % 8 ≡ j % 8 = omega arith in rw (d, m))) in
    sum_by-cons ones x xs ∙ rw (e, count-append 8 n p) (omega (arith, first, rest))

pub ones-taken : (l : List ℕ) (base n count : ℕ) → AreBytes l → n * 8 ≡ count → base + n ≤ length l
    → sum_by ones (take n (drop base l)) ≡ count_of count (bit_set l base)
ones-taken l base n count b e h =
    let len : length (take n (drop base l)) * 8 ≡ count = omega (arith, length-take n (drop base l), length-drop base l) in
    ones-bits (take n (drop base l)) (bytes-taken l base n b) ∙ rw len (count_same count _ _ (λ j h. bits-taken l base n j (omega arith)))
