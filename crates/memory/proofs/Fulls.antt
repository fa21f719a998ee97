-- Bytes that are all 255: a test of each word and then of each byte that is left. Assumes that the list is of bytes.
use Prim.Native.Nat.{ℕ, zero, suc, ◌+◌, ◌*◌, ◌/◌, ◌≤◌}
use mathlib.Core.Path.{◌≡◌, refl, sym, ap, ◌∙◌}
use mathlib.Core.Bool.{Bool, true, ◌&&◌}
use mathlib.Core.List.{List}
use native.Mathlib.Omega.{arith}
use native.Mathlib.Nat.{div-mul-le_self}
use lib.Dec.{eqb}
use lib.ListN.{length, get_or, take, drop}
use Rattle.std.specs.Int.{w64, from_le_bytes}
use Rattle.std.specs.List.{list_all}
use Rattle.std.specs.Simd.{first_chunks}
use Rattle.std.proofs.lemmas.List.{length-take-le, length-take, length-drop, get_or-take, get_or-drop}
use Rattle.base.specs.Loops.{all}
use Rattle.base.proofs.All.{all_same}
use Rattle.memory.specs.Bytes.{AreBytes, fulls}
use Rattle.memory.specs.Bits.{packed}
use Rattle.memory.proofs.Bitmap.{bytes-all}
use Rattle.memory.proofs.Conversions.{word-from_le}
use Rattle.memory.proofs.Runs.{all-list, all-runs}
use Rattle.memory.proofs.Search.{bytes-taken}

abbrev pub is_full : ℕ → Bool
is_full x = eqb x 255

abbrev pub word_full : List ℕ → Bool
word_full xs = eqb (from_le_bytes w64 xs) 18446744073709551615

-- a word is 2 ^ 64 - 1 exactly if its bytes are 255
word-full : (xs : List ℕ) → AreBytes xs → length xs ≡ 8 → word_full xs ≡ list_all is_full xs
unfolding packed
word-full xs b e =
    let z : (i : ℕ) → 0 + i ≡ i = λ i. omega arith in
    ap (λ (x : ℕ). eqb x 18446744073709551615) (word-from_le xs xs 0 b (λ j h. rw (z j)))
    ∙ bytes-all xs 0 8 18446744073709551615 255 true refl refl b
    ∙ all_same 8 _ (λ i. is_full (get_or xs i 0)) (λ i h. rw (z i))
    ∙ rw (← e) (all-list is_full xs)

words-full : (m : ℕ) (xs : List ℕ) → AreBytes xs → m * 8 ≤ length xs
    → list_all word_full (first_chunks 8 m xs) ≡ list_all (list_all is_full) (first_chunks 8 m xs)
words-full zero xs b h = refl
words-full (suc m) xs b h = rw (
  word-full (take 8 xs) (bytes-taken xs 0 8 b) (length-take-le 8 xs (omega arith)),
  words-full m (drop 8 xs) (λ i. rw get_or-drop (b (8 + i))) (omega (arith, length-drop 8 xs)),
)

pub full-parts : (xs : List ℕ) → AreBytes xs
    → list_all word_full (first_chunks 8 (length xs / 8) xs) && list_all is_full (drop (length xs / 8 * 8) xs) ≡ list_all is_full xs
full-parts xs b =
    ap (λ (t : Bool). t && list_all is_full (drop (length xs / 8 * 8) xs)) (words-full (length xs / 8) xs b (div-mul-le_self (length xs) 8))
    ∙ all-runs is_full 8 (length xs / 8) xs

-- the n bytes from a on, as a list of their own
pub fulls-taken : (l : List ℕ) (a n : ℕ) → a + n ≤ length l → list_all is_full (take n (drop a l)) ≡ fulls l a n
fulls-taken l a n h =
    let xs = take n (drop a l) in
    let e : length xs ≡ n = omega (arith, length-take n (drop a l), length-drop a l) in
    sym (all-list is_full xs)
    ∙ ap (λ (k : ℕ). all k (λ i. is_full (get_or xs i 0))) e
    ∙ all_same n _ _ (λ i p. rw (get_or-take n (drop a l) i 0 p, get_or-drop a l i 0))
