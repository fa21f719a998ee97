-- The index after a word is noted or struck out: which words are noted then, and its top. Assumes nothing.
use Prim.Native.Nat.{ℕ, ◌-◌, ◌*◌, ◌/◌, ◌%◌, ◌^◌, ◌≤◌, ◌<◌}
use mathlib.Core.Path.{◌≡◌, refl, sym, ap, ◌∙◌, subst}
use mathlib.Core.Logic.{⊎_elim}
use mathlib.Core.Bool.{Bool, true, false, cond}
use mathlib.Core.List.{List}
use native.Mathlib.Omega.{arith}
use lib.Bits.{bit_and, bit_or}
use lib.ListN.{length, get_or, set, length-set, get_or-eq_default}
use lib.Seq.{get_or-set_same, get_or-set_other}
use borrow.Author.Tests.{ne_eqb, not-false}
use Rattle.std.specs.Int.{w64, bit_not}
use Rattle.base.specs.Loops.{any}
use Rattle.base.proofs.Any.{any_here, any_none, none_any}
use Rattle.base.proofs.Cases.{lt-or-ge, eq-or-ne}
use Rattle.base.proofs.Tests.{false-T, true-false, not-T-false}
use Rattle.memory.specs.Bits.{has_bit, with_bit, packed}
use Rattle.memory.proofs.Bits.{has_bit-none, has_bit-with_bit, has_bit-with_bit-other, with_bit-has_bit, one_shifted, mask-set, power-within, power-off}
use Rattle.memory.proofs.FirstSet.{none-set}
use Rattle.memory.proofs.Packed.{packed-bits}
use Rattle.memory.proofs.Words.{mask_off}
use Rattle.index.specs.inner.Index.{words, parts, is_noted, noting, is_some, Exact}

-- a number of 64 bits that is not 0 has a set bit, and 0 has none
pub some-set : (n : ℕ) → n < 2 ^ 64 → (n ≡ 0 → ⊥) → any 64 (has_bit n) ≡ true
some-set n h ne = not-false (any 64 (has_bit n)) (sym (none-set 64 n h) ∙ ne_eqb n 0 ne)

pub zero-none : (n : ℕ) → n ≡ 0 → any 64 (has_bit n) ≡ false
zero-none n z = none_any 64 (has_bit n) (λ j l. false-T {b = has_bit n j} (rw z (has_bit-none j)))

-- a noted word's number has a set bit
pub noted-some : (x : List ℕ) (w : ℕ) → is_noted x w ≡ true → is_some x (w / 64) ≡ true
noted-some x w e = any_here 64 (w % 64) (has_bit (get_or x (w / 64) 0)) (omega arith) e

-- so no word of a number without one is noted
pub empty-noted : (x : List ℕ) (w : ℕ) → is_some x (w / 64) ≡ false → is_noted x w ≡ false
empty-noted x w f = not-T-false (any_none 64 (has_bit (get_or x (w / 64) 0)) f (w % 64) (omega arith))

-- the number of a noted word lies within the index
pub noted-within : (x : List ℕ) (w : ℕ) → is_noted x w ≡ true → w / 64 < length x
noted-within x w e =
    ⊎_elim (λ l. l)
    (λ l. true-false e (ap (λ (n : ℕ). has_bit n (w % 64)) (get_or-eq_default x 0 l) ∙ has_bit-none (w % 64)))
    (lt-or-ge (w / 64) (length x))

-- a number that has one is within the index
pub some-within : (x : List ℕ) (k : ℕ) → length x ≡ parts → is_some x k ≡ true → k < parts
some-within x k e s =
    ⊎_elim (λ l. l) (λ l. true-false s (zero-none (get_or x k 0) (get_or-eq_default x 0 (rw e l)))) (lt-or-ge k parts)

-- word w noted or struck out
module _ (x : List ℕ) (w : ℕ) (v : Bool) (h : w / 64 < length x) where
  get_d-other : (j : ℕ) → (j ≡ w / 64 → ⊥) → get_or (noting x w v) j 0 ≡ get_or x j 0
  get_d-other j ne = get_or-set_other x (w / 64) j _ 0 ne

  get_d-own : get_or (noting x w v) (w / 64) 0 ≡ with_bit (get_or x (w / 64) 0) (w % 64) v
  get_d-own = get_or-set_same x (w / 64) (with_bit (get_or x (w / 64) 0) (w % 64) v) 0 h

  pub noted-same : is_noted (noting x w v) w ≡ v
  noted-same = rw get_d-own (has_bit-with_bit (get_or x (w / 64) 0) (w % 64) v)

  pub noted_other : (u : ℕ) → (u ≡ w → ⊥) → is_noted (noting x w v) u ≡ is_noted x u
  noted_other u ne = ⊎_elim (λ e. one e) (λ q. ap (λ (n : ℕ). has_bit n (u % 64)) (get_d-other (u / 64) q)) (eq-or-ne (u / 64) (w / 64))
    where
      one : u / 64 ≡ w / 64 → is_noted (noting x w v) u ≡ is_noted x u
      one e = rw (e, get_d-own) (has_bit-with_bit-other (get_or x (w / 64) 0) (w % 64) (u % 64) v (λ q. ne (omega arith)))

  -- the top of the index after that
  pub noting-exact : {t : ℕ} → Exact x t → Exact (noting x w v) (with_bit t (w / 64) (is_some (noting x w v) (w / 64)))
  noting-exact {t} e = record { long = rw length-set e.long; tells = λ k l. ⊎_elim (λ q. own k q) (λ ne. other k l ne) (eq-or-ne k (w / 64)) }
    where
      own : (k : ℕ) → k ≡ w / 64 → has_bit (with_bit t (w / 64) (is_some (noting x w v) (w / 64))) k ≡ is_some (noting x w v) k
      own k q = rw q (has_bit-with_bit t (w / 64) (is_some (noting x w v) (w / 64)))

      other : (k : ℕ) → k < 64 → (k ≡ w / 64 → ⊥) → has_bit (with_bit t (w / 64) (is_some (noting x w v) (w / 64))) k ≡ is_some (noting x w v) k
      other k l ne =
          has_bit-with_bit-other t (w / 64) k (is_some (noting x w v) (w / 64)) ne
          ∙ e.tells k l
          ∙ ap (λ (n : ℕ). any 64 (has_bit n)) (sym (get_d-other k ne))

-- a word is noted: its number's power is put to the number, and the power of the number to the top
pub number-noted : (x : List ℕ) (w : ℕ) → set x (w / 64) (bit_or (get_or x (w / 64) 0) ((1 * 2 ^ (w % 64)) % 2 ^ 64)) ≡ noting x w true
number-noted x w =
    let n = get_or x (w / 64) 0 in
    ap (set x (w / 64)) (ap (bit_or n) (one_shifted 64 (w % 64) (omega arith)) ∙ mask-set n (w % 64))

pub top-noted : (t k : ℕ) → k < 64 → bit_or t ((1 * 2 ^ k) % 2 ^ 64) ≡ with_bit t k true
top-noted t k h = ap (bit_or t) (one_shifted 64 k h) ∙ mask-set t k

pub note-exact : {x : List ℕ} {t : ℕ} (w : ℕ) → w < words → Exact x t → Exact (noting x w true) (with_bit t (w / 64) true)
note-exact {x} {t} w h e =
    let l : w / 64 < length x = omega (arith, e.long) in
    let s = noted-some (noting x w true) w (noted-same x w true l) in
    rw s at (noting-exact x w true l e)

-- where the number is not 0, the top has its bit already
pub note-kept : {x : List ℕ} {t : ℕ} (w : ℕ) → w < words → Exact x t → get_or x (w / 64) 0 < 2 ^ 64 → (get_or x (w / 64) 0 ≡ 0 → ⊥)
    → Exact (noting x w true) t
note-kept {x} {t} w h e l ne =
    let s : has_bit t (w / 64) ≡ true = e.tells (w / 64) (omega arith) ∙ some-set (get_or x (w / 64) 0) l ne in
    let P : ℕ → Type 0 = λ u. Exact (noting x w true) u in
    subst P (rw (← s) (with_bit-has_bit t (w / 64))) (note-exact w h e)

-- a noted word is struck out: its power is taken off its number
module _ (x : List ℕ) (w : ℕ) (n : is_noted x w ≡ true) where
  abbrev rest : ℕ
  rest = get_or x (w / 64) 0 - (1 * 2 ^ (w % 64)) % 2 ^ 64

  pub word-within : (1 * 2 ^ (w % 64)) % 2 ^ 64 ≤ get_or x (w / 64) 0
  word-within = rw (one_shifted 64 (w % 64) (omega arith)) (power-within (get_or x (w / 64) 0) (w % 64) n)

  pub struck : set x (w / 64) rest ≡ noting x w false
  struck = ap (set x (w / 64)) (rw (one_shifted 64 (w % 64) (omega arith)) (power-off (get_or x (w / 64) 0) (w % 64) n))

  -- its number then
  abbrev left : ℕ
  left = get_or (set x (w / 64) rest) (w / 64) 0

  left-is : get_or (set x (w / 64) rest) (w / 64) 0 ≡ rest
  left-is = get_or-set_same x (w / 64) rest 0 (noted-within x w n)

  -- it is 0, and the mask clears its bit in the top, or it is not, and the top stays
  abbrev pub struck_top : ℕ → ℕ
  struck_top t = cond (is_some (set x (w / 64) rest) (w / 64)) t (with_bit t (w / 64) false)

  pub top-masked : (t : ℕ) → w < words → t < 2 ^ 64 → left ≡ 0 → bit_and t (bit_not w64 ((1 * 2 ^ (w / 64)) % 2 ^ 64)) ≡ struck_top t
  top-masked t h f z = rw (zero-none left z) (mask_off t (w / 64) (omega arith) f)

  pub top-kept : (t : ℕ) → get_or x (w / 64) 0 < 2 ^ 64 → (left ≡ 0 → ⊥) → t ≡ struck_top t
  top-kept t l ne = rw (some-set left (omega (arith, left-is)) ne)

-- and the top of an index whose top was exact: it loses the number's power, or stays
module _ {x : List ℕ} {t : ℕ} (w : ℕ) (e : Exact x t) (h : w < words) (n : is_noted x w ≡ true) where
  top-has : has_bit t (w / 64) ≡ true
  top-has = e.tells (w / 64) (omega arith) ∙ noted-some x w n

  pub top_within : (1 * 2 ^ (w / 64)) % 2 ^ 64 ≤ t
  top_within = rw (one_shifted 64 (w / 64) (omega arith)) (power-within t (w / 64) top-has)

  pub top-off : left x w n ≡ 0 → t - (1 * 2 ^ (w / 64)) % 2 ^ 64 ≡ with_bit t (w / 64) (is_some (set x (w / 64) (rest x w n)) (w / 64))
  top-off z = rw (zero-none (left x w n) z, one_shifted 64 (w / 64) (omega arith)) (power-off t (w / 64) top-has)

  pub top-struck : struck_top x w n t ≡ with_bit t (w / 64) (is_some (set x (w / 64) (rest x w n)) (w / 64))
  top-struck = by (is_some (set x (w / 64) (rest x w n)) (w / 64))
    where
      by : (b : Bool) → cond b t (with_bit t (w / 64) false) ≡ with_bit t (w / 64) b
      by true = rw (← top-has) (sym (with_bit-has_bit t (w / 64)))
      by false = refl

  pub top-stays : get_or x (w / 64) 0 < 2 ^ 64 → (left x w n ≡ 0 → ⊥) → t ≡ with_bit t (w / 64) (is_some (set x (w / 64) (rest x w n)) (w / 64))
  top-stays l ne = top-kept x w n t l ne ∙ top-struck

  after : Exact (set x (w / 64) (rest x w n)) (with_bit t (w / 64) (is_some (set x (w / 64) (rest x w n)) (w / 64)))
  after = rw (struck x w n) (noting-exact x w false (omega (arith, e.long)) e)

  -- so it is exact
  pub struck-last : left x w n ≡ 0 → Exact (set x (w / 64) (rest x w n)) (t - (1 * 2 ^ (w / 64)) % 2 ^ 64)
  struck-last z = rw (top-off z) after

  pub struck-more : get_or x (w / 64) 0 < 2 ^ 64 → (left x w n ≡ 0 → ⊥) → Exact (set x (w / 64) (rest x w n)) t
  struck-more l ne = subst (λ (u : ℕ). Exact (set x (w / 64) (rest x w n)) u) (sym (top-stays l ne)) after

-- 0 is the top of an index that notes no word
pub top-none : {x : List ℕ} {t : ℕ} → Exact x t → t ≡ 0 → (w : ℕ) → w < parts * 64 → is_noted x w ≡ false
top-none {x} e z w h = empty-noted x w (sym (e.tells (w / 64) (omega arith)) ∙ rw z (has_bit-none (w / 64)))

-- an index of zeros
module _ (x : List ℕ) (zeros : (i : ℕ) → get_or x i 0 ≡ 0) where
  pub none-noted : (w : ℕ) → is_noted x w ≡ false
  none-noted w = rw (zeros (w / 64)) (has_bit-none (w % 64))

  pub exact_none : length x ≡ parts → Exact x 0
  exact_none e = record { long = e; tells = λ k l. has_bit-none k ∙ sym (zero-none (get_or x k 0) (zeros k)) }

-- any numbers of the index's length have an exact top
pub exact_packed : (x : List ℕ) → length x ≡ parts → Exact x (packed 64 (is_some x))
exact_packed x e = record { long = e; tells = λ k l. packed-bits 64 (is_some x) k l }
