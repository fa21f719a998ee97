-- The first noted word, by the first number that is not 0 and its first set bit. Assumes nothing.
use Prim.Native.Nat.{ℕ, ◌+◌, ◌-◌, ◌*◌, ◌/◌, ◌%◌, ◌≤◌, ◌<◌}
use mathlib.Core.Path.{◌≡◌, sym, ◌∙◌}
use mathlib.Core.Logic.{⊎_elim}
use mathlib.Core.Bool.{true, false}
use mathlib.Core.List.{List}
use native.Mathlib.Omega.{arith}
use lib.ListN.{length, get_or}
use Rattle.std.specs.List.{AllWithin}
use Rattle.base.specs.Loops.{first_from}
use Rattle.base.proofs.Cases.{lt-or-ge}
use Rattle.memory.specs.Bits.{has_bit}
use Rattle.base.proofs.First.{first, first-is}
use Rattle.index.specs.inner.Index.{parts, is_noted, is_some, Exact}
use Rattle.index.proofs.Noted.{zero-none, empty-noted, some-within}

-- word j of number k
noted_in : (x : List ℕ) (k j : ℕ) → j < 64 → is_noted x (k * 64 + j) ≡ has_bit (get_or x k 0) j
noted_in x k j h =
    let d : (k * 64 + j) / 64 ≡ k = omega arith in
    let m : (k * 64 + j) % 64 ≡ j = omega arith in
    rw (d, m)

-- number k is the first that has a set bit
module _ (x : List ℕ) {k : ℕ} (h : k < parts) (none : (j : ℕ) → j < k → is_some x j ≡ false) where
  before : (w : ℕ) → w / 64 < k → is_noted x w ≡ false
  before w l = empty-noted x w (none (w / 64) l)

  pub word-there : {r : ℕ} → r ≡ first_from 64 0 (has_bit (get_or x k 0)) → r < 64
      → k * 64 + r ≡ first_from (parts * 64) 0 (is_noted x)
  word-there {r} er l =
      let f = first 64 0 (has_bit (get_or x k 0)) in
      sym (first-is (parts * 64) 0 (is_noted x) (k * 64 + r) (record {
        low = omega arith;
        high = omega (arith, h);
        before = λ w p q. ⊎_elim (λ g. before w g) (λ g. inside w g q) (lt-or-ge (w / 64) k);
        found = λ g. noted_in x k r l ∙ rw er (f.found (omega arith));
      }))
    where
      inside : (w : ℕ) → k ≤ w / 64 → w < k * 64 + r → is_noted x w ≡ false
      inside w p q =
          let d : w ≡ k * 64 + (w - k * 64) = omega arith in
          rw d (noted_in x k (w - k * 64) (omega arith) ∙ (first 64 0 (has_bit (get_or x k 0))).before (w - k * 64) (omega arith) (omega arith))

-- k is the first set bit of the top
module _ {x : List ℕ} {t k : ℕ} (e : Exact x t) (ek : k ≡ first_from 64 0 (has_bit t)) (h : k < 64) where
  pub number-some : is_some x k ≡ true
  number-some = sym (e.tells k h) ∙ rw ek ((first 64 0 (has_bit t)).found (omega arith))

  pub number-within : k < parts
  number-within = some-within x k e.long number-some

  pub word-found : {r : ℕ} → r ≡ first_from 64 0 (has_bit (get_or x k 0)) → r < 64 → k * 64 + r ≡ first_from (parts * 64) 0 (is_noted x)
  word-found er l = word-there x number-within (λ j p. sym (e.tells j (omega arith)) ∙ (first 64 0 (has_bit t)).before j (omega arith) (omega arith)) er l

-- the numbers up to k are 0
zeros-before : (x : List ℕ) {k : ℕ} → AllWithin (λ n. n ≡ 0) x 0 k → (j : ℕ) → j < k → is_some x j ≡ false
zeros-before x z j l = zero-none (get_or x j 0) (z j 0 (omega arith) l)

-- as a search for the first that is not 0 answers it: there is none, or number k is it
pub none-there : (x : List ℕ) → length x ≡ parts → AllWithin (λ n. n ≡ 0) x 0 (length x) → (w : ℕ) → w < parts * 64 → is_noted x w ≡ false
none-there x e z w h = empty-noted x w (zeros-before x z (w / 64) (omega (arith, e)))

pub first-there : (x : List ℕ) {k r : ℕ} → k < parts → AllWithin (λ n. n ≡ 0) x 0 k → r ≡ first_from 64 0 (has_bit (get_or x k 0)) → r < 64
    → k * 64 + r ≡ first_from (parts * 64) 0 (is_noted x)
first-there x h z er l = word-there x h (zeros-before x z) er l
