-- The bytes of a number: what writing stores, and that the bytes of a number that was read are the bytes there. Assumes nothing.
use Prim.Native.Nat.{ℕ, zero, suc, ◌+◌, ◌-◌, ◌*◌, ◌/◌, ◌%◌, ◌^◌, ◌≤◌, ◌<◌}
use mathlib.Core.Path.{◌≡◌, refl, sym, ap, ◌∙◌}
use mathlib.Core.Logic.{⊎_elim, inl, inr}
use mathlib.Core.List.{List}
use native.Mathlib.Omega.{arith}
use native.Mathlib.Nat.{mul-suc, mul_comm, zero-div, pow-suc, div-div-eq-div-mul}
use lib.ListN.{length, get_or}
use lib.Pow.{pow-add}
use lib.Seq.{get_or-set_same, get_or-set_other, ext_get_or}
use Rattle.memory.specs.Bytes.{AreBytes, number_at, put_number, digit}
use Rattle.base.proofs.Cases.{lt-or-ge}
use Rattle.memory.proofs.Bytes.{length-put_number, get_d-put_number-other}

pub digit_lt : (n v j : ℕ) → digit n v j < 256
unfolding digit
digit_lt n v j = omega arith

-- the bytes of 0
pub digit-zero : (n j : ℕ) → digit n 0 j ≡ 0
unfolding digit
digit-zero n j = rw zero-div

-- the last byte, and those before it
pub digit-last : (n v : ℕ) → digit (suc n) v n ≡ v % 256
unfolding digit
digit-last n v = let e : suc n - suc n ≡ 0 = omega arith in rw e (omega arith)

pub digit-before : (n v j : ℕ) → j < n → digit (suc n) v j ≡ digit n (v / 256) j
unfolding digit
digit-before n v j h =
    let e : suc n - suc j ≡ suc (n - suc j) = omega arith in
    rw (e, pow-suc, mul_comm (256 ^ (n - suc j)) 256) (ap (λ (x : ℕ). x % 256) (sym (div-div-eq-div-mul v 256 (256 ^ (n - suc j)))))

-- a power of bytes, by its bits
pub pow-bytes : (m : ℕ) → 2 ^ (8 * m) ≡ 256 ^ m
pow-bytes zero = refl
pow-bytes (suc m) = rw (mul-suc, pow-add, pow-bytes m) (sym (pow-suc 256 m))

-- a number that was written is its digits
pub get_d-put_number : (l : List ℕ) (a n v j : ℕ) → a + n ≤ length l → j < n → get_or (put_number l a n v) (a + j) 0 ≡ digit n v j
unfolding put_number
get_d-put_number l a zero v j h k = absurd (omega arith)
get_d-put_number l a (suc n) v j h k =
    let m = put_number l a n (v / 256) in
    ⊎_elim
    (λ (p : j < n).
    get_or-set_other m (a + n) (a + j) (v % 256) 0 (λ e. omega arith)
    ∙ get_d-put_number l a n (v / 256) j (omega arith) p
    ∙ sym (digit-before n v j p))
    (λ (p : n ≤ j).
    let e : j ≡ n = omega arith in
    rw e (get_or-set_same m (a + n) (v % 256) 0 (rw length-put_number (omega arith)) ∙ sym (digit-last n v)))
    (lt-or-ge j n)

-- bytes that are the digits of a number are that number
pub number_at-digits : (l : List ℕ) (a n v : ℕ) → v < 256 ^ n → ((j : ℕ) → j < n → get_or l (a + j) 0 ≡ digit n v j) → number_at l a n ≡ v
unfolding number_at
number_at-digits l a zero v k h = omega arith
number_at-digits l a (suc n) v k h =
    let q = pow-suc 256 n in
    let x = number_at-digits l a n (v / 256) (omega arith) (λ j p. h j (omega arith) ∙ digit-before n v j p) in
    let y = h n (omega arith) ∙ digit-last n v in
    omega arith

-- the digits of a number that was read are its bytes
pub digit-number_at : (l : List ℕ) (a n j : ℕ) → AreBytes l → j < n → digit n (number_at l a n) j ≡ get_or l (a + j) 0
unfolding number_at
digit-number_at l a zero j b h = absurd (omega arith)
digit-number_at l a (suc n) j b h =
    let x = number_at l a n in
    let y = get_or l (a + n) 0 in
    let w : y < 256 = b (a + n) in
    let e : (x * 256 + y) / 256 ≡ x = omega arith in
    ⊎_elim
    (λ p. digit-before n (x * 256 + y) j p ∙ ap (λ (z : ℕ). digit n z j) e ∙ digit-number_at l a n j b p)
    (λ p. let f : j ≡ n = omega arith in rw f (digit-last n (x * 256 + y) ∙ omega arith))
    (lt-or-ge j n)

-- writing the number that is there changes nothing
pub put_number-number_at : (l : List ℕ) (a n : ℕ) → AreBytes l → a + n ≤ length l → put_number l a n (number_at l a n) ≡ l
put_number-number_at l a n b h = ext_get_or 0 (put_number l a n v) l (length-put_number l a n v)
    (λ i p. ⊎_elim
    (λ q. get_d-put_number-other l a n v i (inl q))
    (λ q. ⊎_elim (λ r. within i q r) (λ r. get_d-put_number-other l a n v i (inr r)) (lt-or-ge i (a + n)))
    (lt-or-ge i a))
  where
    v : ℕ
    v = number_at l a n

    within : (i : ℕ) → a ≤ i → i < a + n → get_or (put_number l a n v) i 0 ≡ get_or l i 0
    within i q r =
        let e : a + (i - a) ≡ i = omega arith in
        rw e at (get_d-put_number l a n v (i - a) h (omega arith) ∙ digit-number_at l a n (i - a) b (omega arith))
