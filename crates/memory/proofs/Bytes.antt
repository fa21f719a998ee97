-- Numbers in bytes: what reading gives after writing, at the same place and at others, and that bytes stay bytes. Assumes nothing.
use Prim.Native.Nat.{ℕ, zero, suc, ◌+◌, ◌/◌, ◌%◌, ◌^◌, ◌≤◌, ◌<◌}
use mathlib.Core.Path.{◌≡◌, refl, ap, ◌∙◌}
use mathlib.Core.Logic.{◌⊎◌, ⊎_elim, inl, inr}
use mathlib.Core.List.{List}
use native.Mathlib.Omega.{arith}
use native.Mathlib.Nat.{pow-suc}
use lib.ListN.{length, get_or, set, length-set}
use lib.Seq.{get_or-set_same, get_or-set_other, set_out}
use Rattle.memory.specs.Bytes.{AreBytes, number_at, put_number}
use Rattle.base.proofs.Cases.{lt-or-ge, eq-or-ne}

pub number_at-lt : (l : List ℕ) (a n : ℕ) → AreBytes l → number_at l a n < 256 ^ n
unfolding number_at
number_at-lt l a zero b = omega arith
number_at-lt l a (suc n) b = omega (arith, number_at-lt l a n b, b (a + n), pow-suc 256 n)

-- a number of one byte, read and written
pub number_at-one : (l : List ℕ) (a : ℕ) → number_at l a 1 ≡ get_or l a 0
unfolding number_at
number_at-one l a = let e : a + 0 ≡ a = omega arith in rw e (omega arith)

pub put_number-one : (l : List ℕ) (a v : ℕ) → v < 256 → put_number l a 1 v ≡ set l a v
unfolding put_number
put_number-one l a v h = let e : v % 256 ≡ v = omega arith in let f : a + 0 ≡ a = omega arith in rw (e, f)

-- a number is of its own bytes alone
pub number_at-agrees : (l m : List ℕ) (a n : ℕ) → ((j : ℕ) → j < n → get_or l (a + j) 0 ≡ get_or m (a + j) 0) → number_at l a n ≡ number_at m a n
unfolding number_at
number_at-agrees l m a zero h = refl
number_at-agrees l m a (suc n) h =
    let x = number_at-agrees l m a n (λ j p. h j (omega arith)) in
    let y = h n (omega arith) in
    cc

pub length-put_number : (l : List ℕ) (a n v : ℕ) → length (put_number l a n v) ≡ length l
unfolding put_number
length-put_number l a zero v = refl
length-put_number l a (suc n) v = rw length-set (length-put_number l a n (v / 256))

-- writing leaves the bytes before and after
pub get_d-put_number-other : (l : List ℕ) (a n v j : ℕ) → (j < a) ⊎ (a + n ≤ j) → get_or (put_number l a n v) j 0 ≡ get_or l j 0
unfolding put_number
get_d-put_number-other l a zero v j h = refl
get_d-put_number-other l a (suc n) v j h =
    get_or-set_other (put_number l a n (v / 256)) (a + n) j (v % 256) 0 (λ e. ⊎_elim (λ p. omega arith) (λ p. omega arith) h)
    ∙ get_d-put_number-other l a n (v / 256) j (⊎_elim (λ p. inl p) (λ p. inr (omega arith)) h)

-- reading what was written
pub number_at-put_number : (l : List ℕ) (a n v : ℕ) → a + n ≤ length l → v < 256 ^ n → number_at (put_number l a n v) a n ≡ v
unfolding number_at put_number
number_at-put_number l a zero v h k = omega arith
number_at-put_number l a (suc n) v h k =
    let q = pow-suc 256 n in
    let m = put_number l a n (v / 256) in
    let x = number_at-put_number l a n (v / 256) (omega arith) (omega arith) in
    let y = get_or-set_same m (a + n) (v % 256) 0 (rw length-put_number (omega arith)) in
    let z = number_at-agrees (set m (a + n) (v % 256)) m a n (λ j p. get_or-set_other m (a + n) (a + j) (v % 256) 0 (λ e. omega arith)) in
    omega arith

-- reading beside what was written
pub number_at-put_number-other : (l : List ℕ) (a n v b m : ℕ) → (b + m ≤ a) ⊎ (a + n ≤ b) → number_at (put_number l a n v) b m ≡ number_at l b m
number_at-put_number-other l a n v b m h =
    number_at-agrees (put_number l a n v) l b m
    (λ j p. get_d-put_number-other l a n v (b + j) (⊎_elim (λ q. inl (omega arith)) (λ q. inr (omega arith)) h))

-- reading beside a byte that was set
pub number_at-set-other : (l : List ℕ) (i v b m : ℕ) → (b + m ≤ i) ⊎ (i < b) → number_at (set l i v) b m ≡ number_at l b m
number_at-set-other l i v b m h =
    number_at-agrees (set l i v) l b m (λ j p. get_or-set_other l i (b + j) v 0 (λ e. ⊎_elim (λ q. omega arith) (λ q. omega arith) h))

pub bytes-set : (l : List ℕ) (i v : ℕ) → AreBytes l → v < 256 → AreBytes (set l i v)
bytes-set l i v b h j = ⊎_elim
    (λ e. ⊎_elim
    (λ p. omega (arith, ap (λ (k : ℕ). get_or (set l i v) k 0) e ∙ get_or-set_same l i v 0 p))
    (λ p. omega (arith, b j, ap (λ (m : List ℕ). get_or m j 0) (set_out l i v p)))
    (lt-or-ge i (length l)))
    (λ ne. omega (arith, b j, get_or-set_other l i j v 0 ne))
    (eq-or-ne j i)

pub bytes-put_number : (l : List ℕ) (a n v : ℕ) → AreBytes l → AreBytes (put_number l a n v)
unfolding put_number
bytes-put_number l a zero v b = b
bytes-put_number l a (suc n) v b = bytes-set (put_number l a n (v / 256)) (a + n) (v % 256) (bytes-put_number l a n (v / 256) b) (omega arith)
