-- Numbers of two digits in order: the first digit decides, and where it is equal the rest; for `below` of specs/inner/PlaceFrom.antt, whose first
-- digit may be any number. Assumes nothing.
use Prim.Native.Nat.{ℕ, ◌+◌, ◌*◌, ◌≤◌, ◌<◌}
use mathlib.Core.Path.{◌≡◌, sym, ◌∙◌, ap}
use mathlib.Core.Logic.{⊎_elim}
use mathlib.Core.Bool.{Bool, true, false}
use native.Mathlib.Omega.{arith}
use native.Mathlib.Decide.{dec_lt}
use native.Mathlib.Nat.{mul-le-mul_right, suc-mul}
use lib.Dec.{ltb}
use borrow.Author.Tests.{eq-eqb, ne_eqb, lt-ltb, le-ltb}
use Rattle.base.proofs.Cases.{lt-or-ge}
use Rattle.protocol.specs.Order.{or_next}
use Rattle.protocol.specs.inner.PlaceFrom.{below}
use Rattle.protocol.proofs.Digits.{digits_lt}

-- two numbers: the first is smaller, the second is, or they are equal
pub compared : {A : Type 0} (a b : ℕ) → (a < b → A) → (b < a → A) → (a ≡ b → A) → A
compared {A} a b f g h = by (dec_lt a b) (dec_lt b a)
  where
    by : Dec (a < b) → Dec (b < a) → A
    by (yes l) _ = f l
    by (no l) (yes k) = g k
    by (no l) (no k) = h (omega arith)

pub or-next-lt : {a b : ℕ} (x : Bool) → a < b → or_next a b x ≡ true
unfolding or_next
or-next-lt {a} {b} x h = rw (lt-ltb a b h)

pub or-next-gt : {a b : ℕ} (x : Bool) → b < a → or_next a b x ≡ false
unfolding or_next
or-next-gt {a} {b} x h = rw (le-ltb a b (omega arith), ne_eqb a b (omega arith))

pub or-next-eq : {a b : ℕ} (x : Bool) → a ≡ b → or_next a b x ≡ x
unfolding or_next
or-next-eq {a} {b} x h = rw (le-ltb a b (omega arith), eq-eqb a b h)

pub ltb-add : (d a b : ℕ) → ltb (d + a) (d + b) ≡ ltb a b
ltb-add d a b = ⊎_elim
    (λ h. lt-ltb (d + a) (d + b) (omega arith) ∙ sym (lt-ltb a b h))
    (λ h. le-ltb (d + a) (d + b) (omega arith) ∙ sym (le-ltb a b h))
    (lt-or-ge a b)

-- a number below the bound stays, any other gives the bound
pub below_in : (x bound size rest : ℕ) → x < bound → below x bound size rest ≡ x * size + rest
unfolding below
below_in x bound size rest h = rw (lt-ltb x bound h)

below_out : (x bound size rest : ℕ) → bound ≤ x → below x bound size rest ≡ bound * size
unfolding below
below_out x bound size rest h = rw (le-ltb x bound h)

pub below-le : (x bound : ℕ) {size rest : ℕ} → rest ≤ size → below x bound size rest ≤ bound * size
below-le x bound {size} {rest} s = ⊎_elim
    (λ h. rw (below_in x bound size rest h) (omega (arith, suc-mul x size, mul-le-mul_right size h)))
    (λ h. rw (below_out x bound size rest h) (omega arith))
    (lt-or-ge x bound)

-- the first digit decides, and where it is equal the rest
pub below-order : {y bound size r s : ℕ} (x : ℕ) → y < bound → r < size → s ≤ size
    → ltb (y * size + r) (below x bound size s) ≡ or_next y x (ltb r s)
below-order {y} {bound} {size} {r} {s} x h l g = compared y x smaller larger equal
  where
    smaller : y < x → ltb (y * size + r) (below x bound size s) ≡ or_next y x (ltb r s)
    smaller a =
        let all : y * size + r < below x bound size s = ⊎_elim
        (λ b. rw (below_in x bound size s b) (omega (arith, digits_lt {n = size} {r = r} a l)))
        (λ b. rw (below_out x bound size s b) (digits_lt {n = size} {r = r} h l))
        (lt-or-ge x bound) in
        lt-ltb (y * size + r) (below x bound size s) all ∙ sym (or-next-lt (ltb r s) a)

    larger : x < y → ltb (y * size + r) (below x bound size s) ≡ or_next y x (ltb r s)
    larger a =
        rw (below_in x bound size s (omega arith), or-next-gt (ltb r s) a)
        (le-ltb (y * size + r) (x * size + s) (omega (arith, suc-mul x size, mul-le-mul_right size a)))

    equal : y ≡ x → ltb (y * size + r) (below x bound size s) ≡ or_next y x (ltb r s)
    equal a = rw (or-next-eq (ltb r s) a, below_in x bound size s (omega arith), a) (ltb-add (x * size) r s)

-- the last digit has no rest
pub below_last : {y bound : ℕ} (x : ℕ) → y < bound → ltb y (below x bound 1 0) ≡ ltb y x
below_last {y} {bound} x h = ⊎_elim
    (λ b. ap (ltb y) (below_in x bound 1 0 b ∙ omega arith))
    (λ b. rw (below_out x bound 1 0 b) (lt-ltb y (bound * 1) (omega arith) ∙ sym (lt-ltb y x (omega arith))))
    (lt-or-ge x bound)
