-- A number in two digits of any radix n: q * n + r with r < n. Assumes nothing.
use Prim.Native.Nat.{ℕ, zero, suc, ◌+◌, ◌*◌, ◌/◌, ◌%◌, ◌<◌}
use mathlib.Core.Path.{◌≡◌, ◌∙◌, ap}
use native.Mathlib.Omega.{arith}
use native.Mathlib.Nat.{div-add-mod', mod-lt, div-lt_iff_lt-mul, mul-add-div_right, mul-add-mod_self_right, mod-eq_of_lt, div-eq_of_lt}
use native.Mathlib.Nat.{mul-le-mul_right, suc-mul, mul-zero}

module _ {n r : ℕ} (q : ℕ) (l : r < n) where
  pub high_digit : (q * n + r) / n ≡ q
  high_digit = mul-add-div_right {m = n} (omega arith) q r ∙ ap (λ (v : ℕ). q + v) (div-eq_of_lt l) ∙ omega arith

  pub low_digit : (q * n + r) % n ≡ r
  low_digit = mul-add-mod_self_right q n r ∙ mod-eq_of_lt l

pub digits_lt : {n r q Q : ℕ} → q < Q → r < n → q * n + r < Q * n
digits_lt {n} {r} {q} {Q} h l = omega (arith, suc-mul q n, mul-le-mul_right n h)

-- a smaller high digit decides, whatever the other's low digit
pub digits_up : {n r q Q : ℕ} (s : ℕ) → q < Q → r < n → q * n + r < Q * n + s
digits_up s h l = omega (arith, digits_lt h l)

pub digits_of : (n Q i : ℕ) → i < Q * n → (i / n < Q) × (i % n < n) × (i / n * n + i % n ≡ i)
digits_of zero Q i l = absurd (omega (arith, mul-zero Q))
digits_of (suc n) Q i l = ((div-lt_iff_lt-mul {k = suc n} (omega arith)).1 l, mod-lt i (omega arith), div-add-mod' i (suc n))
