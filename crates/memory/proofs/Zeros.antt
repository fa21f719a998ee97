-- Bytes that are all 0: an array made of zeros, and the number in the bytes. Assumes nothing.
use Prim.Native.Nat.{ℕ, zero, suc, ◌+◌, ◌*◌}
use mathlib.Core.Path.{◌≡◌, refl, ap, ◌∙◌}
use mathlib.Core.Bool.{Bool, ◌&&◌}
use mathlib.Core.List.{List}
use native.Mathlib.Omega.{arith}
use lib.Dec.{eqb}
use lib.ListN.{get_or, replicate}
use Rattle.base.specs.Loops.{all}
use Rattle.memory.specs.Bytes.{number_at, is_zero, zeros}
use Rattle.base.proofs.Cases.{eqb-both}

-- an array made of zeros
pub replicate-zero : (n i : ℕ) → get_or {A = ℕ} (replicate n 0) i 0 ≡ 0
replicate-zero zero i = refl
replicate-zero (suc n) zero = refl
replicate-zero (suc n) (suc i) = replicate-zero n i

-- a number is 0 exactly if its bytes are
pub number-zero : (l : List ℕ) (a n : ℕ) → eqb (number_at l a n) 0 ≡ zeros l a n
unfolding number_at all
number-zero l a zero = refl
number-zero l a (suc n) =
    let x = number_at l a n in
    let y = get_or l (a + n) 0 in
    eqb-both (x * 256 + y) 0 x 0 y 0 (λ e. (omega arith, omega arith)) (λ e f. omega arith)
    ∙ ap (λ (t : Bool). t && is_zero l (a + n)) (number-zero l a n)
