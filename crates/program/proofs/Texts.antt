-- The texts of answers by their cases. Assumes nothing.
use Prim.Native.Nat.{ℕ, zero, suc, ◌<◌}
use mathlib.Core.Path.{◌≡◌, refl}
use mathlib.Core.Option.{Option, none}
use mathlib.Core.List.{◌++◌}
use native.Mathlib.Omega.{arith}
use borrow.Author.Tests.{ne_eqb}
use Rattle.program.specs.Text.{refused_text, done_text, holder_text, hops_text, found_text}

pub done_refused : (n : ℕ) → 0 < n → done_text n ≡ refused_text n
unfolding done_text
done_refused zero h = absurd (omega arith)
done_refused (suc n) h = refl

pub found-refused : (n : ℕ) → 0 < n → found_text (record { refused = n; holder = none; hops = 0 }) ≡ refused_text n
unfolding found_text
found-refused n h = let e : n ≡ 0 → ⊥ = λ q. omega arith in rw (ne_eqb n 0 e)

pub found-hops : (o : Option ℕ) (h : ℕ) → found_text (record { refused = 0; holder = o; hops = h }) ≡ holder_text o ++ hops_text h
unfolding found_text
found-hops o h = refl
