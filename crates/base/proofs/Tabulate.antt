-- Lists by their elements. Assumes nothing.
use Prim.Native.Nat.{ℕ, zero, suc, ◌+◌, ◌<◌}
use mathlib.Core.Path.{◌≡◌, refl, sym, ap, ◌∙◌}
use mathlib.Core.List.{List}
use native.Mathlib.Omega.{arith}
use native.Mathlib.Nat.{add-zero}
use lib.ListN.{length, get_or}
use lib.Seq.{ext_get_or}
use Rattle.base.specs.Loops.{tabulate_from, tabulate}

length_from : (n a : ℕ) (f : ℕ → ℕ) → length (tabulate_from n a f) ≡ n
unfolding tabulate_from
length_from zero a f = refl
length_from (suc n) a f = ap suc (length_from n (a + 1) f)

get_d-from : (n a : ℕ) (f : ℕ → ℕ) (i : ℕ) → i < n → get_or (tabulate_from n a f) i 0 ≡ f (a + i)
unfolding tabulate_from
get_d-from zero a f i h = absurd (omega arith)
get_d-from (suc n) a f zero h = rw add-zero
get_d-from (suc n) a f (suc i) h = get_d-from n (a + 1) f i (omega arith) ∙ ap f (omega arith)

pub length-tabulate : (n : ℕ) (f : ℕ → ℕ) → length (tabulate n f) ≡ n
length-tabulate n f = length_from n 0 f

pub get_d_tabulate : (n : ℕ) (f : ℕ → ℕ) (i : ℕ) → i < n → get_or (tabulate n f) i 0 ≡ f i
get_d_tabulate n f i h = get_d-from n 0 f i h ∙ ap f (omega arith)

-- a list of these elements
pub tabulate-is : (n : ℕ) (f : ℕ → ℕ) (l : List ℕ) → length l ≡ n → ((i : ℕ) → i < n → f i ≡ get_or l i 0) → tabulate n f ≡ l
tabulate-is n f l e h =
    ext_get_or 0 (tabulate n f) l (length-tabulate n f ∙ sym e)
    (λ i p. let q : i < n = omega (arith, length-tabulate n f) in get_d_tabulate n f i q ∙ h i q)

pub tabulate-same : (n : ℕ) (f g : ℕ → ℕ) → ((i : ℕ) → i < n → f i ≡ g i) → tabulate n f ≡ tabulate n g
tabulate-same n f g h = tabulate-is n f (tabulate n g) (length-tabulate n g) (λ i l. h i l ∙ sym (get_d_tabulate n g i l))
