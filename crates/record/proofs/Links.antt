-- Links of the meaning, from their bytes: which seat they name, and that they name one. Assumes nothing.
use Prim.Native.Nat.{ℕ, ◌≤◌, ◌<◌}
use mathlib.Core.Path.{◌≡◌, sym, ap, ◌∙◌}
use mathlib.Core.Logic.{⊎_elim}
use mathlib.Core.Option.{none, some}
use mathlib.Core.List.{List}
use native.Mathlib.Omega.{arith}
use lib.ListN.{get_or}
use borrow.Author.Tests.{lt-ltb, le-ltb}
use Rattle.base.proofs.Cases.{lt-or-ge}
use Rattle.base.proofs.Tests.{some_inj, none-some}
use Rattle.graph.specs.Side.{Side}
use Rattle.record.specs.Layout.{seats, levels, link_at}
use Rattle.record.specs.Meaning.{link_of, meaning}
use Rattle.record.proofs.Values.{NamesSeat}
use Rattle.record.proofs.Form.{meaning-link, no-seat-link, no-level-link}

-- a link's byte
pub link_of-some : (y : ℕ) → y < seats → link_of y ≡ some y
unfolding link_of
link_of-some y q = rw (lt-ltb y seats q)

pub link_of-none : (y : ℕ) → seats ≤ y → link_of y ≡ none
unfolding link_of
link_of-none y q = rw (le-ltb y seats q)

-- y is the byte of a link
pub link-read : (l : List ℕ) (s k : ℕ) (d : Side) (y : ℕ) → s < seats → k < levels → y ≡ get_or l (link_at s k d) 0
    → (meaning l).link s k d ≡ link_of y
link-read l s k d y h g e = meaning-link l s k d h g ∙ ap link_of (sym e)

-- a byte that is a link names a seat, and is it
pub link_of-seat : (b y : ℕ) → link_of b ≡ some y → (y < seats) × (b ≡ y)
link_of-seat b y e = ⊎_elim (λ h. seat h) (λ h. none-some (link_of-none b h) e) (lt-or-ge b seats)
  where
    seat : b < seats → (y < seats) × (b ≡ y)
    seat h = let q = some_inj (sym (link_of-some b h) ∙ e) in (omega (arith, h, q), q)

-- so each link of any bytes names a seat
pub names-seat : (l : List ℕ) (s k : ℕ) (d : Side) → NamesSeat ((meaning l).link s k d)
names-seat l s k d y e = ⊎_elim (λ h. level h) (λ h. none-some (no-seat-link l s k d h) e) (lt-or-ge s seats)
  where
    level : s < seats → y < seats
    level h =
        ⊎_elim (λ g. (link_of-seat (get_or l (link_at s k d) 0) y (sym (meaning-link l s k d h g) ∙ e)).0)
        (λ g. none-some (no-level-link l s k d g) e)
        (lt-or-ge k levels)
