-- `messages::next::digits_from` meets its contract. Assumes nothing.
use Prim.Native.Nat.{ℕ, ◌*◌, ◌≤◌}
use native.Mathlib.Nat.{mul-le-mul}
use Rattle.protocol.specs.inner.PlaceFrom.{digits_from}
use Rattle.record.specs.Layout.{levels}
use Rattle.messages.proofs.next.digits_from.Goals as goal

-- how many levels and sides there are
steps : (bound sides : ℕ) → bound ≤ levels → sides ≤ 2 → bound * sides ≤ levels * 2
steps bound sides a b = mul-le-mul a b

pub returns : goal.returns
unfolding digits_from
returns c =
    (rw (c.below.ensures.0, c.below-in_to.ensures.0, c.below-in_about.ensures.0, c.below-in_level.ensures.0), c.below.ensures.1)
