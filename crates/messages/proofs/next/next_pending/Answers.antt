-- `messages::next::next_pending` meets its contract: the first pending place, from the first on whose message does not come before the
-- numbers. Assumes nothing.
use Prim.Native.Nat.{ℕ, ◌<◌}
use mathlib.Core.Path.{◌≡◌, sym, ap, ◌∙◌}
use mathlib.Core.Option.{none, some}
use mathlib.Core.List.{List}
use Rattle.graph.specs.Vector.{width}
use Rattle.protocol.specs.Message.{Name}
use Rattle.protocol.specs.Numbering.{message_at}
use Rattle.protocol.specs.Order.{smallest_from, name_or_zeros}
use Rattle.protocol.specs.inner.PlaceFrom.{place_from}
use Rattle.record.specs.Layout.{seats, messages}
use Rattle.record.specs.Meaning.{meaning}
use Rattle.messages.specs.inner.Numbers.{first_pending}
use Rattle.messages.proofs.First.{first-pending-smallest, none-pending-from}
use Rattle.messages.proofs.next.next_pending.Goals as goal

-- the first place from the one on that the search began at
module _ (l : List ℕ) (n : Name) {from : ℕ} (e : from ≡ place_from seats width n) where
  same-first : first_pending l from ≡ first_pending l (place_from seats width n)
  same-first = ap (first_pending l) e

  none-at : first_pending l from ≡ messages → smallest_from seats width (meaning l).pending n ≡ none
  none-at h = none-pending-from l n (sym same-first ∙ h)

  smallest-at : {i : ℕ} → i ≡ first_pending l from → i < messages → smallest_from seats width (meaning l).pending n ≡ some (message_at seats width i)
  smallest-at f h = rw (f ∙ same-first) (first-pending-smallest l n (rw (← (f ∙ same-first)) h))

pub returns-in_err-first_pending : goal.returns-in_err-first_pending
returns-in_err-first_pending c = rw c.from_residual.ensures (none-at _ _ c.place_from-first.ensures.0 c.in_err-first_pending.ensures)

pub returns : goal.returns
unfolding name_or_zeros
returns c =
    let (e, h) = c.in_ok-first_pending.ensures in
    (rw (smallest-at _ _ c.place_from-first.ensures.0 e h) c.message_at.ensures.is_named, c.message_at.ensures.in_range)
