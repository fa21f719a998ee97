-- A state, number and vector written on a seat: three fields are put; with them no links, as a join, reserving and giving back leave it. The meaning is
-- any. Assumes nothing.
use Prim.Native.Nat.{ℕ, ◌<◌}
use mathlib.Core.Path.{◌≡◌, refl, ap, ◌∙◌}
use mathlib.Core.Logic.{⊎_elim}
use mathlib.Core.Option.{none}
use mathlib.Core.List.{List}
use borrow.Author.Tests.{eq-eqb, ne_eqb}
use Rattle.memory.specs.Bytes.{put_number}
use Rattle.base.proofs.Cases.{eq-or-ne}
use Rattle.graph.specs.Side.{Side}
use Rattle.protocol.specs.Rules.{SeatState}
use Rattle.protocol.specs.State.{Meaning}
use Rattle.protocol.specs.Page.{seating, without_links}
use Rattle.record.specs.Layout.{seats, levels, number_size, vector_size, number_from, vector_from}
use Rattle.record.specs.Meaning.{state_byte, bytes_of}
use Rattle.record.specs.inner.Entry.{filled}
use Rattle.record.proofs.Frame.{same-links, bytes_same}
use Rattle.record.proofs.Update.{with_state, with_number, with_vector, bytes-with_state, bytes-with_number, bytes-with_vector}

-- the entry of seat s with another state, number and vector, and without links
abbrev pub with_lot : Meaning → (s : ℕ) → SeatState → (n v : ℕ) → Meaning
with_lot M s st n v = record { seats = seating s st n v M.seats; link = without_links s M.link; pending = M.pending }

module _ (M : Meaning) (s : ℕ) (st : SeatState) (n v : ℕ) (h : s < seats) where
  -- the three fields
  pub bytes-filled : bytes_of (with_vector (with_number (with_state M s st) s n) s v) ≡ filled (bytes_of M) s (state_byte st) n v
  bytes-filled =
      bytes-with_vector (with_number (with_state M s st) s n) s v h
      ∙ ap (λ (l : List ℕ). put_number l (vector_from s) vector_size v) (bytes-with_number (with_state M s st) s n h
      ∙ ap (λ (l : List ℕ). put_number l (number_from s) number_size n) (bytes-with_state M s st h))

  -- they are all that changes where there were no links
  pub bytes-with_lot-unlinked : ((k : ℕ) (d : Side) → k < levels → M.link s k d ≡ none)
      → bytes_of (with_lot M s st n v) ≡ filled (bytes_of M) s (state_byte st) n v
  bytes-with_lot-unlinked u = bytes_same (same-links refl refl same) ∙ bytes-filled
    where
      same : (x k : ℕ) (d : Side) → x < seats → k < levels → (with_lot M s st n v).link x k d ≡ M.link x k d
      same x k d p g = ⊎_elim (λ e. rw (eq-eqb x s e, e, u k d g)) (λ e. rw (ne_eqb x s e)) (eq-or-ne x s)
