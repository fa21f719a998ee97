-- The bytes that open writes are those of docs/RECORD.md and no others, and they are sound. Assumes nothing.
use Prim.Native.Nat.{ℕ}
use mathlib.Core.Path.{◌≡◌, refl, sym, subst}
use mathlib.Core.Logic.{◌↔◌}
use mathlib.Core.Bool.{true}
use mathlib.Core.List.{List}
use Rattle.memory.specs.Bits.{packed}
use Rattle.graph.specs.Vector.{width}
use Rattle.protocol.specs.State.{nobody, opened}
use Rattle.protocol.proofs.KeepSound.{opened-sound}
use Rattle.record.specs.Layout.{seats}
use Rattle.record.specs.Cell.{Cell, phase_cell, state_cell, number_cell, vector_cell, link_cell, pending_cell}
use Rattle.record.specs.inner.Cell.{Holds}
use Rattle.record.specs.Meaning.{meaning, value_of, bytes_of}
use Rattle.record.specs.Sound.{sound}
use Rattle.record.specs.inner.Opened.{opened_value, IsOpened}
use Rattle.record.proofs.Places.{length-bytes_of}
use Rattle.record.proofs.Cells.{bytes-hold}
use Rattle.record.proofs.Frame.{bytes-are}
use Rattle.record.proofs.Round.{meaning-bytes}
use Rattle.record.proofs.Sound.{bytes-sound}

opened-value : (c : Cell) → value_of opened c ≡ opened_value c
unfolding opened nobody packed
opened-value phase_cell = refl
opened-value (state_cell s) = refl
opened-value (number_cell s) = refl
opened-value (vector_cell s) = refl
opened-value (link_cell s k d) = refl
opened-value (pending_cell b) = refl

opened-is : IsOpened (bytes_of opened)
opened-is = record {
  sized = length-bytes_of opened;
  cells = λ c p. subst (λ (v : ℕ). Holds (bytes_of opened) c v) (opened-value c) (bytes-hold opened c p);
}

is-opened : {l : List ℕ} → IsOpened l → bytes_of opened ≡ l
is-opened {l} o = bytes-are opened o.sized (λ c p. subst (λ (v : ℕ). Holds l c v) (sym (opened-value c)) (o.cells c p))

-- exactly those bytes
pub opened-bytes : (l : List ℕ) → (l ≡ bytes_of opened) ↔ IsOpened l
opened-bytes l = (λ e. subst (λ (m : List ℕ). IsOpened m) (sym e) opened-is, λ o. sym (is-opened o))

pub opened-bytes-sound : sound (bytes_of opened) ≡ true
opened-bytes-sound = bytes-sound (opened-sound seats width)

pub meaning-opened : meaning (bytes_of opened) ≡ opened
meaning-opened = meaning-bytes (opened-sound seats width)
