-- The message at a place, kind by kind, by the digits of the place in its block (docs/RECORD.md). Assumes nothing.
use Prim.Native.Nat.{ℕ, ◌+◌, ◌-◌, ◌/◌, ◌%◌, ◌≤◌, ◌<◌}
use mathlib.Core.Path.{◌≡◌}
use native.Mathlib.Omega.{arith}
use lib.Dec.{eqb}
use Rattle.graph.specs.Side.{side_of_number}
use Rattle.graph.specs.Vector.{width}
use Rattle.protocol.specs.Message.{Msg, meet, probe, pull, going, seek, found, none_found}
use Rattle.protocol.specs.Numbering.{pairs, pulls, sides, place, message_at}
use Rattle.protocol.proofs.Numbering.{Exists, in_meet, in_probe, in_pull, in_going, in_seek, in_found, in_none_found, in-exists, message_at-place}
use Rattle.record.specs.Layout.{seats, levels, messages}
use Rattle.record.proofs.Places.{side_number-side}
use Rattle.messages.proofs.Named.{bit_number-bit}

-- message m exists and has place i
pub record IsAt (i : ℕ) (m : Msg) : Type 0 where
  pub exists : Exists seats width m
  pub place : place seats width m ≡ i

is_at : {i : ℕ} {m : Msg} → Exists seats width m → place seats width m ≡ i → IsAt i m
is_at x e = record { exists = x; place = e }

pub at_place : {i : ℕ} {m : Msg} → IsAt i m → message_at seats width i ≡ m
at_place {m = m} a = rw (← a.place) (message_at-place seats width m (in-exists seats width a.exists))

-- where the blocks of the kinds after MEET begin
abbrev pub probes_from : ℕ
probes_from = pairs seats width levels

abbrev pub pulls_from : ℕ
pulls_from = probes_from + pairs seats width width

abbrev pub goings_from : ℕ
goings_from = pulls_from + pulls seats width

abbrev pub seeks_from : ℕ
seeks_from = goings_from + sides seats width

abbrev pub founds_from : ℕ
founds_from = seeks_from + pairs seats width levels

abbrev pub nones_from : ℕ
nones_from = founds_from + pairs seats width levels

module _ {i : ℕ} where
  pub meet-at : i < probes_from → IsAt i (meet (i / levels / seats) (i / levels % seats) (i % levels))
  unfolding place
  meet-at h = is_at (in_meet (omega arith) (omega arith) (omega arith)) (omega arith)

  pub probe-at : probes_from ≤ i → i < pulls_from → let j = i - probes_from in IsAt i (probe (j / width / seats) (j / width % seats) (j % width))
  unfolding place
  probe-at l h = is_at (in_probe (omega arith) (omega arith) (omega arith)) (omega arith)

  pub pull-at : pulls_from ≤ i → i < goings_from → let j = i - pulls_from in
      IsAt i (pull (j / 2 / width / 2) (eqb (j / 2 / width % 2) 1) (j / 2 % width) (side_of_number (j % 2)))
  unfolding place
  pull-at l h =
      let b = bit_number-bit ((i - pulls_from) / 2 / width % 2) (omega arith) in
      let d = side_number-side ((i - pulls_from) % 2) (omega arith) in
      is_at (in_pull (omega arith) (omega arith)) (omega arith)

  pub going-at : goings_from ≤ i → i < seeks_from → let j = i - goings_from in IsAt i (going (j / 2 / levels) (j / 2 % levels) (side_of_number (j % 2)))
  unfolding place
  going-at l h =
      let d = side_number-side ((i - goings_from) % 2) (omega arith) in
      is_at (in_going (omega arith) (omega arith)) (omega arith)

  pub seek-at : seeks_from ≤ i → i < founds_from → let j = i - seeks_from in IsAt i (seek (j / levels / seats) (j / levels % seats) (j % levels))
  unfolding place
  seek-at l h = is_at (in_seek (omega arith) (omega arith) (omega arith)) (omega arith)

  pub found_at : founds_from ≤ i → i < nones_from → let j = i - founds_from in IsAt i (found (j / levels / seats) (j / levels % seats) (j % levels))
  unfolding place
  found_at l h = is_at (in_found (omega arith) (omega arith) (omega arith)) (omega arith)

  pub none-at : nones_from ≤ i → i < messages → let j = i - nones_from in
      IsAt i (none_found (j / 2 / levels) (j / 2 % levels) (side_of_number (j % 2)))
  unfolding place
  none-at l h =
      let d = side_number-side ((i - nones_from) % 2) (omega arith) in
      is_at (in_none_found (omega arith) (omega arith)) (omega arith)
