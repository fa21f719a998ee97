-- The five numbers of the message at a place, kind by kind: from the digits of the place in its block, and back to the message. Assumes
-- nothing.
use Prim.Native.Nat.{ℕ, ◌-◌, ◌/◌, ◌%◌, ◌≤◌, ◌<◌}
use mathlib.Core.Path.{◌≡◌, refl, sym, ap, ◌∙◌}
use mathlib.Core.Logic.{◌≢◌}
use mathlib.Core.Option.{some}
use mathlib.Core.Bool.{Bool, true, false, ◌&&◌}
use native.Mathlib.Omega.{arith}
use lib.Dec.{eqb, ltb}
use Rattle.graph.specs.Side.{side_of_number}
use Rattle.graph.specs.Vector.{width}
use Rattle.protocol.specs.Message.{Msg, meet, probe, pull, going, seek, found, none_found, name, name_of, named}
use Rattle.protocol.specs.Numbering.{exists, message_at}
use Rattle.protocol.proofs.Message.{some_inj, none-some, named-name}
use Rattle.protocol.proofs.Numbering.{Exists, in_meet, in_probe, in_pull, in_going, in_seek, in_found, in_none_found}
use Rattle.protocol.proofs.Numbering.{bit_number-lt, side_number-lt}
use Rattle.record.specs.Layout.{seats, levels, messages}
use Rattle.record.proofs.Places.{side_number-side, exists-at}
use Rattle.messages.specs.declared.Message.{Message}
use Rattle.messages.specs.Numbers.{numbers}
use Rattle.messages.specs.inner.Numbers.{InRange, Stands}
use Rattle.messages.proofs.Blocks.{IsAt, at_place, probes_from, pulls_from, goings_from, seeks_from, founds_from, nones_from}
use Rattle.messages.proofs.Blocks.{meet-at, probe-at, pull-at, going-at, seek-at, found_at, none-at}
use Rattle.messages.proofs.Named.{when, named-meet, named-probe, named-pull, named-going, named-seek, named-found, named_none}
use Rattle.messages.proofs.Named.{named-rest, bit_number-bit, two-below, three-below}

-- a message that exists has its numbers in range
exists-range : {m : Msg} → Exists seats width m → InRange (name_of m)
exists-range (in_meet p q r) =
    record { some_kind = omega arith; kind = omega arith; to = p; about = q; level = r; side = omega arith }
exists-range (in_probe p q r) =
    record { some_kind = omega arith; kind = omega arith; to = p; about = q; level = omega arith; side = omega arith }
exists-range (in_pull {b = b} {d = d} p r) =
    let h = bit_number-lt b in
    record { some_kind = omega arith; kind = omega arith; to = p; about = omega arith; level = omega arith; side = side_number-lt d }
exists-range (in_going {d = d} p r) =
    record { some_kind = omega arith; kind = omega arith; to = p; about = omega arith; level = r; side = side_number-lt d }
exists-range (in_seek p q r) =
    record { some_kind = omega arith; kind = omega arith; to = p; about = q; level = r; side = omega arith }
exists-range (in_found p q r) =
    record { some_kind = omega arith; kind = omega arith; to = p; about = q; level = r; side = omega arith }
exists-range (in_none_found {d = d} p r) =
    record { some_kind = omega arith; kind = omega arith; to = p; about = omega arith; level = r; side = side_number-lt d }

-- the numbers of the message at a place stand for it
placed-stands : {i : ℕ} {r : Message} {m : Msg} → IsAt i m → numbers r ≡ name_of m → Stands i r
placed-stands a n = record { is_named = n ∙ ap name_of (sym (at_place a)); in_range = rw n (exists-range a.exists) }

-- from the digits of a place in its block to the numbers
module _ {i : ℕ} {r : Message} where
  pub meet-stands : i < probes_from → numbers r ≡ name 1 (i / levels / seats) (i / levels % seats) (i % levels) 0 → Stands i r
  meet-stands h n = placed-stands (meet-at h) n

  pub probe-stands : probes_from ≤ i → i < pulls_from → let j = i - probes_from in
      numbers r ≡ name 2 (j / width / seats) (j / width % seats) (j % width) 0 → Stands i r
  probe-stands l h n = placed-stands (probe-at l h) n

  pub pull-stands : pulls_from ≤ i → i < goings_from → let j = i - pulls_from in
      numbers r ≡ name 3 (j / 2 / width / 2) (j / 2 / width % 2) (j / 2 % width) (j % 2) → Stands i r
  pull-stands l h n =
      let j = i - pulls_from in
      let b = bit_number-bit (j / 2 / width % 2) (omega arith) in
      let d = side_number-side (j % 2) (omega arith) in
      placed-stands (pull-at l h) (rw (b, d) n)

  pub going-stands : goings_from ≤ i → i < seeks_from → let j = i - goings_from in
      numbers r ≡ name 4 (j / 2 / levels) 0 (j / 2 % levels) (j % 2) → Stands i r
  going-stands l h n = let d = side_number-side ((i - goings_from) % 2) (omega arith) in placed-stands (going-at l h) (rw d n)

  pub seek-stands : seeks_from ≤ i → i < founds_from → let j = i - seeks_from in
      numbers r ≡ name 5 (j / levels / seats) (j / levels % seats) (j % levels) 0 → Stands i r
  seek-stands l h n = placed-stands (seek-at l h) n

  pub found-stands : founds_from ≤ i → i < nones_from → let j = i - founds_from in
      numbers r ≡ name 6 (j / levels / seats) (j / levels % seats) (j % levels) 0 → Stands i r
  found-stands l h n = placed-stands (found_at l h) n

  pub none-stands : nones_from ≤ i → i < messages → let j = i - nones_from in
      numbers r ≡ name 7 (j / 2 / levels) 0 (j / 2 % levels) (j % 2) → Stands i r
  none-stands l h n = let d = side_number-side ((i - nones_from) % 2) (omega arith) in placed-stands (none-at l h) (rw d n)

-- a message found under a condition
when-some : (b : Bool) {m n : Msg} → when b m ≡ some n → n ≡ m
when-some true e = sym (some_inj e)
when-some false e = none-some refl e

-- from numbers to the message
module _ {i : ℕ} {r : Message} (s : Stands i r) where
  -- its numbers after the kind
  abbrev t : ℕ
  t = r.to

  abbrev a : ℕ
  a = r.about

  abbrev l : ℕ
  l = r.level

  abbrev d : ℕ
  d = r.side

  -- they name it
  pub stands-named : named (numbers r) ≡ some (message_at seats width i)
  stands-named = ap named s.is_named ∙ named-name (message_at seats width i)

  -- and so, by its kind
  pub stands-meet : r.kind ≡ 1 → message_at seats width i ≡ meet t a l
  stands-meet k = when-some (eqb d 0) (sym (named-meet t a l d k) ∙ stands-named)

  pub stands-probe : r.kind ≡ 2 → message_at seats width i ≡ probe t a l
  stands-probe k = when-some (eqb d 0) (sym (named-probe t a l d k) ∙ stands-named)

  pub stands-pull : r.kind ≡ 3 → message_at seats width i ≡ pull t (eqb a 1) l (side_of_number d)
  stands-pull k = when-some (ltb a 2 && ltb d 2) (sym (named-pull t a l d k) ∙ stands-named)

  pub stands-going : r.kind ≡ 4 → message_at seats width i ≡ going t l (side_of_number d)
  stands-going k = when-some (eqb a 0 && ltb d 2) (sym (named-going t a l d k) ∙ stands-named)

  pub stands-seek : r.kind ≡ 5 → message_at seats width i ≡ seek t a l
  stands-seek k = when-some (eqb d 0) (sym (named-seek t a l d k) ∙ stands-named)

  pub stands-found : r.kind ≡ 6 → message_at seats width i ≡ found t a l
  stands-found k = when-some (eqb d 0) (sym (named-found t a l d k) ∙ stands-named)

  pub stands-none : r.kind ≡ 7 → message_at seats width i ≡ none_found t l (side_of_number d)
  stands-none k = when-some (eqb a 0 && ltb d 2) (sym (named_none t a l d k) ∙ stands-named)

  -- there is no other kind
  pub stands-kind : {A : Type 0} → r.kind ≢ 1 → r.kind ≢ 2 → r.kind ≢ 3 → r.kind ≢ 4 → r.kind ≢ 5 → r.kind ≢ 6
      → r.kind ≢ 7 → A
  stands-kind n₁ n₂ n₃ n₄ n₅ n₆ n₇ = none-some (named-rest t a l d n₁ n₂ n₃ n₄ n₅ n₆ n₇) stands-named

  -- PROBE and PULL stand below the top level
  pub probe-below : i < messages → r.kind ≡ 2 → r.level < width
  unfolding exists
  probe-below h k = (three-below t a l _ _ _ (rw (stands-probe k) at (exists-at i h))).2

  pub pull-below : i < messages → r.kind ≡ 3 → r.level < width
  unfolding exists
  pull-below h k = (two-below t l _ _ (rw (stands-pull k) at (exists-at i h))).1
