-- The refusals of the readings, row after row, and what holds where no row applies. Assumes nothing.
use Prim.Native.Nat.{ℕ, ◌<◌}
use mathlib.Core.Path.{◌≡◌, refl, sym, ◌∙◌}
use mathlib.Core.Logic.{◌≢◌}
use mathlib.Core.Bool.{Bool, true, false, not, ◌||◌}
use mathlib.Core.List.{List, [], ◌∷◌}
use native.Mathlib.Omega.{arith}
use lib.Dec.{eqb, ltb}
use lib.ListN.{length}
use borrow.Author.Tests.{lt-ltb, ltb-true, not-false}
use Rattle.protocol.specs.State.{no_seat}
use Rattle.protocol.specs.Refusals.{wrong_size, unsound, no_such_seat, no_such_level, Row, first}
use Rattle.protocol.proofs.Calls.{no_row}
use Rattle.record.specs.Answer.{refusal_number}
use Rattle.record.specs.Layout.{seats, levels, size}
use Rattle.record.specs.Sound.{sound}
use Rattle.record.specs.Reading.{size_row, sound_row, seat_row, level_row, empty_row, free_row, record_refusal, lot_refusal, link_refusal}
use Rattle.record.specs.declared.refusals.Refusal.{Refusal}
use Rattle.record.proofs.Determined.{refusal_number-positive}
use Rattle.record.proofs.Reading.{lot_refusal-is, link_refusal-is}
use Rattle.record.proofs.Refused.{chain-stops, Later, Passed, record-passed, record-stops, record-goes, rows-passed}

or-false : (a b : Bool) → a || b ≡ false → (a ≡ false) × (b ≡ false)
or-false true b e = absurd (let z : ◌≡◌ {A = ℕ} 0 1 = cc in omega arith)
or-false false b e = (refl, e)

pub refusal-not-0 : (r : Refusal) → refusal_number r ≢ 0
refusal-not-0 r e = omega (arith, e, refusal_number-positive r)

-- a seat of a record that 1 and 2 let pass
pub record There (l : List ℕ) (s : ℕ) : Type 0 where
  pub accepted : Passed l
  pub seat : s < seats

module _ (l : List ℕ) where
  -- 1 or 2 applies
  pub record-refused : (r : Refusal) (s : ℕ) → refusal_number r ≡ record_refusal l
      → refusal_number r ≡ first (size_row l ∷ sound_row l ∷ seat_row s ∷ [])
  record-refused r s e = record-stops l (seat_row s ∷ []) e (refusal-not-0 r)

  -- neither does
  pub sound-passed : 0 ≡ record_refusal l → Passed l
  sound-passed e = record-passed l e refl

module _ (l : List ℕ) (s : ℕ) where
  pub seat-rest : Passed l → first (size_row l ∷ sound_row l ∷ seat_row s ∷ []) ≡ first (seat_row s ∷ [])
  seat-rest p = record-goes l (seat_row s ∷ []) (refl, refl) p

  -- 1, 2 or 3 applies: the rows after them do not matter
  pub seat-refused : (r : Refusal) (rs : List Row) → refusal_number r ≡ first (size_row l ∷ sound_row l ∷ seat_row s ∷ [])
      → refusal_number r ≡ first (size_row l ∷ sound_row l ∷ seat_row s ∷ rs)
  unfolding first
  seat-refused r rs e =
      chain-stops (not (eqb (length l) size)) wrong_size _ _
      (chain-stops (not (sound l)) unsound _ _ (chain-stops (no_seat seats s) no_such_seat 0 _ (λ z. absurd (refusal-not-0 r z)))) e

  -- none of them does
  seat-there : (rs : List Row) → Later rs → 0 ≡ first (size_row l ∷ sound_row l ∷ seat_row s ∷ rs) → There l s
  seat-there rs later e =
      let p = rows-passed l (seat_row s ∷ rs) later (sym e) in
      let row = no_row (size_row l ∷ sound_row l ∷ seat_row s ∷ rs) no_such_seat tt (sym e) in
      record { accepted = p.0; seat = ltb-true s seats (not-false (ltb s seats) row) }

  pub seat-passed : 0 ≡ first (size_row l ∷ sound_row l ∷ seat_row s ∷ []) → There l s
  seat-passed e = seat-there [] (refl, refl) e

  module _ (t : There l s) where
    pub lot-rest : {n : ℕ} → n ≡ first (free_row l s ∷ []) → n ≡ lot_refusal l s
    unfolding first
    lot-rest e = e ∙ sym (lot_refusal-is l t.accepted.sized t.accepted.fine s ∙ rw (lt-ltb s seats t.seat))

    pub link-rest : (k d : ℕ) {n : ℕ} → n ≡ first (level_row k d ∷ empty_row l s ∷ []) → n ≡ link_refusal l s k d
    unfolding first
    link-rest k d e = e ∙ sym (link_refusal-is l t.accepted.sized t.accepted.fine s k d ∙ rw (lt-ltb s seats t.seat))

  -- no row of a reading applies
  pub lot-there : 0 ≡ lot_refusal l s → There l s
  unfolding lot_refusal
  lot-there e = seat-there (free_row l s ∷ []) (refl, refl) e

  pub link-there : (k d : ℕ) → 0 ≡ link_refusal l s k d → There l s × (k < levels)
  unfolding link_refusal
  link-there k d e =
      let rs = size_row l ∷ sound_row l ∷ seat_row s ∷ level_row k d ∷ empty_row l s ∷ [] in
      let o = or-false (not (ltb k levels)) (not (ltb d 2)) (no_row rs no_such_level tt (sym e)) in
      (seat-there (level_row k d ∷ empty_row l s ∷ []) (refl, refl) e, ltb-true k levels (not-false (ltb k levels) o.0))
