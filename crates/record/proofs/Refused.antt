-- The rows 1 and 2, which stand in front of every call: where they apply, the other rows do not matter; where they do not, the bytes are a
-- sound record and the other rows decide. Assumes nothing.
use Prim.Native.Nat.{ℕ}
use mathlib.Core.Path.{◌≡◌, refl, sym, ◌∙◌}
use mathlib.Core.Logic.{◌≢◌}
use mathlib.Core.Bool.{Bool, true, false, not, cond}
use mathlib.Core.List.{List, [], ◌∷◌}
use lib.Dec.{eqb}
use lib.ListN.{length}
use borrow.Author.Tests.{eq-eqb, ne_eqb, eqb-true, not-false}
use Rattle.protocol.specs.Refusals.{wrong_size, unsound, Row, applies_in, first}
use Rattle.protocol.proofs.Calls.{no_row}
use Rattle.record.specs.Layout.{size}
use Rattle.record.specs.Sound.{sound}
use Rattle.record.specs.Reading.{size_row, sound_row, record_refusal}

-- n is what the first test of a chain, or one before its end, gave: a refusal, and what stands at the end does not matter
pub chain-stops : (b : Bool) (k m p : ℕ) {n : ℕ} → (n ≡ m → n ≡ p) → n ≡ cond b k m → n ≡ cond b k p
chain-stops true k m p f e = e
chain-stops false k m p f e = f e

-- 1 and 2 are not among the rows
abbrev pub Later : List Row → Type 0
Later rs = (applies_in rs wrong_size ≡ false) × (applies_in rs unsound ≡ false)

-- a record that 1 and 2 let pass
pub record Passed (l : List ℕ) : Type 0 where
  pub sized : length l ≡ size
  pub fine : sound l ≡ true

module _ (l : List ℕ) where
  -- the rows after them, in either case
  pub record-stops : (rs : List Row) {n : ℕ} → n ≡ record_refusal l → n ≢ 0 → n ≡ first (size_row l ∷ sound_row l ∷ rs)
  unfolding record_refusal first
  record-stops rs e h =
      chain-stops (not (eqb (length l) size)) wrong_size _ _ (chain-stops (not (sound l)) unsound 0 _ (λ z. absurd (h z))) e

  pub record-goes : (rs : List Row) → Later rs → Passed l → first (size_row l ∷ sound_row l ∷ rs) ≡ first rs
  unfolding first
  record-goes rs (e, f) p = rw (eq-eqb (length l) size p.sized, p.fine, e, f)

  pub rows-passed : (rs : List Row) → Later rs → first (size_row l ∷ sound_row l ∷ rs) ≡ 0 → Passed l × (first rs ≡ 0)
  rows-passed rs later e = (p, sym (record-goes rs later p) ∙ e)
    where
      p : Passed l
      p =
          let big = no_row (size_row l ∷ sound_row l ∷ rs) wrong_size tt e in
          let bad = no_row (size_row l ∷ sound_row l ∷ rs) unsound tt e in
          record { sized = eqb-true (length l) size (not-false (eqb (length l) size) big); fine = not-false (sound l) bad }

  pub record-passed : {n : ℕ} → n ≡ record_refusal l → n ≡ 0 → Passed l
  unfolding record_refusal
  record-passed e z = (rows-passed [] (refl, refl) (sym e ∙ z)).0

  pub wrong_size_lem : length l ≢ size → wrong_size ≡ record_refusal l
  unfolding record_refusal first
  wrong_size_lem ne = rw (ne_eqb (length l) size ne)
