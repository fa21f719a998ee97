-- The refusal number of a changing call from its two parts, the record's and the table's; and what the call answers and leaves.
-- Assumes nothing.
use Prim.Native.Nat.{ℕ, zero, suc}
use mathlib.Core.Path.{◌≡◌, refl, sym, ◌∙◌}
use mathlib.Core.Logic.{◌≢◌}
use mathlib.Core.List.{List}
use Rattle.memory.specs.Bytes.{AreBytes}
use Rattle.graph.specs.Vector.{width}
use Rattle.protocol.specs.Sound.{Sound}
use Rattle.protocol.specs.Calls.{Call, rows, refusal, accept, unless_refused}
use Rattle.protocol.proofs.Accepted.{rows-free}
use Rattle.record.specs.Layout.{seats}
use Rattle.record.specs.Meaning.{meaning, bytes_of}
use Rattle.record.specs.Reading.{record_refusal}
use Rattle.record.proofs.Form.{Form}
use Rattle.record.proofs.Sound.{sound-is}
use Rattle.record.proofs.Refused.{Later, rows-passed, record-passed, record-stops, record-goes}
use Rattle.record.specs.Call.{call_refusal, called}

-- what an accepted call is made on
pub record Accepted (l : List ℕ) (c : Call) : Type 0 where
  pub form : Form l
  pub fine : Sound seats width (meaning l)
  pub row : refusal seats width (meaning l).seats (meaning l).pending c ≡ 0

module _ (l : List ℕ) where
  -- no call meets 1 or 2 by its own rows
  pub call-later : (c : Call) → Later (rows seats width (meaning l).seats (meaning l).pending c)
  call-later c = let f = rows-free seats width (meaning l).seats (meaning l).pending c in (f.0, f.1)

  -- the record is refused
  pub refused-early : (c : Call) {n : ℕ} → n ≡ record_refusal l → n ≢ 0 → n ≡ call_refusal l c
  unfolding call_refusal
  refused-early c e h = record-stops l _ e h

  -- it is not
  pub refused-late : (c : Call) {m n : ℕ} → n ≡ record_refusal l → n ≡ 0 → m ≡ refusal seats width (meaning l).seats (meaning l).pending c
      → m ≡ call_refusal l c
  unfolding call_refusal refusal
  refused-late c e z h = h ∙ sym (record-goes l _ (call-later c) (record-passed l e z))

  pub accepted : (c : Call) → AreBytes l → call_refusal l c ≡ 0 → Accepted l c
  unfolding call_refusal refusal
  accepted c b e =
      let (p, r) = rows-passed l _ (call-later c) e in
      let (h, k) = (sound-is l p.sized b).0 p.fine in
      record { form = h; fine = k; row = r }

  -- a refused call, whose answer has the number m, leaves the bytes
  pub outcome-refused : (c : Call) (n : ℕ) {m : ℕ} → n ≡ call_refusal l c → n ≢ 0 → m ≡ n → record { refused = m; after = l } ≡ called l c
  unfolding called unless_refused
  outcome-refused c zero e h q = absurd (h refl)
  outcome-refused c (suc n) e h q = rw (q, ← e)

  -- an accepted call leaves the bytes of the meaning after it
  pub outcome-done : (c : Call) {m : List ℕ} → call_refusal l c ≡ 0 → m ≡ bytes_of (accept seats width (meaning l) c)
      → record { refused = 0; after = m } ≡ called l c
  unfolding called unless_refused
  outcome-done c e h = rw (e, h)
