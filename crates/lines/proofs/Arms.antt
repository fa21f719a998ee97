-- What each arm of a line's command gives. Assumes nothing.
use Prim.Native.Nat.{ℕ}
use mathlib.Core.Path.{◌≡◌, sym, ap, ◌∙◌}
use mathlib.Core.Option.{Option}
use mathlib.Core.List.{List}
use native.Mathlib.Omega.{arith}
use lib.ListN.{length}
use Rattle.protocol.specs.Calls.{Call}
use Rattle.record.specs.Call.{called}
use Rattle.command.specs.Command.{Command, parsed}
use Rattle.text.proofs.Put.{put_whole}
use Rattle.program.specs.Text.{done_text}
use Rattle.answers.specs.inner.Whole.{Whole}
use Rattle.program.specs.inner.Room.{room}
use Rattle.program.specs.Line.{Answered, Gives, by_call, answer_to, answered}

module _ (l line : List ℕ) {o : Option Command} (e : o ≡ parsed line) {m b out : List ℕ} {r : ℕ} (sized : length b ≡ room) where
  -- the answer is the text that was put there, and the bytes are those that are left
  pub gives : {t : List ℕ} → answer_to l o ≡ record { text = t; after = m } → Whole b t out r → Gives (answered l line) m b out r
  unfolding answered
  gives {t} f w =
      let a : answered l line ≡ record { text = t; after = m } = ap (answer_to l) (sym e) ∙ f in
      let p = put_whole w.put (omega (arith, w.fits)) in
      record { leaves = sym (ap (λ (x : Answered). x.after) a); count = rw a p.1; text = rw a p.0 }

  -- of a call
  pub call-gives : (c : Call) {n : ℕ} → answer_to l o ≡ by_call (called l c) → record { refused = n; after = m } ≡ called l c
      → Whole b (done_text n) out r
      → Gives (answered l line) m b out r
  call-gives c f g w = gives (f ∙ ap by_call (sym g)) w
