-- A turn in phase open without leavers leaves every byte (document 01, "Turn"), accepted or refused. Assumes only that the elements of the
-- list are bytes.
use Prim.Native.Nat.{ℕ, ◌<◌}
use mathlib.Core.Path.{◌≡◌, sym, ◌∙◌}
use mathlib.Core.Bool.{false}
use mathlib.Core.List.{List}
use Rattle.base.proofs.Any.{none_any}
use Rattle.base.proofs.Tests.{false-T}
use Rattle.memory.specs.Bytes.{AreBytes}
use Rattle.graph.specs.Vector.{width}
use Rattle.protocol.specs.State.{open_phase, leaves}
use Rattle.protocol.specs.Calls.{turn, accept}
use Rattle.record.specs.Layout.{seats}
use Rattle.record.specs.Meaning.{seats_in, meaning, bytes_of}
use Rattle.record.specs.Call.{call_refusal, called}
use Rattle.record.proofs.Accepted.{accepted}
use Rattle.record.proofs.Call.{call-idle}
use Rattle.record.proofs.Round.{bytes-meaning}
use Rattle.clearing.proofs.Accepted.{turn-nothing}

module _ (l : List ℕ) (b : AreBytes l) (o : (seats_in l).phase ≡ open_phase) (none : (x : ℕ) → x < seats → leaves (seats_in l) x ≡ false) where
  -- accepted: the bytes of the same meaning
  same-meaning : call_refusal l turn ≡ 0 → bytes_of (accept seats width (meaning l) turn) ≡ l
  unfolding meaning
  same-meaning e =
      sym (turn-nothing (meaning l) o (none_any seats (leaves (seats_in l)) (λ x h t. false-T (none x h) t))) ∙ bytes-meaning (accepted l turn b e).form

  pub idle-turn : (called l turn).after ≡ l
  idle-turn = call-idle l turn same-meaning
