-- `soundness::pending::messages_fit` meets its contract. The loop's invariant: the places before the next pending one pass. Assumes nothing.
use Prim.Native.Nat.{ℕ, ◌-◌, ◌<◌}
use Rattle.std.specs.Prelude.{Option, IfSome, unwrap_or}
use Rattle.record.specs.Layout.{messages}
use Rattle.soundness.proofs.PendingPasses.{Next}
use Rattle.soundness.proofs.pending.messages_fit.Given as goal

abbrev pub place : Option ℕ → ℕ
place o = unwrap_or o messages

abbrev pub invariant-loop-next : goal.invariant-loop-next
invariant-loop-next l = Next l.rec 0 (place l.next) × IfSome l.next (λ i. i < messages)

abbrev pub decreases-loop-next : goal.decreases-loop-next
decreases-loop-next l = messages - place l.next
