-- Every call keeps soundness: the opened record is sound, and so is the meaning after a call, accepted or refused, whose arguments fit
-- their types. Assumes nothing.
use Prim.Native.Nat.{ℕ, zero, suc}
use mathlib.Core.Path.{◌≡◌, refl}
use mathlib.Core.Bool.{false}
use lib.Dec.{T}
use lib.Pow.{pow_pos}
use Rattle.base.proofs.Tests.{false-T, none-some}
use Rattle.protocol.specs.Message.{Msg}
use Rattle.protocol.specs.Numbering.{some_pending}
use Rattle.protocol.specs.State.{Meaning, nobody, opened}
use Rattle.protocol.specs.Calls.{Call, join, reserve, confirm, give_back, leave, deliver, turn, crash, merge, refusal, accept}
use Rattle.protocol.specs.Calls.{unless_refused, call, InRange}
use Rattle.protocol.specs.Sound.{number_bits, Sound}
use Rattle.protocol.proofs.Numbering.{none-pending}
use Rattle.protocol.proofs.SoundFacts.{pending-exists}
use Rattle.protocol.proofs.Accepted.{turn-row, crash-rows}
use Rattle.protocol.proofs.KeepDelivery.{deliver-sound}
use Rattle.protocol.proofs.KeepCalls.{join-sound, reserve-sound, confirm-sound, give-back-sound, leave-sound, merge-sound}
use Rattle.protocol.proofs.KeepTurn.{turn-sound}
use Rattle.protocol.proofs.KeepCrash.{crash-sound}

pub opened-sound : (N W : ℕ) → Sound N W opened
unfolding opened nobody
opened-sound N W = record {
  seats = λ x t. absurd t;
  numbers = λ x. pow_pos number_bits;
  vectors = λ x. pow_pos W;
  unused = λ x t. (refl, refl, λ k d. refl);
  differ = λ x y t u e. absurd t;
  links = λ x k y d e. none-some refl e;
  messages = λ m t. absurd t;
}

-- nothing pending, as the table tests it
pub nothing_left : {N W : ℕ} {M : Meaning} → Sound N W M → some_pending N W M.pending ≡ false → (m : Msg) → T (M.pending m) → ⊥
nothing_left {N} {W} {M} h e m t = false-T (none-pending N W M.pending e m (pending-exists h m t)) t

pub accept-sound : (N W : ℕ) (M : Meaning) → Sound N W M → (c : Call) → InRange N W c → refusal N W M.seats M.pending c ≡ 0
    → Sound N W (accept N W M c)
accept-sound N W M h (join s n v c) q e = join-sound h s n v c q.0 q.1 e
accept-sound N W M h (reserve s n v) q e = reserve-sound h s n v q.0 q.1 e
accept-sound N W M h (confirm s c) q e = confirm-sound h s c e
accept-sound N W M h (give_back s) q e = give-back-sound h s e
accept-sound N W M h (leave s) q e = leave-sound h s e
accept-sound N W M h (deliver n) q e = deliver-sound h n e
accept-sound N W M h turn q e = turn-sound h (nothing_left h (turn-row N W M.seats M.pending e))
accept-sound N W M h (crash set) q e = let c = crash-rows N W M.seats M.pending set e in crash-sound h (nothing_left h c.quiet) c.opens set
accept-sound N W M h (merge a b) q e = merge-sound h a b e

pub call-sound : (N W : ℕ) (M : Meaning) → Sound N W M → (c : Call) → InRange N W c → Sound N W (call N W M c).after
unfolding call unless_refused
call-sound N W M h c q = by (refusal N W M.seats M.pending c) refl
  where
    by : (n : ℕ) → refusal N W M.seats M.pending c ≡ n → Sound N W (unless_refused n M (accept N W M c))
    by zero e = accept-sound N W M h c q e
    by (suc n) e = h
