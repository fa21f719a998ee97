-- `soundness::pending::word_fits` meets its contract. The loop's invariant: the places before i pass, and `rest` is made of the bits from i on.
-- Assumes nothing.
use borrow.Author.Rules.{rules}
use Prim.Native.Nat.{◌+◌, ◌*◌, ◌<◌}
use mathlib.Core.Path.{sym, ◌∙◌}
use native.Mathlib.Omega.{arith}
use lib.Count.{count_trailing_zeros, trailing_le}
use Rattle.soundness.proofs.PendingWord.{rest-whole, rest-none, rest-within, rest-fails, rest_more}
use Rattle.soundness.proofs.pending.word_fits.Goals as goal
use Rattle.soundness.proofs.pending.word_fits.Goals.{Else-not-message_fits}

pub loop-rest-init : goal.loop-rest-init
loop-rest-init c = rw c.word-rest.ensures (rest-whole _ c.args.w)

pub overflow_cast-z : goal.overflow_cast-z
overflow_cast-z c = omega (arith, trailing_le 64 c.loop-rest.rest)

pub overflow_add-i : goal.overflow_add-i
overflow_add-i c = omega (arith, rest-within c.loop-rest.invariant c.loop-rest-test.true)

pub message_fits-requires : goal.message_fits-requires
message_fits-requires c = let h = rest-within c.loop-rest.invariant c.loop-rest-test.true in search rules

pub returns-then-not-message_fits : goal.returns-then-not-message_fits
returns-then-not-message_fits c =
    sym (rest-fails c.loop-rest.invariant c.loop-rest-test.true (sym c.message_fits.ensures ∙ c.if-not-message_fits.true))

-- the next message is one of the word's
within : (c : Else-not-message_fits) →
    c.loop-rest.i + count_trailing_zeros 64 c.loop-rest.rest < 64 * c.args.w + 64
within c = rest-within c.loop-rest.invariant c.loop-rest-test.true

pub overflow_add-i-in-loop-rest : goal.overflow_add-i-in-loop-rest
overflow_add-i-in-loop-rest c = omega (arith, trailing_le 64 c.loop-rest.rest)

pub overflow_add-i-in-loop-rest-2 : goal.overflow_add-i-in-loop-rest-2
overflow_add-i-in-loop-rest-2 c = omega (arith, within (goal.at.overflow_add-i-in-loop-rest-2 c).Else-not-message_fits)

pub overflow_shr-rest : goal.overflow_shr-rest
overflow_shr-rest c = omega (arith, within (goal.at.overflow_shr-rest c).Else-not-message_fits)

pub loop-rest-smaller : goal.loop-rest-smaller
loop-rest-smaller c = omega (arith, within (goal.at.loop-rest-smaller c).Else-not-message_fits)

pub loop-rest-preserved : goal.loop-rest-preserved
loop-rest-preserved c =
    rest_more c.loop-rest.invariant c.loop-rest-test.true (sym c.message_fits.ensures ∙ c.if-not-message_fits.false)

pub returns : goal.returns
returns c = sym (rest-none c.loop-rest.invariant c.loop-rest-test.false)
