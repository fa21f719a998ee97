-- `messages::first_pending` meets its contract: the bit at a place is whether the message there is pending. Assumes nothing.
use mathlib.Core.Path.{◌≡◌, ◌∙◌}
use native.Mathlib.Omega.{arith}
use Rattle.messages.specs.inner.Numbers.{first_pending}
use Rattle.messages.proofs.First.{first-pending-bit, first-pending-le}
use Rattle.messages.proofs.first_pending.Goals as goal
use Rattle.messages.proofs.first_pending.Goals.{After-first_bit-i}

found : (c : After-first_bit-i) → c.first_bit-i.result ≡ first_pending c.args.rec.now c.args.from
found c = c.first_bit-i.ensures ∙ first-pending-bit c.args.rec.now c.args.from c.requires

pub returns-then-i-lt-MESSAGES : goal.returns-then-i-lt-MESSAGES
returns-then-i-lt-MESSAGES c = (found (goal.at.returns-then-i-lt-MESSAGES c).After-first_bit-i, omega (arith, c.if-i-lt-MESSAGES.true))

pub returns-else-i-lt-MESSAGES : goal.returns-else-i-lt-MESSAGES
returns-else-i-lt-MESSAGES c = let e = found (goal.at.returns-else-i-lt-MESSAGES c).After-first_bit-i in
    omega (arith, e, c.if-i-lt-MESSAGES.false, first-pending-le c.args.rec.now c.args.from c.requires)
