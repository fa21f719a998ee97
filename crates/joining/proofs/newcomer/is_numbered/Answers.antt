-- `joining::newcomer::is_numbered` meets its contract. Assumes nothing.
use Prim.Native.Nat.{ℕ}
use mathlib.Core.Path.{sym, ap, ◌∙◌}
use lib.Dec.{eqb}
use borrow.Author.Rules.{rules}
use Rattle.record.proofs.SeatBytes.{number-bytes}
use Rattle.base.proofs.Stops.{and-go}
use Rattle.joining.proofs.newcomer.is_numbered.Goals as goal

pub returns-then-is_taken : goal.returns-then-is_taken
returns-then-is_taken c = let s = c.args in
    and-go c.is_taken.ensures c.if-is_taken.true
    (ap (λ (x : ℕ). eqb x s.n) (c.number.ensures ∙ sym (number-bytes s.rec.now s.s (search rules))))
