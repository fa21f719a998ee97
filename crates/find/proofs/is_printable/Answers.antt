-- `find::is_printable` meets its contract. Assumes nothing.
use Prim.Native.Nat.{ℕ}
use mathlib.Core.Path.{sym, ap}
use lib.Dec.{leb}
use Rattle.base.proofs.Stops.{and-stop, and-go}
use Rattle.search.specs.Walk.{printable}
use Rattle.find.proofs.Read.{number_read}
use Rattle.find.proofs.is_printable.Goals as goal

pub returns-then-is_staying : goal.returns-then-is_staying
unfolding printable
returns-then-is_staying c =
    let n = number_read c.args.rec.now c.args.s c.number.result c.requires c.number.ensures in
    and-go c.is_staying.ensures c.if-is_staying.true (ap (λ (m : ℕ). leb m c.args.x) (sym n))

pub returns-else-is_staying : goal.returns-else-is_staying
unfolding printable
returns-else-is_staying c = and-stop _ c.is_staying.ensures c.if-is_staying.false
