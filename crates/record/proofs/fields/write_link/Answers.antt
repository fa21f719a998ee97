-- `record::fields::write_link` meets its contract. Assumes nothing.
use mathlib.Core.Path.{ap}
use Prim.Native.Nat.{ℕ, ◌+◌, ◌*◌}
use Rattle.graph.specs.inner.Code.{as_side}
use Rattle.record.specs.Layout.{links_offset}
use Rattle.record.proofs.Lent.{link_set}
use Rattle.record.proofs.fields.write_link.Goals as goal

pub returns-in-Some : goal.returns-in-Some
returns-in-Some c =
    let a = c.args in
    rw c.in-Some.is
    (link_set a.entry.now a.k (as_side a.d) _ _ c.requires.0 c.requires.1 (ap (λ (n : ℕ). links_offset + 2 * a.k + n) c.from.ensures))
