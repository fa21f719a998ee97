-- `clearing::begin_clearing` meets its contract. Assumes nothing.
use Prim.Native.Nat.{ℕ}
use mathlib.Core.Path.{sym, ap, ◌∙◌}
use mathlib.Core.List.{List}
use lib.ListN.{set}
use Rattle.graph.specs.Vector.{width}
use Rattle.protocol.specs.State.{clearing}
use Rattle.protocol.specs.pages.Turn.{farewells}
use Rattle.record.specs.Layout.{seats, phase_at}
use Rattle.record.proofs.Update.{bytes-with_phase}
use Rattle.clearing.specs.inner.Steps.{saying}
use Rattle.clearing.proofs.begin_clearing.Goals as goal

pub returns : goal.returns
returns c = λ M f e.
    c.set_phase.ensures
    ∙ ap (λ (l : List ℕ). set l phase_at 1) (c.tell_all.ensures M f e)
    ∙ sym (bytes-with_phase (saying M (farewells seats width M.seats M.link)) clearing)
