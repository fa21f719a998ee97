-- `clearing::end_clearing` meets its contract. Assumes nothing.
use Prim.Native.Nat.{ℕ}
use mathlib.Core.Path.{sym, ap, ◌∙◌}
use mathlib.Core.List.{List}
use lib.ListN.{set as put}
use Rattle.protocol.specs.State.{open_phase}
use Rattle.record.specs.Layout.{phase_at}
use Rattle.record.proofs.Update.{bytes-with_phase}
use Rattle.clearing.specs.inner.Steps.{freed}
use Rattle.clearing.proofs.Leaving.{leaves-bytes}
use Rattle.clearing.proofs.Accepted.{freed-leavers}
use Rattle.clearing.proofs.end_clearing.Goals as goal

pub returns : goal.returns
returns c = λ M f e.
    let set = c.leavers-set.result in
    c.set_phase.ensures
    ∙ ap (λ (l : List ℕ). put l phase_at 0) (c.free_seats.ensures M f e)
    ∙ sym (bytes-with_phase (freed set M) open_phase)
    ∙ freed-leavers M f set (λ x h. c.leavers-set.ensures x ∙ leaves-bytes M e x h)
