-- `crash::carry_out` meets its contract. Assumes nothing.
use mathlib.Core.Path.{◌∙◌}
use Rattle.clearing.specs.inner.Steps.{freed}
use Rattle.crash.proofs.Introducing.{freed-linked}
use Rattle.crash.proofs.Accepted.{crash-nothing, crash-introduced}
use Rattle.crash.proofs.carry_out.Goals as goal

pub returns-then-set-eq0 : goal.returns-then-set-eq0
returns-then-set-eq0 c = λ M f e. e ∙ crash-nothing M c.args.set c.if-set-eq0.true

pub returns : goal.returns
returns c = λ M f e.
    let set = c.args.set in
    c.introduce_all.ensures (freed set M) (freed-linked set M f) (c.free_seats.ensures M f e) ∙ crash-introduced M set c.if-set-eq0.false
