-- `clearing::freeing::free_seats` meets its contract: the seats below `s`, and their links, are done. Assumes nothing.
use Prim.Native.Nat.{ℕ}
use mathlib.Core.Path.{◌≡◌, sym, ap, ◌∙◌}
use native.Mathlib.Omega.{arith}
use Rattle.record.specs.Layout.{seats}
use Rattle.record.specs.Meaning.{bytes_of}
use Rattle.clearing.specs.inner.Steps.{link_place, freed_to}
use Rattle.clearing.proofs.Unlinking.{freed_to-none, freed_to-all}
use Rattle.clearing.proofs.freeing.free_seats.Goals as goal

pub loop-s-init : goal.loop-s-init
loop-s-init c = λ M f e. e ∙ sym (freed_to-none c.args.set M)

pub returns : goal.returns
returns c = λ M f e.
    let set = c.args.set in
    let n : c.loop-s.s ≡ seats = omega arith in
    c.loop-s.invariant M f e ∙ ap (λ (n : ℕ). bytes_of (freed_to set n (link_place n 0 0) M)) n ∙ freed_to-all set M
