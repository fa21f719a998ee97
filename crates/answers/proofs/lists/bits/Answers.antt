-- `bits` meets its contract: before each turn the digits that are left. Assumes nothing.
use Rattle.std.proofs.Common.{arith, ◌≡◌, ap, ◌∙◌, ◌<◌}
use Rattle.base.specs.Loops.{one_if}
use Rattle.base.proofs.Count.{one-if}
use Rattle.graph.specs.Vector.{width, bit}
use Rattle.listing.proofs.Steps.{bits_none, bits-all, digits-zero}
use Rattle.text.proofs.Written.{bytes-cons, place-cons}
use Rattle.answers.proofs.Words.{words}
use Rattle.answers.proofs.Turns.{digits-turn}
use Rattle.answers.proofs.lists.bits.Goals as goal
use Rattle.answers.proofs.lists.bits.Goals.{then-k-eq0, else-k-eq0}

pub loop-j-preserved : goal.loop-j-preserved
loop-j-preserved c =
    let e = digits-turn c.args.k c.loop-j.j (omega arith) width c.args.vector in
    let d : c.bit.result ≡ one_if (bit width c.loop-j.j c.args.vector) = one-if _ c.bit.ensures.1 ∙ ap one_if c.bit.ensures.0 in
    grind (arith, words, bytes-cons, place-cons)

pub returns : goal.returns
returns c =
    let e = digits-zero width c.args.vector c.loop-j.j in
    elim c.if-k-eq0.branch [
      | then-k-eq0 w ↦ let z : c.args.k ≡ 0 = w.if-k-eq0.true in rw (z, bits_none) (grind (arith, words))
      | else-k-eq0 w ↦ let h : 0 < c.args.k = omega (arith, w.if-k-eq0.false) in rw (bits-all width c.args.k c.args.vector h) (grind (arith, words))
    ]
