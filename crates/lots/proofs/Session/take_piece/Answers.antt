-- The first turn has taken nothing, and a turn takes one byte more. Assumes nothing.
use Rattle.std.specs.Prelude.{◌≡◌, length, take}
use Rattle.std.proofs.Common.{arith, refl, sym, ◌∙◌, ap}
use Rattle.program.specs.Pieces.{Fed}
use Rattle.program.proofs.Pieces.{fed-none, fed-more}
use Rattle.lots.proofs.Session.take_piece.Goals as goal

pub loop-byte-init : goal.loop-byte-init
loop-byte-init c =
    let s = c.args.self.now in
    let e = fed-none (length s.line) s.rec (take s.kept s.line) in
    (refl, sym (ap (λ (f : Fed). f.after) e), sym (ap (λ (f : Fed). f.line) e))

pub loop-byte-preserved : goal.loop-byte-preserved
loop-byte-preserved c =
    let s = c.args.self.now in
    let v = c.loop-byte.invariant in
    let more = fed-more (length s.line) s.rec (take s.kept s.line) c.args.piece.now c.loop-byte.byte-index (omega arith) in
    let g = rw (v.0, v.1, v.2) at c.take_byte-taken.ensures in
    let same : length c.take_byte-taken.new.line ≡ length s.line = omega arith in
    (same, g.gives.leaves ∙ sym more.0, g.line ∙ sym more.1)
