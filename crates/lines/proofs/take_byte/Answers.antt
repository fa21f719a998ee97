-- `take_byte` meets its contract. Assumes nothing.
use mathlib.Core.Path.{refl}
use lib.ListN.{length, take}
use Rattle.program.proofs.Kept.{gives_nothing, byte-ends, byte-kept, kept_more, kept_full}
use Rattle.lines.proofs.take_byte.Goals as goal

pub returns-then-byte-eq-NEWLINE : goal.returns-then-byte-eq-NEWLINE
returns-then-byte-eq-NEWLINE c = let s = c.args in
    let line = s.line.now in
    rw (byte-ends (length line) s.rec.now (take s.n line) s.byte c.if-byte-eq-NEWLINE.true)
    (record { gives = c.answer_kept.ensures; line = refl })

pub returns-then-n-line : goal.returns-then-n-line
returns-then-n-line c = let s = c.args in
    let line = s.line.now in
    rw (byte-kept (length line) s.rec.now (take s.n line) s.byte c.if-byte-eq-NEWLINE.false)
    (record { gives = gives_nothing s.rec.now s.out.now; line = kept_more line s.n s.byte c.if-n-line.true })

pub returns : goal.returns
returns c = let s = c.args in
    let line = s.line.now in
    rw (byte-kept (length line) s.rec.now (take s.n line) s.byte c.if-byte-eq-NEWLINE.false)
    (record { gives = gives_nothing s.rec.now s.out.now; line = kept_full line s.n s.byte c.if-n-line.false })
