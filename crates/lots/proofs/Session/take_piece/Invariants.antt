-- Before each turn of the loop the bytes of the piece in front of the next are taken.
use Rattle.std.specs.Prelude.{◌≡◌, length, take}
use Rattle.program.specs.Pieces.{fed}
use Rattle.lots.proofs.Session.take_piece.Given as goal

abbrev pub invariant-loop-byte : goal.invariant-loop-byte
invariant-loop-byte l =
    let f = fed (length l.fn.self.line) l.fn.self.rec (take l.fn.self.kept l.fn.self.line) (take l.byte-index l.piece) in
    (length l.self.line ≡ length l.fn.self.line) × (l.self.rec ≡ f.after) × (take l.self.kept l.self.line ≡ f.line)
