-- `index::Index::note` meets its contract: the or with a bit's power sets the bit. Assumes nothing.
use Prim.Native.Nat.{◌/◌}
use native.Mathlib.Omega.{arith}
use Rattle.index.proofs.Noted.{number-noted, top-noted}
use Rattle.index.proofs.Index.note.Goals as goal

pub returns : goal.returns
returns c =
    let w = c.args.i / 64 in
    (number-noted c.args.self.now.numbers w, top-noted c.args.self.now.top (w / 64) (omega arith))
