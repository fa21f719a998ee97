-- `soundness::entries::keep` meets its contract. Assumes nothing.
use borrow.Author.Rules.{rules}
use Prim.Native.Nat.{ℕ, ◌%◌}
use mathlib.Core.Path.{sym, ap, ◌∙◌}
use Rattle.record.proofs.SeatBytes.{number-bytes}
use Rattle.soundness.specs.inner.Buckets.{buckets}
use Rattle.soundness.proofs.Kept.{kept-lot}
use Rattle.soundness.proofs.entries.Buckets.keep.Goals as goal

pub returns : goal.returns
returns c =
    let l = c.args.rec.now in
    let b = c.bucket-b in
    let n = c.number-n.ensures ∙ sym (number-bytes l c.args.s (search rules)) in
    kept-lot l c.args.s c.requires.2 _ b.result c.requires.0 b.ensures.1 c.requires.1 n
    (b.ensures.0 ∙ ap (λ (k : ℕ). k % buckets) n)
