-- `find::search` meets its contract. Assumes nothing.
use Prim.Native.Nat.{ℕ, ◌<◌}
use mathlib.Core.Path.{◌≡◌, refl, ◌∙◌, ap}
use mathlib.Core.Option.{none, some}
use mathlib.Core.Bool.{Bool, true, false, cond}
use native.Mathlib.Omega.{arith}
use borrow.Author.Rules.{rules}
use Rattle.record.specs.Layout.{seats}
use Rattle.std.specs.Bool.{then_some}
use Rattle.find.specs.Find.{scan_of}
use Rattle.find.specs.Answer.{holder_of}
use Rattle.find.specs.inner.Steps.{prints}
use Rattle.find.proofs.Steps.{start-ready, end-ready, end-found}
use Rattle.find.proofs.Leftward.{holder-seat}
use Rattle.find.proofs.search.Goals as goal
use Rattle.find.proofs.search.Goals.{After-to_holder-r}

pub advance-e-requires : goal.advance-e-requires
advance-e-requires c =
    start-ready c.args.rec.now c.args.x c.args.s c.requires.0 c.requires.1 _ (omega arith)
    (λ j. search rules) (omega arith)

-- the end of the walk
pub to_holder-r-requires : goal.to_holder-r-requires
to_holder-r-requires c =
    end-ready c.args.rec.now c.args.x c.args.s c.requires.0 c.requires.1 _ (omega arith) c.advance-e.result c.advance-e.ensures

-- where the left steps end: a seat, and what the search answers
ends : (c : After-to_holder-r) → c.to_holder-r.result.seat < seats
ends c =
    let r = end-ready c.args.rec.now c.args.x c.args.s c.requires.0 c.requires.1 _ (omega arith) c.advance-e.result c.advance-e.ensures in
    holder-seat r c.args.x c.to_holder-r.result c.to_holder-r.ensures

found : (c : After-to_holder-r) → let l = c.args.rec.now in let r = c.to_holder-r.result in
    scan_of l c.args.s c.args.x
    ≡ record { holder = cond (prints l c.args.x r.seat) (some r.seat) none; hops = r.hops }
found c =
    end-found c.args.rec.now c.args.x c.args.s c.requires.0 c.requires.1 c.advance-e.result c.to_holder-r.result
    c.advance-e.ensures c.to_holder-r.ensures

pub is_printable-requires : goal.is_printable-requires
is_printable-requires c = ends (goal.at.is_printable-requires c).After-to_holder-r

pub overflow_cast-r : goal.overflow_cast-r
overflow_cast-r c = omega (arith, ends (goal.at.overflow_cast-r c).After-to_holder-r)

-- the holder's seat, or none
holding : (b : Bool) (s : ℕ) → holder_of (then_some b s) ≡ cond b (some s) none
holding true s = refl
holding false s = refl

pub returns : goal.returns
returns c =
    let h = ap holder_of c.then_some-holder.ensures ∙ holding c.is_printable.result c.to_holder-r.result.seat in
    rw (h, c.is_printable.ensures, found (goal.at.returns c).After-to_holder-r)
