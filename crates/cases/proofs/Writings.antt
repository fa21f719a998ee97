-- The examples of a link written hold. Assumes nothing.
use Prim.Native.Nat.{ℕ}
use mathlib.Core.Path.{refl, sym, ap, ◌∙◌}
use mathlib.Core.Logic.{inr}
use mathlib.Core.List.{List}
use native.Mathlib.Omega.{arith}
use lib.ListN.{get_or}
use Rattle.memory.proofs.Bytes.{number_at-one}
use Rattle.base.specs.Loops.{tabulate_from}
use Rattle.graph.specs.Side.{left, right}
use Rattle.record.proofs.Lent.{link_set}
use Rattle.cases.specs.Writings.{bytes, Writings}

pub writings : Writings
unfolding tabulate_from
writings = record {
  sets = (
    link_set bytes 0 left 63 10 refl (omega arith) refl,
    link_set bytes 8 right 63 27 refl (omega arith) refl,
    link_set bytes 2 left 63 14 refl (omega arith) refl,
  );
  beside = (
    λ w. let e = sym (number_at-one _ 10) ∙ w.link in omega arith,
    λ w. let e = sym (number_at-one _ 10) ∙ w.link in omega arith,
  );
  opposite = λ w. let e = w.others 15 (inr (omega arith)) in omega arith;
  same = link_set bytes 2 left 14 14 refl (omega arith) refl;
  kept = (refl, λ w. let e = ap (λ (l : List ℕ). get_or l 14 0) w in omega arith);
}
