-- `find::find` meets its contract: the refusals, then the search. Assumes nothing.
use Prim.Native.Nat.{ℕ}
use mathlib.Core.Path.{◌≡◌, sym, ap, ◌∙◌}
use mathlib.Core.Logic.{◌≢◌}
use mathlib.Core.List.{List}
use mathlib.Core.Option.{none}
use native.Mathlib.Omega.{arith}
use borrow.Author.Rules.{rules}
use borrow.Author.Tests.{ne_eqb}
use Rattle.std.specs.Prelude.{Result, Ok, Err}
use Rattle.std.specs.Result.{IsErrAnd}
use Rattle.record.specs.Answer.{refusal_number, number_of}
use Rattle.record.specs.declared.refusals.Refusal.{Refusal}
use Rattle.record.proofs.Determined.{refusal_number-positive}
use Rattle.find.specs.declared.Found.{Found}
use Rattle.find.specs.Find.{find_refusal, find_in}
use Rattle.find.specs.Answer.{found_numbers}
use Rattle.find.proofs.Fits.{sound-fit}
use Rattle.find.proofs.Refused.{accepted, no-record}
use Rattle.find.proofs.Scans.{find-says}
use Rattle.find.proofs.find.Goals as goal

refusing : (l : List ℕ) (s x n : ℕ) → n ≡ find_refusal l s → n ≢ 0 → record { refused = n; holder = none; hops = 0 } ≡ find_in l s x
unfolding find_in
refusing l s x n e h = rw (← e, ne_eqb n 0 h)

refused : (B : Type 0) (l : List ℕ) (s x : ℕ) (a : Result Found Refusal) (r : Refusal) → IsErrAnd a (λ q. q ≡ r)
    → number_of {A = B} (Err r) ≡ find_refusal l s → found_numbers a ≡ find_in l s x
unfolding number_of
refused B l s x (Ok f) r e h = absurd e
refused B l s x (Err q) r e h = refusing l s x (refusal_number q) (ap refusal_number e ∙ h) (λ z. omega (arith, z, refusal_number-positive q))

-- no row applies
answered : {A : Type 0} (l : List ℕ) (s : ℕ) (y : A) → number_of (Ok y) ≡ find_refusal l s → find_refusal l s ≡ 0
unfolding number_of
answered l s y e = sym e

pub returns-in_default : goal.returns-in_default
returns-in_default c = refusing _ _ _ _ (no-record _ c.args.seat c.in_default.ensures.cases) (λ z. omega (arith, z))

pub returns-in_err-find_refusal : goal.returns-in_err-find_refusal
returns-in_err-find_refusal c =
    rw (← c.in-Some.ensures.cases.same) (refused _ _ _ _ c.from_residual.result _ c.from_residual.ensures.1 c.in_err-find_refusal.ensures)

pub search-requires : goal.search-requires
search-requires c = let p = accepted _ _ (answered _ c.args.seat _ c.in_ok-find_refusal.ensures) in
    (sound-fit _ p.passed.sized (λ j. search rules) p.passed.fine, p.lot)

pub returns : goal.returns
returns c =
    rw (← c.in-Some.ensures.cases.same) (c.search.ensures ∙ sym (find-says _ _ _ (answered _ c.args.seat _ c.in_ok-find_refusal.ensures)))
