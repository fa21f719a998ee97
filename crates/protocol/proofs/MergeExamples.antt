-- The page of a merge evaluated at three seats and width 2: what is sent, where it is refused, and the components that the roster keeps. Assumes nothing.
use Prim.Native.Nat.{ℕ}
use mathlib.Core.Path.{◌≡◌, refl}
use mathlib.Core.Bool.{cond}
use mathlib.Core.List.{List, [], ◌∷◌}
use lib.Dec.{eqb}
use Rattle.base.specs.Loops.{any}
use Rattle.protocol.specs.Message.{meet}
use Rattle.protocol.specs.State.{Meaning, nobody, opened, is_pending}
use Rattle.protocol.specs.Calls.{merge, rows, refusal, seats_after, components_after, sends, takes, links_after, accept, unless_refused, call}
use Rattle.protocol.specs.Refusals.{first}
use Rattle.protocol.specs.Page.{at, is_taken, pending_after}
use Rattle.protocol.specs.pages.Merge.{united}
use Rattle.protocol.specs.Run.{steps_from, step, steps, meaning_run}
use Rattle.protocol.proofs.Examples.{joined-Q, settled-Q}

-- the components after a merge of the lots a and b, of lots with these
components : (ℕ → ℕ) → (a b : ℕ) → List ℕ
components c a b = let k = components_after 3 2 settled-Q.seats c (merge a b) in k 0 ∷ k 1 ∷ k 2 ∷ []

refused : Meaning → (a b : ℕ) → ℕ
refused M a b = refusal 3 2 M.seats M.pending (merge a b)

record Evaluated : Type 0 where
  -- the first is sent MEET about the second, at level 0
  sent : sends 3 2 settled-Q (merge 0 1) ≡ meet 0 1 0 ∷ []
  -- the roster: all lots of the second's component are in the first's, also those that are not named; within one component none changes
  two : components (λ x. x) 0 2 ≡ 0 ∷ 1 ∷ 0 ∷ []
  back : components (λ x. x) 2 0 ≡ 2 ∷ 1 ∷ 2 ∷ []
  all : components (λ x. cond (eqb x 0) 0 2) 0 1 ≡ 0 ∷ 0 ∷ 0 ∷ []
  one : components (λ x. cond (eqb x 1) 1 0) 0 2 ≡ 0 ∷ 1 ∷ 0 ∷ []
  -- accepted while messages are pending; refused for the same lot, and before that for a seat without one
  pending : refused joined-Q 0 1 ≡ 0
  itself : refused settled-Q 1 1 ≡ 15
  nobody_there : refused opened 1 1 ≡ 8

evaluated : Evaluated
unfolding settled-Q joined-Q components refused components_after united sends refusal rows first meaning_run steps_from step steps opened nobody call
    unless_refused accept any is_pending seats_after at takes is_taken pending_after links_after
evaluated = record { sent = refl; two = refl; back = refl; all = refl; one = refl; pending = refl; itself = refl; nobody_there = refl }
