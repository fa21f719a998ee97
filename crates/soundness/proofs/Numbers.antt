-- That numbers differ: of one seat and those below it, and of all seats. Assumes nothing.
use Prim.Native.Nat.{ℕ, zero, suc}
use mathlib.Core.Path.{◌≡◌, refl, ◌∙◌}
use mathlib.Core.Bool.{Bool, true, false, not, ◌&&◌, ◌||◌}
use mathlib.Core.List.{List}
use Rattle.base.specs.Loops.{all, any}
use Rattle.base.proofs.All.{all_from, all_same, all-and}
use Rattle.protocol.specs.State.{taken}
use Rattle.record.specs.Layout.{seats}
use Rattle.record.specs.Meaning.{seats_in}
use Rattle.record.specs.Sound.{numbers_differ}
use Rattle.soundness.specs.inner.Parts.{differ, seat_fits}
use Rattle.soundness.specs.inner.Buckets.{same_number}

none-all : (n : ℕ) (p : ℕ → Bool) → all n (λ y. not (p y)) ≡ not (any n p)
unfolding all any
none-all zero p = refl
none-all (suc n) p = rw (none-all n p) (by (any n p) (p n))
  where
    by : (a b : Bool) → not a && not b ≡ not (b || a)
    by true true = refl
    by true false = refl
    by false true = refl
    by false false = refl

-- a lot and every seat below it, by the search for its number; a free seat
module _ (l : List ℕ) (s : ℕ) where
  pub all-differ : taken (seats_in l) s ≡ true → all s (differ l s) ≡ not (any s (same_number l s))
  all-differ t = all_same s (differ l s) (λ y. not (same_number l s y)) (λ y h. rw t) ∙ none-all s (same_number l s)

  pub free-differs : taken (seats_in l) s ≡ false → all s (differ l s) ≡ true
  free-differs f = all_from s (differ l s) (λ y h. rw f)

-- the clauses of the seats and that on numbers, seat by seat
pub seat-clauses : (l : List ℕ) → all seats (λ s. seat_fits l s && all s (differ l s)) ≡ all seats (seat_fits l) && numbers_differ l
unfolding numbers_differ
seat-clauses l = all-and seats (seat_fits l) (λ s. all s (differ l s))
