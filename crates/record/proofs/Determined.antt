-- An answer is determined by its number: a refusal has a number other than 0, and no two have one. Assumes nothing.
use Prim.Native.Nat.{ℕ, ◌-◌, ◌<◌}
use mathlib.Core.Path.{◌≡◌, refl, sym, ap, ◌∙◌}
use mathlib.Core.List.{List, [], ◌∷◌}
use native.Mathlib.Omega.{arith}
use lib.ListN.{get_or}
use Rattle.std.specs.Prelude.{Result, Ok, Err}
use Rattle.record.specs.Answer.{refusal_number, number_of}
use Rattle.record.specs.declared.refusals.Refusal.{Refusal}
use Rattle.record.specs.declared.refusals.Refusal.TheVariants as refused

-- the number of a refusal is not 0, which stands for an accepted call
pub refusal_number-positive : (r : Refusal) → 0 < refusal_number r
refusal_number-positive refused.WrongSize = omega arith
refusal_number-positive refused.Unsound = omega arith
refusal_number-positive refused.NoSuchSeat = omega arith
refusal_number-positive refused.SeatTaken = omega arith
refusal_number-positive refused.NumberInUse = omega arith
refusal_number-positive refused.NoContact = omega arith
refusal_number-positive refused.InClearing = omega arith
refusal_number-positive refused.EmptySeat = omega arith
refusal_number-positive refused.AlreadyLeaving = omega arith
refusal_number-positive refused.NoSuchMessage = omega arith
refusal_number-positive refused.MessagesLeft = omega arith
refusal_number-positive refused.NoSuchLevel = omega arith
refusal_number-positive refused.Unsettled = omega arith
refusal_number-positive refused.NotReserved = omega arith
refusal_number-positive refused.SameLot = omega arith

-- the refusals in the order of their numbers
abbrev refusals : List Refusal
refusals =
    refused.WrongSize
    ∷ refused.Unsound
    ∷ refused.NoSuchSeat
    ∷ refused.SeatTaken
    ∷ refused.NumberInUse
    ∷ refused.NoContact
    ∷ refused.InClearing
    ∷ refused.EmptySeat
    ∷ refused.AlreadyLeaving
    ∷ refused.NoSuchMessage
    ∷ refused.MessagesLeft
    ∷ refused.NoSuchLevel
    ∷ refused.Unsettled
    ∷ refused.NotReserved
    ∷ refused.SameLot
    ∷ []

abbrev refusal_at : ℕ → Refusal
refusal_at n = get_or refusals (n - 1) refused.WrongSize

refusal-again : (r : Refusal) → refusal_at (refusal_number r) ≡ r
refusal-again refused.WrongSize = refl
refusal-again refused.Unsound = refl
refusal-again refused.NoSuchSeat = refl
refusal-again refused.SeatTaken = refl
refusal-again refused.NumberInUse = refl
refusal-again refused.NoContact = refl
refusal-again refused.InClearing = refl
refusal-again refused.EmptySeat = refl
refusal-again refused.AlreadyLeaving = refl
refusal-again refused.NoSuchMessage = refl
refusal-again refused.MessagesLeft = refl
refusal-again refused.NoSuchLevel = refl
refusal-again refused.Unsettled = refl
refusal-again refused.NotReserved = refl
refusal-again refused.SameLot = refl

pub refusal-determined : (r s : Refusal) → refusal_number r ≡ refusal_number s → r ≡ s
refusal-determined r s e = sym (refusal-again r) ∙ ap refusal_at e ∙ refusal-again s

-- two answers with one number are the same, where no value comes with an accepted call
pub answer-determined : (a b : Result (Unit {0}) Refusal) → number_of a ≡ number_of b → a ≡ b
unfolding number_of
answer-determined (Ok x) (Ok y) e = refl
answer-determined (Ok x) (Err r) e = absurd (omega (arith, e, refusal_number-positive r))
answer-determined (Err r) (Ok x) e = absurd (omega (arith, e, refusal_number-positive r))
answer-determined (Err r) (Err s) e = ap Err (refusal-determined r s e)
