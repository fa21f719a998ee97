-- What is promised of a search: the right holder among the lots that are sought, the staying ones (document 02, #104) of the start's component
-- (#106), and a path that meets no lot twice and stays between its ends. Assumes nothing.
use Rattle.std.specs.Prelude.{ℕ, ◌≤◌, min, max, Bool, T}
use Rattle.std.proofs.Math.Option.{Option, none, some}
use mathlib.Core.List.{List, [], ◌∷◌, Memᴰ}

-- h is the holder of x: of the lots that are sought the one with the largest number that is not above x
pub record Holds (sought : ℕ → Bool) (number : ℕ → ℕ) (x h : ℕ) : Type 0 where
  pub found : T (sought h)
  pub below : number h ≤ x
  pub largest : (z : ℕ) → T (sought z) → number z ≤ x → number z ≤ number h

-- the right answer to a search for x: the holder, or none if no lot that is sought has a number that is not above x
pub data RightHolder (sought : ℕ → Bool) (number : ℕ → ℕ) (x : ℕ) : Option ℕ → Type 0 where
  holds : {h : ℕ} → Holds sought number x h → RightHolder sought number x (some h)
  nobody : ((z : ℕ) → T (sought z) → number z ≤ x → ⊥) → RightHolder sought number x none

-- no lot stands twice in a list
pub data Once : List ℕ → Type 0 where
  nothing : Once []
  new : {y : ℕ} {p : List ℕ} → ¬ (Memᴰ y p) → Once p → Once (y ∷ p)

-- n lies between a and b, both included
pub record Between (a b n : ℕ) : Type 0 where
  pub low : min a b ≤ n
  pub high : n ≤ max a b
