-- What the lists of a level come to, as document 01 words it ("Lots and lists", "The program"): a list holds all lots that share the same first k bits,
-- ascending by number; each list of two or more is printed, once, bits ascending. Of the skip graph of the members, made within each component.
-- Assumes nothing.
use Rattle.std.specs.Prelude.{ℕ, ◌<◌, ◌≡◌, ◌↔◌, ◌≢◌, T}
use Rattle.std.proofs.Math.Option.{some}
use mathlib.Core.List.{List, [], ◌∷◌, Memᴰ}
use Rattle.graph.specs.Graph.{Lots, in_list, graph}
use Rattle.listing.specs.Lists.{right_from, comes_before, firsts}

-- each lot of a list has a larger number than the one before it
pub data Ascending (number : ℕ → ℕ) : List ℕ → Type 0 where
  nothing : Ascending number []
  single : {x : ℕ} → Ascending number (x ∷ [])
  larger : {x y : ℕ} {xs : List ℕ} → number x < number y → Ascending number (y ∷ xs) → Ascending number (x ∷ y ∷ xs)

-- each list comes before the one after it
pub data InOrder (W : ℕ) (G : Lots) (k : ℕ) : List ℕ → Type 0 where
  nothing : InOrder W G k []
  single : {x : ℕ} → InOrder W G k (x ∷ [])
  later : {x y : ℕ} {xs : List ℕ} → T (comes_before W G k x y) → InOrder W G k (y ∷ xs) → InOrder W G k (x ∷ y ∷ xs)

module _ (N W : ℕ) (G : Lots) (k : ℕ) where
  -- the lots with which lists begin, and the lots of the list of x
  abbrev pub begun : List ℕ
  begun = firsts W G (graph N W G) N k

  abbrev pub lots_of : (x : ℕ) → List ℕ
  lots_of x = right_from (graph N W G) N k (some x)

  pub record Lists : Type 0 where
    -- every list of two or more is there
    pub every : (y z : ℕ) → T (G.member y) → T (in_list W G k y z) → y ≢ z → (x : ℕ) × Memᴰ x begun × T (in_list W G k x y)
    -- only such, and none twice
    pub two : (x : ℕ) → Memᴰ x begun → (z : ℕ) × T (in_list W G k x z) × (x ≢ z)
    pub once : (x y z : ℕ) → Memᴰ x begun → Memᴰ y begun → T (in_list W G k x z) → T (in_list W G k y z) → x ≡ y
    pub ordered : InOrder W G k begun
    -- with all its lots, ascending
    pub lots : (x z : ℕ) → Memᴰ x begun → Memᴰ z (lots_of x) ↔ T (in_list W G k x z)
    pub ascending : (x : ℕ) → Memᴰ x begun → Ascending G.number (lots_of x)
