-- Members compared by their numbers, and two instances of the laws of lots, which show that they can be met. Assumes nothing.
use Prim.Native.Nat.{ℕ}
use mathlib.Core.Path.{◌≡◌}
use mathlib.Core.Logic.{◌⊎◌, inl, inr}
use mathlib.Core.Bool.{false}
use native.Mathlib.Decide.{ℕ_discrete}
use lib.Dec.{T, ltb, ltb→lt}
use Rattle.graph.specs.Side.{Side}
use Rattle.graph.specs.Graph.{Lots, Laws}
use Rattle.graph.specs.inner.Order.{Lt}
use Rattle.graph.proofs.Order.{lt-either}

-- two members are one, or one lies on side d of the other
pub member-compare : {N : ℕ} {G : Lots} → Laws N G → (d : Side) (x y : ℕ) → T (G.member x) → T (G.member y)
    → (x ≡ y) ⊎ (Lt G.number d x y ⊎ Lt G.number d y x)
member-compare {G = G} laws d x y mx my = by (ℕ_discrete x y)
  where
    by : Dec (x ≡ y) → (x ≡ y) ⊎ (Lt G.number d x y ⊎ Lt G.number d y x)
    by (yes e) = inl e
    by (no n) = inr (lt-either G.number d x y (λ e. n (laws.differ x y mx my e)))

-- no member
abbrev pub nobody_seated : Lots
nobody_seated = record { member = λ x. false; number = λ x. x; vector = λ x. 0; component = λ x. 0 }

pub laws-nobody : (N : ℕ) → Laws N nobody_seated
laws-nobody N = record { seat = λ x m. absurd m; differ = λ x y mx my e. e }

-- members on seats 0 and 1, each with its seat for a number
abbrev pub two_seated : Lots
two_seated = record { member = λ x. ltb x 2; number = λ x. x; vector = λ x. 0; component = λ x. 0 }

pub laws-two : Laws 2 two_seated
laws-two = record { seat = λ x m. ltb→lt x 2 m; differ = λ x y mx my e. e }
