-- Lots joined by links and pending MEETs together, directly or through others (document 02, #107: a MEET still pending counts as a link between its two
-- lots), at any level. In a sound meaning links and messages name seated lots alone. Assumes nothing.
use Rattle.std.specs.Prelude.{ℕ, ◌≡◌, ◌⊎◌, T}
use Rattle.std.proofs.Math.Option.{some}
use Rattle.graph.specs.Side.{Side}
use Rattle.protocol.specs.Message.{meet}
use Rattle.protocol.specs.State.{Meaning}

pub data Tied (M : Meaning) : ℕ → ℕ → Type 0 where
  same : {x : ℕ} → Tied M x x
  linked : {x y k : ℕ} {d : Side} → M.link x k d ≡ some y → Tied M x y
  met : {x y : ℕ} (k : ℕ) → T (M.pending (meet x y k)) → Tied M x y
  turned : {x y : ℕ} → Tied M x y → Tied M y x
  through : {x y z : ℕ} → Tied M x y → Tied M y z → Tied M x z

-- x and y are of one component, or one of them is of a's and the other of b's
abbrev pub Uniting : (a b : ℕ) (One : ℕ → ℕ → Type 0) (x y : ℕ) → Type 0
Uniting a b One x y = One x y ⊎ ((One x a × One b y) ⊎ (One x b × One a y))
