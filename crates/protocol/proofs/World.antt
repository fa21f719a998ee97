-- The lots during deliveries, with the two laws that the proofs use of them: numbers are small, and different for different lots.
-- Assumes nothing beyond these fields; Reached makes one of the seats of every sound meaning.
use Prim.Native.Nat.{ℕ, suc, ◌^◌, ◌≤◌, ◌<◌}
use mathlib.Core.Path.{◌≡◌, sym, ◌∙◌}
use mathlib.Core.Logic.{◌⊎◌, inl, inr, ◌≢◌}
use mathlib.Core.Bool.{Bool}
use native.Mathlib.Omega.{arith}
use native.Mathlib.Decide.{ℕ_discrete}
use Rattle.graph.specs.Side.{Side}
use Rattle.graph.specs.Vector.{bit, shared}
use Rattle.graph.specs.Graph.{Links}
use Rattle.graph.specs.inner.Order.{Lt}
use Rattle.graph.proofs.Order.{lt-some, lt-either}
use Rattle.graph.proofs.Shared.{shared-le, shared-sym, shared-trans, shared-bit, bit-shared}
use Rattle.protocol.specs.Message.{Msg}
use Rattle.protocol.specs.Sound.{number_bits}

pub record World : Type 1 where
  pub W : ℕ
  pub Seated : ℕ → Type 0
  pub num : ℕ → ℕ
  pub vec : ℕ → ℕ
  pub comp : ℕ → ℕ
  pub small : (x : ℕ) → num x < 2 ^ number_bits
  pub differ : (x y : ℕ) → Seated x → Seated y → num x ≡ num y → x ≡ y

-- links and pending messages
pub record State : Type 1 where
  pub link : Links
  pub pend : Msg → Type 0

-- nothing is pending
abbrev pub Quiet : State → Type 0
Quiet S = (m : Msg) → S.pend m → ⊥

-- how many bits two lots share, and bit k of a lot
abbrev pub share : World → ℕ → ℕ → ℕ
share G x y = shared G.W (G.vec x) (G.vec y)

abbrev pub bit_of : World → ℕ → ℕ → Bool
bit_of G k x = bit G.W k (G.vec x)

-- two seated lots of one component that share k bits
pub record Pair (G : World) (k x y : ℕ) : Type 0 where
  pub fst : G.Seated x
  pub snd : G.Seated y
  pub same : G.comp x ≡ G.comp y
  pub bits : k ≤ share G x y

module _ (G : World) where
  pub share-W : (x y : ℕ) → share G x y ≤ G.W
  share-W x y = shared-le G.W (G.vec x) (G.vec y)

  pub share-sym : (x y : ℕ) → share G x y ≡ share G y x
  share-sym x y = shared-sym G.W (G.vec x) (G.vec y)

  pub share-trans : (k x y z : ℕ) → k ≤ share G x y → k ≤ share G y z → k ≤ share G x z
  share-trans k x y z p q = shared-trans G.W k (G.vec x) (G.vec y) (G.vec z) p q

  pub bit-eq : (k x y : ℕ) → k < share G x y → bit_of G k x ≡ bit_of G k y
  bit-eq k x y l = shared-bit G.W k (G.vec x) (G.vec y) l

  pub bit_up : (k x y : ℕ) → k ≤ share G x y → k < G.W → bit_of G k x ≡ bit_of G k y → k < share G x y
  bit_up k x y p l e = bit-shared G.W k (G.vec x) (G.vec y) p l e

  -- two seated lots lie on some side of each other
  pub seat-side : (x y : ℕ) → G.Seated x → G.Seated y → x ≢ y → (d : Side) × Lt G.num d x y
  seat-side x y sx sy ne = lt-some G.num x y (λ e. ne (G.differ x y sx sy e))

  -- seen along one side
  pub seat-tri : (d : Side) (x y : ℕ) → G.Seated x → G.Seated y → (x ≡ y) ⊎ (Lt G.num d x y ⊎ Lt G.num d y x)
  seat-tri d x y sx sy = by (ℕ_discrete x y)
    where
      by : Dec (x ≡ y) → (x ≡ y) ⊎ (Lt G.num d x y ⊎ Lt G.num d y x)
      by (yes e) = inl e
      by (no ne) = inr (lt-either G.num d x y (λ e. ne (G.differ x y sx sy e)))

module _ {G : World} where
  pub pair-sym : {k x y : ℕ} → Pair G k x y → Pair G k y x
  pair-sym {k} {x} {y} p = record { fst = p.snd; snd = p.fst; same = sym p.same; bits = rw (share-sym G y x) p.bits }

  pub pair-trans : {k x y z : ℕ} → Pair G k x y → Pair G k y z → Pair G k x z
  pair-trans {k} {x} {y} {z} p q = record { fst = p.fst; snd = q.snd; same = p.same ∙ q.same; bits = share-trans G k x y z p.bits q.bits }

  pub pair-lower : {k x y : ℕ} → Pair G (suc k) x y → Pair G k x y
  pair-lower p = let b = p.bits in record { fst = p.fst; snd = p.snd; same = p.same; bits = omega arith }

  pub pair-level : {k x y : ℕ} → Pair G k x y → k ≤ G.W
  pair-level {k} {x} {y} p = omega (arith, p.bits, share-W G x y)
