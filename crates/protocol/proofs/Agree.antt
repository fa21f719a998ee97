-- Two worlds that agree on some lots, in number and vector: these lie and share in the one as in the other. Assumes nothing.
use Prim.Native.Nat.{ℕ}
use mathlib.Core.Path.{◌≡◌, sym}
use Rattle.graph.specs.Side.{Side}
use Rattle.graph.specs.inner.Order.{Lt, to_l, to_r}
use Rattle.protocol.proofs.World.{World, share, bit_of, Pair}

pub record Agree (On : ℕ → Type 0) (G H : World) : Type 0 where
  pub width : H.W ≡ G.W
  pub number : (x : ℕ) → On x → H.num x ≡ G.num x
  pub vector : (x : ℕ) → On x → H.vec x ≡ G.vec x

module _ {On : ℕ → Type 0} {G H : World} (a : Agree On G H) where
  pub agree-back : Agree On H G
  agree-back = record { width = sym a.width; number = λ x o. sym (a.number x o); vector = λ x o. sym (a.vector x o) }

  pub agree-lt : {d : Side} {x y : ℕ} → On x → On y → Lt G.num d x y → Lt H.num d x y
  agree-lt {x = x} {y = y} o p (to_l l) = to_l {x = x} {y = y} (rw (a.number x o, a.number y p) l)
  agree-lt {x = x} {y = y} o p (to_r l) = to_r {x = x} {y = y} (rw (a.number x o, a.number y p) l)

  pub agree-share : (x y : ℕ) → On x → On y → share H x y ≡ share G x y
  agree-share x y o p = rw (a.width, a.vector x o, a.vector y p)

  pub agree-bit : (k x : ℕ) → On x → bit_of H k x ≡ bit_of G k x
  agree-bit k x o = rw (a.width, a.vector x o)

  -- two lots that are seated there, too, in one component
  pub agree-pair : {k x y : ℕ} → On x → On y → H.Seated x → H.Seated y → H.comp x ≡ H.comp y → Pair G k x y → Pair H k x y
  agree-pair {k} {x} {y} o p sx sy e q = record { fst = sx; snd = sy; same = e; bits = rw (agree-share x y o p) q.bits }
