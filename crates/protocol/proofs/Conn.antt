-- Connected at a level: by links of the level and pending MEETs of the level. Deliveries keep it. Assumes nothing.
use Prim.Native.Nat.{ℕ}
use mathlib.Core.Path.{◌≡◌, sym, subst}
use mathlib.Core.Logic.{◌⊎◌, inl, inr}
use mathlib.Core.Option.{Option, some}
use Rattle.graph.specs.Side.{Side}
use Rattle.protocol.specs.Message.{Msg, meet}
use Rattle.protocol.proofs.World.{World, State, Pair, seat-side}
use Rattle.protocol.proofs.Delivery.{link-kept}
use Rattle.protocol.proofs.Open.{Sets, Opened, Proper, ok-pair, ok-ne}
use Rattle.protocol.proofs.Back.{Met, linked, passed, Lost, met, lost}

pub data Conn (S : State) (k : ℕ) : ℕ → ℕ → Type 0 where
  crefl : {x : ℕ} → Conn S k x x
  clink : {x y : ℕ} {d : Side} → S.link x k d ≡ some y → Conn S k x y
  cmeet : {x y : ℕ} → S.pend (meet x y k) → Conn S k x y
  csym : {x y : ℕ} → Conn S k x y → Conn S k y x
  ctrans : {x y z : ℕ} → Conn S k x y → Conn S k y z → Conn S k x z

-- all lots of one component that share k bits are connected at level k
pub record Whole (G : World) (S : State) (k : ℕ) : Type 0 where
  pub conn : {x y : ℕ} → Pair G k x y → Conn S k x y

pub conn-eq : {S : State} {k x y : ℕ} → x ≡ y → Conn S k x y
conn-eq {S} {k} {x} e = subst (λ (z : ℕ). Conn S k x z) e crefl

module _ {G : World} where
  met-conn : {S' : State} {x y k : ℕ} {d : Side} → Met G S' x y k d → Conn S' k x y
  met-conn (linked e) = clink e
  met-conn (passed o e n q p) = ctrans (clink e) (cmeet p)

  lost-conn : {S' : State} {x k y : ℕ} {d : Side} → Lost G S' x k d y → Conn S' k x y
  lost-conn q = ctrans (clink q.new) (cmeet q.told)

  link-conn : {S S' : State} {m : Msg} {x k y : ℕ} {d : Side} → Opened G S m S' → S.link x k d ≡ some y
      → (S'.link x k d ≡ some y) ⊎ ((v : Option ℕ) × Sets G S m x k d v) → Conn S' k x y
  link-conn t e (inl f) = clink f
  link-conn t e (inr s) = lost-conn (lost t e s.1)

  meet-conn : {S S' : State} {m : Msg} {x y k : ℕ} → Proper G S → Opened G S m S' → S.pend (meet x y k)
      → (meet x y k ≡ m) ⊎ S'.pend (meet x y k)
      → Conn S' k x y
  meet-conn {S} {S'} {m} {x} {y} {k} h t p (inl e) =
      let o = h.pend-ok p in
      met-conn (met h (subst (λ (n : Msg). Opened G S n S') (sym e) t) (seat-side G x y (ok-pair o).fst (ok-pair o).snd (ok-ne o)).1)
  meet-conn h t p (inr q) = cmeet q

  pub conn-kept : {S S' : State} {m : Msg} {k x y : ℕ} → Proper G S → Opened G S m S' → Conn S k x y → Conn S' k x y
  conn-kept h t crefl = crefl
  conn-kept h t (clink e) = link-conn t e (link-kept t e)
  conn-kept {k = k} h t (cmeet {x} {y} p) = meet-conn h t p (t.kept (meet x y k) p)
  conn-kept h t (csym c) = csym (conn-kept h t c)
  conn-kept h t (ctrans c e) = ctrans (conn-kept h t c) (conn-kept h t e)
