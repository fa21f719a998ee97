-- The invariant of phase clearing goes over into a world with the same lots, each as it was. Assumes nothing.
use Prim.Native.Nat.{ℕ}
use mathlib.Core.Path.{◌≡◌}
use mathlib.Core.Logic.{◌⊎◌, inl, inr}
use mathlib.Core.Option.{Option}
use Rattle.graph.specs.Side.{Side}
use Rattle.graph.specs.Graph.{Links}
use Rattle.graph.specs.inner.Order.{Lt}
use Rattle.protocol.specs.Message.{Msg, seek, found}
use Rattle.protocol.proofs.World.{World, State, Pair}
use Rattle.protocol.proofs.Clearing.{Target, nobody, nearest, AllLinks, Ok, ok-going, ok-seek, ok-found, ok-none, Clearing}
use Rattle.protocol.proofs.Clearing.{Todo, done, by-going, by_seek, by_found, by-none}
use Rattle.protocol.proofs.Join.{Has, lt-over, pair-over}

-- each world has the lots of the other
module _ {G G' : World} (g : Has G G') (b : Has G' G) (Stay : ℕ → Type 0) where
  -- of some lots none lies before y
  least-over : {P : ℕ → Type 0} {k x y : ℕ} {d : Side} → G.Seated y
      → ((z : ℕ) → Pair G k x z → P z → Lt G.num d x z → (z ≡ y) ⊎ Lt G.num d y z)
      → (z : ℕ) → Pair G' k x z → P z → Lt G'.num d x z → (z ≡ y) ⊎ Lt G'.num d y z
  least-over {y = y} {d} sy f z p t l = by (f z (pair-over b p) t (lt-over b p.fst p.snd l))
    where
      by : (z ≡ y) ⊎ Lt G.num d y z → (z ≡ y) ⊎ Lt G'.num d y z
      by (inl e) = inl e
      by (inr m) = inr (lt-over g sy (b.still z p.snd) m)

  side-of : {k x y : ℕ} {d : Side} → Pair G k x y → Lt G.num d x y → Lt G'.num d x y
  side-of p l = lt-over g p.fst p.snd l

  target-over : {k x : ℕ} {d : Side} {o : Option ℕ} → Target G Stay k x d o → Target G' Stay k x d o
  target-over (nobody f) = nobody (λ z p s l. f z (pair-over b p) s (lt-over b p.fst p.snd l))
  target-over (nearest p s l f) = nearest (pair-over g p) s (side-of p l) (least-over {P = Stay} p.snd f)

  pub links-same : {L : Links} → AllLinks G Stay L → AllLinks G' Stay L
  links-same a = record {
    pair = λ e. pair-over g (a.pair e);
    side = λ e. side-of (a.pair e) (a.side e);
    least = λ e z p l. least-over {P = λ z. Unit {0}} (a.pair e).snd (λ w q t m. a.least e w q m) z p tt l;
    last = λ e z p l. a.last e z (pair-over b p) (lt-over b p.fst p.snd l);
  }

  ok_same : {m : Msg} → Ok G Stay m → Ok G' Stay m
  ok_same (ok-going {x} {k} sx w) = ok-going {k = k} (g.still x sx) (rw g.agree.width w)
  ok_same (ok-seek st p l near) = ok-seek st (pair-over g p) (side-of p l) (least-over {P = Stay} p.snd near)
  ok_same (ok-found st l (nearest p s m f)) = ok-found st (side-of p l) (target-over (nearest p s m f))
  ok_same (ok-none {x} {k} sx w st t) = ok-none {k = k} (g.still x sx) (rw g.agree.width w) st (target-over t)

  seek-pair : {z x k : ℕ} → Ok G Stay (seek z x k) → Pair G k x z
  seek-pair (ok-seek st p l near) = p

  found-pair : {x z k : ℕ} → Ok G Stay (found x z k) → Pair G k x z
  found-pair (ok-found st l (nearest p s m f)) = p

  todo-same : {L : Links} {S : State} {x k : ℕ} {d : Side} → Clearing G Stay L S → Todo G Stay S x k d → Todo G' Stay S x k d
  todo-same c (done t) = done (target-over t)
  todo-same c (by-going p ne) = by-going p ne
  todo-same c (by_seek z l p) = by_seek z (side-of (seek-pair (c.ok p)) l) p
  todo-same c (by_found z l p) = by_found z (side-of (found-pair (c.ok p)) l) p
  todo-same c (by-none p) = by-none p

  pub clearing-same : {L : Links} {S : State} → Clearing G Stay L S → Clearing G' Stay L S
  clearing-same {L} {S} c = record {
    leaver = c.leaver;
    stayer = λ x k d st. by x k d (c.stayer x k d st);
    ok = λ p. ok_same (c.ok p);
    job = λ x k d sx st. todo-same c (c.job x k d (b.still x sx) st);
  }
    where
      by : (x k : ℕ) (d : Side) → (S.link x k d ≡ L x k d) ⊎ Target G Stay k x d (S.link x k d)
          → (S.link x k d ≡ L x k d) ⊎ Target G' Stay k x d (S.link x k d)
      by x k d (inl e) = inl e
      by x k d (inr t) = inr (target-over t)
