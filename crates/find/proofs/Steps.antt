-- The walk step by step, as the code takes it. Assumes nothing.
use Prim.Native.Nat.{ℕ, suc, ◌+◌, ◌-◌, ◌^◌, ◌≤◌, ◌<◌}
use mathlib.Core.Path.{◌≡◌, refl, sym, ◌∙◌, ap, subst}
use mathlib.Core.Bool.{true, false, cond}
use mathlib.Core.Option.{Option, none, some}
use mathlib.Core.List.{List, [], ◌∷◌}
use native.Mathlib.Omega.{arith}
use lib.Dec.{T}
use lib.ListN.{length}
use borrow.Author.Tests.{lt-ltb, eq-eqb, ne_eqb}
use Rattle.memory.specs.Bytes.{AreBytes}
use Rattle.memory.proofs.Bytes.{number_at-lt}
use Rattle.graph.specs.Side.{Side, left, on_side, side_of}
use Rattle.graph.specs.Graph.{Links}
use Rattle.graph.specs.Vector.{width}
use Rattle.protocol.specs.State.{seated, stays}
use Rattle.record.specs.Layout.{seats, number_size, number_from}
use Rattle.record.specs.Meaning.{seats_in, meaning}
use Rattle.search.specs.Walk.{Step, stop, move, drop, along, step_at}
use Rattle.base.proofs.Count.{count-le}
use Rattle.search.specs.inner.Search.{Search, found, moves, drops, ends, gap}
use Rattle.search.proofs.Ordered.{rank-bound}
use Rattle.search.proofs.Search.{move-nearer, search-path}
use Rattle.search.proofs.Hops.{search-seated, search-hops}
use Rattle.search.proofs.Left.{find-by}
use Rattle.find.specs.declared.Walk.{Walk}
use Rattle.find.specs.Find.{scan_of}
use Rattle.find.specs.Way.{left_from}
use Rattle.find.specs.inner.Steps.{Fit, remains, Ready, Went, Walked, ReadyLeft, prints}

-- along a link y that does not lie beyond x, one that does, and none
module _ (number : ℕ → ℕ) (L : Links) (x : ℕ) (d : Side) {o : Option ℕ} where
  pub along-moves : (y : ℕ) → some y ≡ o → on_side d x (number y) ≡ false → along number L x d o ≡ move y
  unfolding along
  along-moves y e f = rw (← e, f)

  pub along-past : (y : ℕ) → some y ≡ o → on_side d x (number y) ≡ true → along number L x d o ≡ drop
  unfolding along
  along-past y e f = rw (← e, f)

  pub along-none : none ≡ o → along number L x d o ≡ drop
  unfolding along
  along-none e = rw (← e)

-- no step, and a step onto seat y before a path
pub here : {w : Walk} → Went [] w w
here = record { seat = refl; hops = omega arith }

pub onto : {y k : ℕ} {p : List ℕ} {w r : Walk} → Went p (record { seat = y; level = k; hops = w.hops + 1 }) r → Went (y ∷ p) w r
onto v = record { seat = v.seat; hops = omega (arith, v.hops) }

-- a number that is not x: the step goes along the side of x
pub step-side : (number : ℕ → ℕ) (L : Links) (x s k : ℕ) (d : Side) {r : Step} → (number s ≡ x → ⊥) → d ≡ side_of (number s) x
    → along number L x d (L s k d) ≡ r → step_at number L x s k ≡ r
unfolding step_at
step-side number L x s k d {r} n e a = rw (ne_eqb (number s) x n) (subst (λ (q : Side). along number L x q (L s k q) ≡ r) e a)

module _ (l : List ℕ) (x : ℕ) (w : Walk) (h : Ready l x w) where
  abbrev number : ℕ → ℕ
  number = (seats_in l).number

  abbrev L : Links
  L = (meaning l).link

  pub lot-seat : w.seat < seats
  lot-seat = h.fit.seat w.seat h.lot

  pub stop-walked : number w.seat ≡ x → Walked l x w w
  unfolding step_at
  stop-walked e =
      let t : step_at number L x w.seat w.level ≡ stop = rw (eq-eqb (number w.seat) x e) in
      record { path = []; search = found t; went = here }

  -- a move to seat y
  module _ (y : ℕ) (t : step_at number L x w.seat w.level ≡ move y) where
    abbrev moved : Walk
    moved = record { seat = y; level = w.level; hops = w.hops + 1 }

    nearer : T (seated (seats_in l) y) × (gap (number y) x < gap (number w.seat) x)
    nearer = let k : w.level ≤ width = omega (arith, h.level) in move-nearer h.fit x w.seat h.lot k t

    -- a move is ready to go on with any hops that count no more than it
    pub move-ready : (n : ℕ) → n ≤ w.hops + 1 → Ready l x (record { seat = y; level = w.level; hops = n })
    move-ready n q = record { fit = h.fit; lot = nearer.0; level = h.level; room = omega (arith, nearer.1, h.room) }

    pub move-less : remains l x moved < remains l x w
    move-less = omega (arith, nearer.1)

    pub move-fits : w.hops + 1 < 2 ^ 64
    move-fits = omega (arith, nearer.1, h.room)

    pub move-walked : (r : Walk) → Walked l x moved r → Walked l x w r
    move-walked r v = record { path = y ∷ v.path; search = moves t v.search; went = onto v.went }

  -- no move: a level down, or the end
  module _ (t : step_at number L x w.seat w.level ≡ drop) where
    pub end-walked : w.level ≡ 0 → Walked l x w w
    end-walked e = record { path = []; search = rw e (ends (rw e at t)); went = here }

    module _ (n : w.level ≡ 0 → ⊥) where
      abbrev dropped : Walk
      dropped = record { seat = w.seat; level = w.level - 1; hops = w.hops }

      pub drop-ready : Ready l x dropped
      drop-ready = record { fit = h.fit; lot = h.lot; level = omega (arith, h.level); room = h.room }

      pub drop-walked : (r : Walk) → Walked l x dropped r → Walked l x w r
      drop-walked r v =
          let e : suc (w.level - 1) ≡ w.level = omega (arith, n) in
          record {
            path = v.path;
            search = subst (λ (k : ℕ). Search number L x w.seat k v.path) e (drops (rw e t) v.search);
            went = record { seat = v.went.seat; hops = v.went.hops };
          }

-- the number of a lot fits, so a walk from it has room for its hops
pub start-room : (l : List ℕ) (x s : ℕ) → AreBytes l → s < seats → x < 2 ^ 64 → gap ((seats_in l).number s) x < 2 ^ 64
unfolding seats_in
start-room l x s b h p = rw (lt-ltb s seats h) (omega (arith, number_at-lt l (number_from s) number_size b))

-- the walk from the top level at seat s, and what it leads to
module _ (l : List ℕ) (x s : ℕ) (f : Fit l) (m : T (seated (seats_in l) s)) where
  pub start-seat : s < seats
  start-seat = f.seat s m

  module _ (k : ℕ) (low : k ≤ width) where
    abbrev pub start : Walk
    start = record { seat = s; level = k; hops = 0 }

    pub start-ready : AreBytes l → x < 2 ^ 64 → Ready l x start
    start-ready b p = record { fit = f; lot = m; level = omega arith; room = omega (arith, start-room l x s b start-seat p) }

    module _ (e : Walk) (v : Walked l x start e) where
      -- it ends at a lot, with room for left steps
      pub end-ready : ReadyLeft l e
      end-ready = record {
        fit = f;
        lot = rw v.went.seat (search-seated f m low v.search);
        room = omega (
          arith,
          v.went.hops,
          search-hops f m low v.search,
          count-le seats (seated (seats_in l)),
          rank-bound seats (seated (seats_in l)) (seats_in l).number left e.seat,
        );
      }

  -- from the top level, and then to the holder, it is the search of specs/
  pub end-found : (e r : Walk) → Walked l x (record { seat = s; level = width; hops = 0 }) e → Went (left_from l x e.seat) e r
      → scan_of l s x ≡ record { holder = cond (prints l x r.seat) (some r.seat) none; hops = r.hops }
  end-found e r v u =
      find-by (stays (seats_in l)) (seats_in l).number (meaning l).link x seats width s (search-path f m v.search)
      (ap (left_from l x) (sym v.went.seat))
      ∙ rw (← v.went.seat, ← u.seat, hops)
    where
      hops : length v.path + length (left_from l x e.seat) ≡ r.hops
      hops = omega (arith, v.went.hops, u.hops)
