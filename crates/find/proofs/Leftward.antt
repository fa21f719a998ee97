-- The left steps as the code takes them: its loop, and what it comes to for a holder. Assumes nothing.
use Prim.Native.Nat.{ℕ, ◌+◌, ◌^◌, ◌<◌}
use mathlib.Core.Path.{◌≡◌, sym}
use mathlib.Core.Bool.{true, false}
use mathlib.Core.Option.{none, some}
use mathlib.Core.List.{List, [], ◌∷◌}
use native.Mathlib.Omega.{arith}
use lib.Dec.{T}
use Rattle.graph.specs.Side.{left}
use Rattle.protocol.specs.State.{seated, stays}
use Rattle.record.specs.Layout.{seats}
use Rattle.record.specs.Meaning.{seats_in, meaning}
use Rattle.search.specs.inner.Search.{nowhere, arrives, passes}
use Rattle.search.proofs.Ordered.{rank_less}
use Rattle.search.proofs.Left.{stands, left-steps, left-seated}
use Rattle.find.specs.declared.Walk.{Walk}
use Rattle.find.specs.Way.{left_from}
use Rattle.find.specs.inner.Steps.{Went, ReadyLeft, WentLeft, left_of, prints}
use Rattle.find.proofs.Steps.{here, onto}

module _ {l : List ℕ} {w : Walk} (h : ReadyLeft l w) where
  pub left-seat : w.seat < seats
  left-seat = h.fit.seat w.seat h.lot

  -- to the holder of x: no step if the lot may be printed, else the left steps
  module _ (x : ℕ) where
    pub stays-there : prints l x w.seat ≡ true → Went (left_from l x w.seat) w w
    stays-there t = rw (stands h.fit (stays (seats_in l)) x w.seat h.lot t) here

    pub goes_on : prints l x w.seat ≡ false → (r : Walk) → WentLeft l w r → Went (left_from l x w.seat) w r
    goes_on t r v = rw (left-steps h.fit (stays (seats_in l)) x w.seat h.lot t v.leftward) v.went

    -- and it ends at a lot
    pub holder-seat : (r : Walk) → Went (left_from l x w.seat) w r → r.seat < seats
    holder-seat r u = h.fit.seat r.seat (rw u.seat (left-seated h.fit (stays (seats_in l)) x w.seat h.lot))

-- the left steps from w go on at v as they do from w
pub record Underway (l : List ℕ) (w v : Walk) : Type 0 where
  pub ready : ReadyLeft l v
  pub rest : (r : Walk) → WentLeft l v r → WentLeft l w r

module _ {l : List ℕ} where
  pub sets-out : {w : Walk} → ReadyLeft l w → Underway l w w
  sets-out h = record { ready = h; rest = λ r v. v }

  module _ {w v : Walk} (u : Underway l w v) where
    -- there is no left link
    pub ends-here : none ≡ (meaning l).link v.seat 0 left → WentLeft l w v
    ends-here e = u.rest v (record { path = []; leftward = rw (← e) nowhere; went = here })

    -- there is one, y
    module _ (y k : ℕ) (e : some y ≡ (meaning l).link v.seat 0 left) where
      abbrev past : Walk
      past = record { seat = y; level = k; hops = v.hops + 1 }

      lot : T (seated (seats_in l) y)
      lot = u.ready.fit.within u.ready.lot (omega arith) (sym e)

      pub hop-less : left_of l past < left_of l v
      hop-less = rank_less u.ready.fit lot (u.ready.fit.order u.ready.lot (omega arith) (sym e))

      pub hop-fits : v.hops + 1 < 2 ^ 64
      hop-fits = omega (arith, hop-less, u.ready.room)

      -- it stays
      pub ends_there : stays (seats_in l) y ≡ true → WentLeft l w past
      ends_there t = u.rest past (record { path = y ∷ []; leftward = rw (← e) (arrives t); went = onto here })

      -- it leaves
      pub goes-past : stays (seats_in l) y ≡ false → Underway l w past
      goes-past t = record {
        ready = record { fit = u.ready.fit; lot = lot; room = omega (arith, hop-less, u.ready.room) };
        rest = λ r x. u.rest r (record { path = y ∷ x.path; leftward = rw (← e) (passes t x.leftward); went = onto x.went });
      }
