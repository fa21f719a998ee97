-- Deliveries end on every sound meaning, whether calls made it or not: the delivery of a pending message lowers the bound, so no list of
-- deliveries has more accepted ones than the bound. Assumes nothing.
use Prim.Native.Nat.{ℕ, zero, suc, ◌≤◌, ◌<◌}
use mathlib.Core.Path.{◌≡◌, refl, ap, subst}
use mathlib.Core.Option.{Option, none, some}
use mathlib.Core.List.{List, [], ◌∷◌, map}
use native.Mathlib.Omega.{arith}
use lib.Dec.{T}
use Rattle.base.proofs.Tests.{dec-T}
use Rattle.protocol.specs.Message.{Msg, Name, named}
use Rattle.protocol.specs.State.{Phase, open_phase, clearing, Meaning, stays, is_pending}
use Rattle.protocol.specs.Calls.{deliver, refusal, accept, unless_refused, call}
use Rattle.protocol.specs.Sound.{Sound}
use Rattle.protocol.specs.Run.{accepted}
use Rattle.protocol.proofs.World.{World, pair-level}
use Rattle.protocol.proofs.Delivery.{state_of, delivered, delivers, accept-deliver}
use Rattle.protocol.proofs.SoundFacts.{Proper, link-linked, pending-proper, pending-exists, seated-below}
use Rattle.protocol.proofs.Accepted.{deliver-row}
use Rattle.protocol.proofs.Reached.{one_component, sound-laws, world_of, Stayer, open-rule, clearing-rule}
use Rattle.protocol.proofs.KeepDelivery.{all-proper, sided, deliver-sound}
use Rattle.protocol.proofs.Measure.{weight, bound}
use Rattle.protocol.proofs.Ends.{open-cost, open-less}
use Rattle.protocol.proofs.ClearingEnds.{clearing-less}

-- the message that an accepted delivery takes
pub record Taken (N W : ℕ) (M : Meaning) (n : Name) : Type 0 where
  pub message : Msg
  pub is : named n ≡ some message
  pub was : T (M.pending message)

pub deliver-taken : (N W : ℕ) (M : Meaning) (n : Name) → refusal N W M.seats M.pending (deliver n) ≡ 0 → Taken N W M n
unfolding is_pending
deliver-taken N W M n e = by (named n) refl (deliver-row N W M.seats M.pending n e)
  where
    by : (o : Option Msg) → named n ≡ o → T (is_pending M.pending o) → Taken N W M n
    by none f t = absurd t
    by (some m) f t = record { message = m; is = f; was = t }

module _ {N W : ℕ} {M : Meaning} (h : Sound N W M) (m : Msg) (t : T (M.pending m)) where
  abbrev G : World
  G = world_of one_component W M.seats (sound-laws h)

  -- in each phase
  weight-less : (p : Phase) → M.seats.phase ≡ p → weight N W p (delivered W M m) < weight N W p M
  unfolding weight
  weight-less open_phase e =
      let a = all-proper h e in
      let o = a.pend-ok t in
      open-less N W G M (delivered W M m) o (delivers W M m (open-rule one_component W M m (sound-laws h) a o) t) (open-cost G (state_of M) a o)
      (pending-exists h m t) (λ x k y p. (seated-below h x p.fst, pair-level p))
  weight-less clearing e =
      let s = sided h (subst (λ (p : Phase). Proper W M.seats p m) e (pending-proper h t)) in
      clearing-less G (Stayer M.seats) N W M (delivered W M m) (λ x k y d f. (link-linked h f).1) (λ z. dec-T (stays M.seats z)) s
      (delivers W M m (clearing-rule one_component W M m (sound-laws h) s) t) (pending-exists h m t)

  pub bound-less : bound N W (delivered W M m) < bound N W M
  unfolding bound
  bound-less = weight-less M.seats.phase refl

module _ (N W : ℕ) where
  -- one delivery more
  ends-step : (M : Meaning) → Sound N W M → (n : Name) (ns : List Name)
      → ((K : Meaning) → Sound N W K → accepted (call N W) K (map deliver ns) ≤ bound N W K)
      → accepted (call N W) M (map deliver (n ∷ ns)) ≤ bound N W M
  unfolding accepted call unless_refused
  ends-step M h n ns ih = by (refusal N W M.seats M.pending (deliver n)) refl
    where
      by : (a : ℕ) → refusal N W M.seats M.pending (deliver n) ≡ a → accepted (call N W) M (map deliver (n ∷ ns)) ≤ bound N W M
      by zero e =
          let t = deliver-taken N W M n e in
          let f = accept-deliver N W M n t.message t.is in
          rw e (omega (arith, ih (accept N W M (deliver n)) (deliver-sound h n e), ap (bound N W) f, bound-less h t.message t.was))
      by (suc a) e = rw e (omega (arith, ih M h))

  pub deliveries-end : (ns : List Name) (M : Meaning) → Sound N W M → accepted (call N W) M (map deliver ns) ≤ bound N W M
  unfolding accepted
  deliveries-end [] M h = omega arith
  deliveries-end (n ∷ ns) M h = ends-step M h n ns (λ K k. deliveries-end ns K k)
