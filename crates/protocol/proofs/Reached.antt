-- What every meaning that calls reach has: it is sound, and its phase's invariant holds. It is kept by deliveries; and with nothing pending
-- the links are the graph of the members. Assumes nothing.
use Prim.Native.Nat.{ℕ, ◌^◌, ◌<◌}
use mathlib.Core.Path.{◌≡◌, refl}
use mathlib.Core.Option.{Option, none, some}
use mathlib.Core.Bool.{cond}
use lib.Dec.{T}
use Rattle.graph.specs.Side.{Side}
use Rattle.graph.specs.Graph.{Links, IsGraph, Laws as LotLaws}
use Rattle.base.proofs.Tests.{dec-T}
use Rattle.graph.proofs.Neighbour.{InList, Nearest, nobody, nearest, nearest-graph}
use Rattle.protocol.specs.Message.{Msg, name_of}
use Rattle.protocol.specs.State.{Phase, open_phase, clearing, Seats, Meaning, is_clearing, seated, stays, member, members}
use Rattle.protocol.specs.pages.Deliver.{rule}
use Rattle.protocol.specs.Sound.{number_bits, Sound}
use Rattle.protocol.proofs.World.{World, Quiet, Pair}
use Rattle.protocol.proofs.Delivery.{state_of, delivered, delivers}
use Rattle.protocol.proofs.Open as Open
use Rattle.protocol.proofs.OpenEffect.{open-right}
use Rattle.protocol.proofs.Exact.{Exact}
use Rattle.protocol.proofs.Invariant.{Invariant, invariant-kept, invariant-quiet}
use Rattle.protocol.proofs.Clearing as Clearing
use Rattle.protocol.proofs.ClearingEffect.{Sided, s_going, s_seek, s_found, s_none, clearing-right}
use Rattle.protocol.proofs.SoundFacts.{stays-seated, seated-below, seated-differ}

-- the laws of seats that a world needs
pub record Laws (r : Seats) : Type 0 where
  pub small : (x : ℕ) → r.number x < 2 ^ number_bits
  pub differ : (x y : ℕ) → T (seated r x) → T (seated r y) → r.number x ≡ r.number y → x ≡ y

pub sound-laws : {N W : ℕ} {M : Meaning} → Sound N W M → Laws M.seats
sound-laws h = record { small = h.numbers; differ = seated-differ h }

-- all lots in one component, for what does not depend on it
abbrev pub one_component : ℕ → ℕ
one_component x = 0

-- the seated lots, with the component of each
abbrev pub world_of : (c : ℕ → ℕ) (W : ℕ) (r : Seats) → Laws r → World
world_of c W r l = record { W = W; Seated = λ x. T (seated r x); num = r.number; vec = r.vector; comp = c; small = l.small; differ = l.differ }

abbrev pub Stayer : Seats → ℕ → Type 0
Stayer r x = T (stays r x)

-- the invariant of the phase; for any proof of the laws, so that it depends on the data alone
pub data Sane (c : ℕ → ℕ) (W : ℕ) (M : Meaning) : Phase → Type 0 where
  in_open : ((l : Laws M.seats) → Invariant (world_of c W M.seats l) (state_of M)) → Sane c W M open_phase
  in-clearing : (L : Links) → ((l : Laws M.seats) → Clearing.AllLinks (world_of c W M.seats l) (Stayer M.seats) L)
      → ((l : Laws M.seats) → Clearing.Clearing (world_of c W M.seats l) (Stayer M.seats) L (state_of M)) → Sane c W M clearing

pub record Reached (c : ℕ → ℕ) (N W : ℕ) (M : Meaning) : Type 0 where
  pub sound : Sound N W M
  pub sane : Sane c W M M.seats.phase

-- the rule of a message does what the phase's relations say
module _ (c : ℕ → ℕ) (W : ℕ) (M : Meaning) (m : Msg) (l : Laws M.seats) where
  abbrev G : World
  G = world_of c W M.seats l

  pub open-rule : Open.Proper G (state_of M) → Open.Ok G m → Open.Does G (state_of M) m (rule W M m)
  unfolding rule
  open-rule h o = open-right G (state_of M) (M.seats.state (name_of m).to) h o

  pub clearing-rule : Sided G m → Clearing.Does G (Stayer M.seats) (state_of M) m (rule W M m)
  unfolding rule
  clearing-rule s = clearing-right G (state_of M) M.seats.state s

ok-sided : {G : World} {Stay : ℕ → Type 0} {m : Msg} → Clearing.Ok G Stay m → Sided G m
ok-sided (Clearing.ok-going sx w) = s_going
ok-sided (Clearing.ok-seek st p l near) = s_seek l
ok-sided (Clearing.ok-found st l b) = s_found l
ok-sided (Clearing.ok-none sx w st b) = s_none

module _ (c : ℕ → ℕ) (W : ℕ) (M : Meaning) (m : Msg) (t : T (M.pending m)) (l : Laws M.seats) where
  -- the delivery of a pending message, in each phase
  open-delivery : Invariant (world_of c W M.seats l) (state_of M) → Open.Opened (world_of c W M.seats l) (state_of M) m (state_of (delivered W M m))
  open-delivery i = delivers W M m (open-rule c W M m l i.proper (i.proper.pend-ok t)) t

  clearing-delivery : {L : Links} → Clearing.Clearing (world_of c W M.seats l) (Stayer M.seats) L (state_of M)
      → Clearing.Cleared (world_of c W M.seats l) (Stayer M.seats) (state_of M) m (state_of (delivered W M m))
  clearing-delivery i = delivers W M m (clearing-rule c W M m l (ok-sided (i.ok t))) t

-- a delivery keeps the invariant
pub sane-deliver : {c : ℕ → ℕ} {W : ℕ} {M : Meaning} {p : Phase} → Sane c W M p → (m : Msg) → T (M.pending m) → Sane c W (delivered W M m) p
sane-deliver {c} {W} {M} (in_open i) m t = in_open (λ l. invariant-kept (i l) (open-delivery c W M m t l (i l)))
sane-deliver {c} {W} {M} (in-clearing L a i) m t =
    in-clearing L a (λ l. Clearing.clearing-kept (a l) (λ z. dec-T (stays M.seats z)) (i l) (clearing-delivery c W M m t l (i l)))

-- who the members are
module _ (r : Seats) (x : ℕ) where
  pub member-open : r.phase ≡ open_phase → member r x ≡ seated r x
  unfolding member
  member-open e = rw e

  member-clearing : r.phase ≡ clearing → member r x ≡ stays r x
  unfolding member
  member-clearing e = rw e

pub member-seated : (r : Seats) (x : ℕ) → T (member r x) → T (seated r x)
unfolding member
member-seated r x t = by r.phase t
  where
    by : (p : Phase) → T (cond (is_clearing p) (stays r x) (seated r x)) → T (seated r x)
    by open_phase t = t
    by clearing t = stays-seated r x t

pub members-laws : (c : ℕ → ℕ) {N W : ℕ} {M : Meaning} → Sound N W M → LotLaws N (members c M.seats)
members-laws c {M = M} h = record {
  seat = λ x t. seated-below h x (member-seated M.seats x t);
  differ = λ x y t u e. seated-differ h x y (member-seated M.seats x t) (member-seated M.seats y u) e;
}

module _ (c : ℕ → ℕ) {W : ℕ} (M : Meaning) (l : Laws M.seats) {x k : ℕ} {d : Side} where
  -- phase open: the exact links
  open-nearest : M.seats.phase ≡ open_phase → Exact (world_of c W M.seats l) (state_of M) k → T (seated M.seats x) → (v : Option ℕ)
      → M.link x k d ≡ v → Nearest W (members c M.seats) k x d v
  open-nearest e h sx v f = by v f
    where
      inn : {z : ℕ} → InList W (members c M.seats) k x z → Pair (world_of c W M.seats l) k x z
      inn {z} q = record { fst = sx; snd = rw (member-open M.seats z e) at q.member; same = q.same; bits = q.bits }

      out : {z : ℕ} → Pair (world_of c W M.seats l) k x z → InList W (members c M.seats) k x z
      out {z} q = record { member = rw (member-open M.seats z e) q.snd; same = q.same; bits = q.bits }

      by : (v : Option ℕ) → M.link x k d ≡ v → Nearest W (members c M.seats) k x d v
      by none f = nobody (λ z q b. h.last f z (inn q) b)
      by (some y) f = nearest (out (h.next f).pair) (h.next f).side (λ z q b. (h.next f).least z (inn q) b)

  -- phase clearing: the targets
  clearing-nearest : M.seats.phase ≡ clearing → T (stays M.seats x) → {v : Option ℕ}
      → Clearing.Target (world_of c W M.seats l) (Stayer M.seats) k x d v → Nearest W (members c M.seats) k x d v
  clearing-nearest e sx b = by b
    where
      mem : (z : ℕ) → InList W (members c M.seats) k x z → T (stays M.seats z)
      mem z q = rw (member-clearing M.seats z e) at q.member

      inn : {z : ℕ} → InList W (members c M.seats) k x z → Pair (world_of c W M.seats l) k x z
      inn {z} q = record { fst = stays-seated M.seats x sx; snd = stays-seated M.seats z (mem z q); same = q.same; bits = q.bits }

      by : {v : Option ℕ} → Clearing.Target (world_of c W M.seats l) (Stayer M.seats) k x d v → Nearest W (members c M.seats) k x d v
      by (Clearing.nobody f) = nobody (λ z q b. f z (inn q) (mem z q) b)
      by (Clearing.nearest {y = y} p s m f) =
          nearest {y = y} (record { member = rw (member-clearing M.seats y e) s; same = p.same; bits = p.bits }) m (λ z q b. f z (inn q) (mem z q) b)

-- nothing pending: the links are the graph of the members
pub reached-graph : {c : ℕ → ℕ} {N W : ℕ} {M : Meaning} → Reached c N W M → Quiet (state_of M) → IsGraph N W (members c M.seats) M.link
reached-graph {c} {N} {W} {M} g q =
    record { link = λ x k d t w. nearest-graph (members-laws c g.sound) (near M.seats.phase refl g.sane x k d t) }
  where
    l : Laws M.seats
    l = sound-laws g.sound

    near : (p : Phase) → M.seats.phase ≡ p → Sane c W M p → (x k : ℕ) (d : Side) → T (member M.seats x)
        → Nearest W (members c M.seats) k x d (M.link x k d)
    near open_phase e (in_open i) x k d t =
        open-nearest c M l e (invariant-quiet (i l) q k) (rw (member-open M.seats x e) at t) (M.link x k d) refl
    near clearing e (in-clearing L a i) x k d t =
        let s = rw (member-clearing M.seats x e) at t in
        clearing-nearest c M l e s (Clearing.clearing-quiet (i l) q x k d (stays-seated M.seats x s) s)
