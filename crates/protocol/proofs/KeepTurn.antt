-- A turn with nothing pending keeps soundness, in phase open and in clearing; and to whom leavers send GOING. Assumes nothing.
use Prim.Native.Nat.{ℕ, ◌<◌}
use mathlib.Core.Path.{◌≡◌, refl, sym, subst}
use mathlib.Core.Option.{none, some}
use mathlib.Core.Bool.{true}
use mathlib.Core.List.Memᴰ
use mathlib.Core.List.{[], Memᴰ}
use lib.Dec.{T}
use Rattle.graph.specs.Side.{Side, left, right, opp}
use Rattle.graph.specs.Graph.{Links}
use Rattle.base.proofs.Tests.{T_true}
use Rattle.protocol.specs.Message.{Msg, going}
use Rattle.base.specs.Loops.{any}
use Rattle.protocol.specs.State.{Phase, open_phase, clearing, Seats, Meaning, leaves}
use Rattle.protocol.specs.Calls.{turn, seats_after, sends, takes, links_after, accept}
use Rattle.protocol.specs.pages.Turn.{after_turn, farewell, farewells, turn_sends, turn_links}
use Rattle.protocol.specs.Page.{pending_after}
use Rattle.protocol.specs.Freeing.{freeing}
use Rattle.protocol.specs.Sound.{message_ok, Sound}
use Rattle.base.proofs.Any.{any-in}
use Rattle.protocol.proofs.Sent.{All, all-at, all-sent}
use Rattle.protocol.proofs.SoundFacts.{p-going, proper-ok, two-level, link-linked, pending-after}
use Rattle.protocol.proofs.KeepCalls.{link-kept}
use Rattle.protocol.proofs.KeepFreeing.{freed-sound}

-- a GOING of a turn: a leaver's, to its link
pub record Farewell (N : ℕ) (r : Seats) (L : Links) (m : Msg) : Type 0 where
  pub leaver : ℕ
  pub level : ℕ
  pub side : Side
  pub told : ℕ
  pub below : leaver < N
  pub leaves_now : T (leaves r leaver)
  pub link : L leaver level side ≡ some told
  pub says : m ≡ going told level (opp side)

all-farewells : (N W : ℕ) (r : Seats) (L : Links) → All (Farewell N r L) (farewells N W r L)
unfolding farewells farewell
all-farewells N W r L = search (all-sent, to-left, to-right) depth 9
  where
    to-left : (y k z : ℕ) → y < N → T (leaves r y) → L y k left ≡ some z → Farewell N r L (going z k right)
    to-left y k z l t e = record { leaver = y; level = k; side = left; told = z; below = l; leaves_now = t; link = e; says = refl }

    to-right : (y k z : ℕ) → y < N → T (leaves r y) → L y k right ≡ some z → Farewell N r L (going z k left)
    to-right y k z l t e = record { leaver = y; level = k; side = right; told = z; below = l; leaves_now = t; link = e; says = refl }

pub farewell-out : (N W : ℕ) (r : Seats) (L : Links) {m : Msg} → Memᴰ m (farewells N W r L) → Farewell N r L m
farewell-out N W r L h = all-at (all-farewells N W r L) h

module _ {N W : ℕ} {M : Meaning} (h : Sound N W M) (still : (m : Msg) → T (M.pending m) → ⊥) where
  abbrev r : Seats
  r = M.seats

  abbrev turned : Phase → Meaning
  turned p = record { seats = after_turn N p r; link = turn_links p r M.link; pending = pending_after (turn_sends N W p M) none M.pending }

  turn-open : Sound N W (turned open_phase)
  unfolding after_turn turn_links turn_sends
  turn-open = record {
    seats = h.seats;
    numbers = h.numbers;
    vectors = h.vectors;
    unused = h.unused;
    differ = h.differ;
    links = λ x k y d e. link-kept h (λ z t. record { there = t; number = refl; vector = refl }) e;
    messages = pending-after (λ m. T (message_ok W r' m)) (farewells N W r M.link) none M.pending (λ m t. absurd (still m t)) bids;
  }
    where
      r' : Seats
      r' = after_turn N open_phase r

      bids : (m : Msg) → Memᴰ m (farewells N W r M.link) → T (message_ok W r' m)
      bids m q =
          let f = farewell-out N W r M.link q in
          let some-leaves : any N (leaves r) ≡ true = T_true (any-in N (leaves r) f.leaver f.below f.leaves_now) in
          let clears : r'.phase ≡ clearing = rw some-leaves in
          let (two, l) = link-linked h f.link in
          subst (λ (k : Msg). T (message_ok W r' k)) (sym f.says) (proper-ok W r' clears (p-going two.two (two-level two)))

  turn-clearing : Sound N W (turned clearing)
  unfolding after_turn turn_links turn_sends
  turn-clearing = freed-sound h (leaves r) open_phase (pending_after [] none M.pending)
      (pending-after (λ m. T (message_ok W (freeing (leaves r) open_phase r) m)) [] none M.pending
      (λ m t. absurd (still m t)) (λ m q. absurd (Memᴰ.not-nil q)))

  pub turn-sound : Sound N W (accept N W M turn)
  unfolding accept seats_after links_after sends takes
  turn-sound = by r.phase
    where
      by : (p : Phase) → Sound N W (turned p)
      by open_phase = turn-open
      by clearing = turn-clearing
