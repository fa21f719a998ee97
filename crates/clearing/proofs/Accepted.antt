-- The steps together are what an accepted turn does. Assumes nothing.
use Prim.Native.Nat.{ℕ, zero, suc, ◌<◌}
use mathlib.Core.Path.{◌≡◌, refl, sym, ap, ◌∙◌}
use mathlib.Core.Option.{Option, none, some}
use mathlib.Core.Bool.{Bool, true, false, ◌||◌}
use mathlib.Core.List.{List, []}
use native.Mathlib.Omega.{arith}
use lib.ListN.{get_or}
use Rattle.memory.specs.Bits.{has_bit}
use Rattle.graph.specs.Vector.{width}
use Rattle.protocol.specs.Message.{Msg}
use Rattle.base.specs.Loops.{any}
use Rattle.base.proofs.Tests.{true-false}
use Rattle.protocol.specs.Numbering.{message_at}
use Rattle.protocol.specs.State.{Phase, open_phase, clearing, is_clearing, Meaning, leaves}
use Rattle.protocol.specs.Calls.{turn, seats_after, links_after, sends, takes, accept}
use Rattle.protocol.specs.pages.Turn.{farewells, after_turn, turn_sends, turn_links}
use Rattle.protocol.specs.Page.{each, pending_after}
use Rattle.protocol.specs.Freeing.{unlinked}
use Rattle.record.specs.Layout.{seats, phase_at}
use Rattle.record.specs.Meaning.{phase_of, seats_in, bytes_of}
use Rattle.record.proofs.Values.{phase_of-phase_byte}
use Rattle.record.proofs.Round.{read-phase}
use Rattle.protocol.proofs.Calls.{after_nothing}
use Rattle.record.proofs.Frame.{bytes_same}
use Rattle.clearing.specs.inner.Steps.{Linked, farewells_from, in_phase, freed, begun, ended}

-- with no leaver there is nothing to send
or-none : (a b : Bool) → a || b ≡ false → (a ≡ false) × (b ≡ false)
or-none true b e = absurd (let z : ◌≡◌ {A = ℕ} 0 1 = cc in omega arith)
or-none false b e = (refl, e)

no-farewells : (M : Meaning) (n : ℕ) → any n (leaves M.seats) ≡ false → each n (farewells_from M) ≡ []
unfolding any each
no-farewells M zero e = refl
no-farewells M (suc n) e =
    let f = or-none (leaves M.seats n) (any n (leaves M.seats)) e in
    rw (no-farewells M n f.1, f.0)

module _ (M : Meaning) where
  -- what a turn in phase p leaves
  abbrev turned : Phase → Meaning
  turned p = record {
    seats = after_turn seats p M.seats;
    link = λ x k d. turn_links p M.seats M.link x k d;
    pending = pending_after (turn_sends seats width p M) none M.pending;
  }

  accepted : bytes_of (turned M.seats.phase) ≡ bytes_of (accept seats width M turn)
  unfolding accept seats_after links_after sends takes
  accepted = refl

  in-phase : (p : Phase) → M.seats.phase ≡ p → bytes_of (turned p) ≡ bytes_of (accept seats width M turn)
  in-phase p e = ap (λ (q : Phase). bytes_of (turned q)) (sym e) ∙ accepted

  -- a set that is the leavers
  module _ (c : Linked M) (set : ℕ) (h : (x : ℕ) → x < seats → has_bit set x ≡ leaves M.seats x) where
    unlinked-leavers : (o : Option ℕ) → ((y : ℕ) → o ≡ some y → y < seats) → unlinked (has_bit set) o ≡ unlinked (leaves M.seats) o
    unfolding unlinked
    unlinked-leavers none f = refl
    unlinked-leavers (some y) f = rw (h y (f y refl))

    pub freed-leavers : bytes_of (in_phase (freed set M) open_phase) ≡ bytes_of (ended M)
    freed-leavers = bytes_same (record {
      phase = refl;
      state = λ x p. rw (h x p);
      number = λ x p. rw (h x p);
      vector = λ x p. rw (h x p);
      link = λ x k d p g. rw (h x p, unlinked-leavers (M.link x k d) (λ y q. c x k y d q));
      pending = λ i p. refl;
    })

  pub turn-ended : M.seats.phase ≡ clearing → bytes_of (ended M) ≡ bytes_of (accept seats width M turn)
  unfolding after_turn turn_links turn_sends
  turn-ended e = bytes_same (record {
    phase = refl;
    state = λ x p. refl;
    number = λ x p. refl;
    vector = λ x p. refl;
    link = λ x k d p g. refl;
    pending = λ i p. ap (λ (q : Msg → Bool). q (message_at seats width i)) (sym (after_nothing M.pending));
  }) ∙ in-phase clearing e

  pub turn-begun : M.seats.phase ≡ open_phase → any seats (leaves M.seats) ≡ true → bytes_of (begun M) ≡ bytes_of (accept seats width M turn)
  unfolding after_turn turn_links turn_sends
  turn-begun e t = bytes_same (record {
    phase = rw t;
    state = λ x p. refl;
    number = λ x p. refl;
    vector = λ x p. refl;
    link = λ x k d p g. refl;
    pending = λ i p. refl;
  }) ∙ in-phase open_phase e

  nothing-sent : any seats (leaves M.seats) ≡ false → pending_after (farewells seats width M.seats M.link) none M.pending ≡ M.pending
  unfolding farewells
  nothing-sent t = ap (λ (s : List Msg). pending_after s none M.pending) (no-farewells M seats t) ∙ after_nothing M.pending

  pub turn-nothing : M.seats.phase ≡ open_phase → any seats (leaves M.seats) ≡ false → bytes_of M ≡ bytes_of (accept seats width M turn)
  unfolding after_turn turn_links turn_sends
  turn-nothing e t = bytes_same (record {
    phase = e ∙ rw t;
    state = λ x p. refl;
    number = λ x p. refl;
    vector = λ x p. refl;
    link = λ x k d p g. refl;
    pending = λ i p. ap (λ (q : Msg → Bool). q (message_at seats width i)) (sym (nothing-sent t));
  }) ∙ in-phase open_phase e

-- the phase, as the bytes have it
module _ (M : Meaning) {l : List ℕ} (e : l ≡ bytes_of M) where
  same-phase : (seats_in l).phase ≡ M.seats.phase
  unfolding seats_in
  same-phase = ap (λ (m : List ℕ). phase_of (get_or m phase_at 0)) e ∙ ap phase_of (read-phase M) ∙ phase_of-phase_byte M.seats.phase

  pub phase-open : is_clearing (seats_in l).phase ≡ false → M.seats.phase ≡ open_phase
  phase-open q = by M.seats.phase (ap is_clearing (sym same-phase) ∙ q)
    where
      by : (p : Phase) → is_clearing p ≡ false → p ≡ open_phase
      by open_phase z = refl
      by clearing z = true-false refl z

  pub phase-clearing : is_clearing (seats_in l).phase ≡ true → M.seats.phase ≡ clearing
  phase-clearing q = by M.seats.phase (ap is_clearing (sym same-phase) ∙ q)
    where
      by : (p : Phase) → is_clearing p ≡ true → p ≡ clearing
      by open_phase z = true-false z refl
      by clearing z = refl
