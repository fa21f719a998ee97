-- Reserving and what follows (document 02, #105): where a join is accepted, reserving and then confirming are accepted and come to the same, in lots,
-- links and messages; and reserving and then giving back leave all as it was. Assumes nothing.
use Prim.Native.Nat.{ℕ}
use mathlib.Core.Path.{◌≡◌, refl, sym, ◌∙◌, ap, fun_ext}
use mathlib.Core.Option.{none}
use mathlib.Core.Bool.{Bool, true, false, not, cond, ◌||◌}
use mathlib.Core.List.{[]}
use native.Mathlib.Decide.{ℕ_discrete}
use lib.Dec.{eqb}
use borrow.Author.Tests.{eq-eqb, ne_eqb, not-false}
use Rattle.base.specs.Loops.{any}
use Rattle.base.proofs.Tests.{true-T}
use Rattle.graph.specs.Side.{Side}
use Rattle.protocol.specs.Rules.{SeatState, free, staying, reserved}
use Rattle.protocol.specs.State.{Seats, Meaning, is_free, is_seated, is_reserved, is_clearing, seated, held, no_seat}
use Rattle.protocol.specs.Refusals.{no_such_seat, in_clearing, no_contact, first}
use Rattle.protocol.specs.Page.{at, seating, without_links, pending_after}
use Rattle.protocol.specs.pages.Join.{no_such_contact, lacks_contact, greeting}
use Rattle.protocol.specs.Calls.{join, reserve, confirm, give_back, rows, refusal, seats_after, links_after, sends, takes, accept}
use Rattle.protocol.specs.Sound.{Sound}
use Rattle.protocol.proofs.Calls.{at_same, at-tested, at_own, at-twice, after_nothing, no_row}
use Rattle.protocol.proofs.SoundFacts.{is_free_lem, free-empty}
use Rattle.protocol.proofs.Accepted.{reserve-rows, join-reserve}

-- a seat that has no lot before nor after: who is seated stays the same
pub seated-seating : (s : ℕ) (t : SeatState) (n v : ℕ) (r : Seats) → seated r s ≡ false → is_seated t ≡ false
    → seated (seating s t n v r) ≡ seated r
seated-seating s t n v r e f = fun_ext (at-tested s t r.state is_seated (f ∙ sym e))

-- what is without links on seat s already stays as it is
pub bare-links : (s : ℕ) (M : Meaning) → ((k : ℕ) (d : Side) → M.link s k d ≡ none) → without_links s M.link ≡ M.link
bare-links s M e = fun_ext (λ x. fun_ext (λ k. fun_ext (λ d. by x k d (ℕ_discrete x s))))
  where
    by : (x k : ℕ) (d : Side) → Dec (x ≡ s) → cond (eqb x s) none (M.link x k d) ≡ M.link x k d
    by x k d (yes q) = rw (eq-eqb x s q, q) (sym (e k d))
    by x k d (no q) = rw (ne_eqb x s q)

module _ (N W : ℕ) (M : Meaning) (s n v : ℕ) where
  -- the meaning with the reservation
  abbrev pub reserving : Meaning
  reserving = accept N W M (reserve s n v)

  pub reserving-held : held reserving.seats s ≡ true
  unfolding accept seats_after
  reserving-held = ap is_reserved (at_same s reserved M.seats.state s refl)

  module _ (c : ℕ) where
    -- the confirmation is accepted where the join was
    pub join-confirm : refusal N W M.seats M.pending (join s n v c) ≡ 0 → refusal N W reserving.seats reserving.pending (confirm s c) ≡ 0
    unfolding refusal rows first accept seats_after
    join-confirm e =
        let rs = rows N W M.seats M.pending (join s n v c) in
        let empty = free-empty M.seats s (reserve-rows N W M.seats M.pending s n v (join-reserve N W M.seats M.pending s n v c e)).free in
        let seat : (no_seat N s || no_such_contact N c) ≡ false = no_row rs no_such_seat tt e in
        let opens : is_clearing M.seats.phase ≡ false = no_row rs in_clearing tt e in
        let known : lacks_contact N reserving.seats c ≡ false =
        ap (λ (f : ℕ → Bool). cond (no_seat N c) (any N f) (not (f c))) (seated-seating s reserved n v M.seats empty refl)
        ∙ no_row rs no_contact tt e in
        rw (seat, opens, reserving-held, known)

    -- and both come to the same
    pub join-in-two : accept N W reserving (confirm s c) ≡ accept N W M (join s n v c)
    unfolding accept seats_after links_after sends takes
    join-in-two i = record {
      seats =
          record {
            phase = M.seats.phase;
            state = at-twice s staying M.seats.state reserved i;
            number = at s n M.seats.number;
            vector = at s v M.seats.vector;
          };
      link = without_links s M.link;
      pending = pending_after (greeting N s c) none (after_nothing M.pending i);
    }

  -- a reservation can be given back at once
  pub reserve-give-back : refusal N W M.seats M.pending (reserve s n v) ≡ 0 → refusal N W reserving.seats reserving.pending (give_back s) ≡ 0
  unfolding refusal rows first
  reserve-give-back e =
      let seat : no_seat N s ≡ false = no_row (rows N W M.seats M.pending (reserve s n v)) no_such_seat tt e in
      rw (seat, reserving-held)

  pub back-again : Sound N W M → refusal N W M.seats M.pending (reserve s n v) ≡ 0 → accept N W reserving (give_back s) ≡ M
  unfolding accept seats_after links_after sends takes
  back-again h e = λ i. record {
    seats =
        record {
          phase = M.seats.phase;
          state = (at-twice s free M.seats.state reserved ∙ at_own s free M.seats.state was_free) i;
          number = (at-twice s 0 M.seats.number n ∙ at_own s 0 M.seats.number as-opened.0) i;
          vector = (at-twice s 0 M.seats.vector v ∙ at_own s 0 M.seats.vector as-opened.1) i;
        };
    link = (ap (without_links s) bare ∙ bare) i;
    pending = (ap (pending_after [] none) (after_nothing M.pending) ∙ after_nothing M.pending) i;
  }
    where
      untaken : is_free (M.seats.state s) ≡ true
      untaken = not-false (is_free (M.seats.state s)) (reserve-rows N W M.seats M.pending s n v e).free

      was_free : M.seats.state s ≡ free
      was_free = is_free_lem (M.seats.state s) (true-T untaken)

      as-opened : (M.seats.number s ≡ 0) × (M.seats.vector s ≡ 0) × ((k : ℕ) (d : Side) → M.link s k d ≡ none)
      as-opened = h.unused s (true-T untaken)

      bare : without_links s M.link ≡ M.link
      bare = bare-links s M as-opened.2
