-- From the readings of demand 3 alone: the bytes are a sound record, and their lots and phase are the roster's. Any standing is meant, not
-- only one that calls made. Assumes only that its bytes are bytes.
use Prim.Native.Nat.{ℕ, ◌≤◌, ◌<◌}
use mathlib.Core.Path.{◌≡◌, refl, sym, ap, ◌∙◌}
use mathlib.Core.Logic.{⊎_elim}
use mathlib.Core.Bool.{Bool, true, false, not, cond}
use mathlib.Core.List.{List}
use native.Mathlib.Omega.{arith}
use lib.Dec.{T}
use Rattle.base.proofs.Cases.{lt-or-ge}
use Rattle.memory.specs.Bytes.{AreBytes}
use Rattle.graph.specs.Vector.{width}
use Rattle.protocol.specs.Refusals.{empty_seat}
use Rattle.protocol.specs.Rules.{SeatState, free, staying, leaving, reserved}
use Rattle.protocol.specs.State.{Seats, is_free, is_seated, taken, seated, member, members}
use Rattle.protocol.specs.Sound.{Sound}
use Rattle.protocol.specs.Run.{Standing, members_of}
use Rattle.base.proofs.Tests.{true-T}
use Rattle.protocol.proofs.SoundFacts.{is_free_lem, seated-taken}
use Rattle.protocol.proofs.Reached.{member-seated}
use Rattle.record.specs.Layout.{seats}
use Rattle.record.specs.Meaning.{seats_in, meaning, bytes_of, phase_of, state_of, state_byte}
use Rattle.record.specs.Reading.{LotAnswer, read_lot, CountAnswer}
use Rattle.record.proofs.Form.{no-seat-state}
use Rattle.record.proofs.Refused.{Passed}
use Rattle.record.proofs.Reading.{counts-read, counts-passed}
use Rattle.record.proofs.Round.{bytes-meaning}
use Rattle.record.proofs.Sound.{sound-is}
use Rattle.record.proofs.Values.{phase_of-phase_byte, state_of-state_byte}
use Rattle.search.proofs.Agree.{Agree}
use Rattle.runs.specs.Run.{meant, roster, lot_of, Demand3}
use Rattle.runs.proofs.Readings.{read-lot}
use Rattle.runs.proofs.History.{roster-below}

-- what reading a seat answers says its state, and of a lot or a reservation number and vector
module _ (a b : Seats) (x : ℕ) where
  answer : Seats → SeatState → LotAnswer
  answer r t = cond (not (not (is_free t))) (record { refused = empty_seat; state = 0; number = 0; vector = 0 })
      (record { refused = 0; state = state_byte t; number = r.number x; vector = r.vector x })

  pub record SameLot (t u : SeatState) : Type 0 where
    pub state : t ≡ u
    pub number : T (not (is_free t)) → a.number x ≡ b.number x
    pub vector : T (not (is_free t)) → a.vector x ≡ b.vector x

  same-lot : (t u : SeatState) → answer a t ≡ answer b u → SameLot t u
  unfolding answer
  same-lot t u e = by (is_free t) (is_free u) refl refl
    where
      by : (p q : Bool) → is_free t ≡ p → is_free u ≡ q → SameLot t u
      by true true p q = record {
        state = is_free_lem t (true-T p) ∙ sym (is_free_lem u (true-T q));
        number = λ h. absurd (rw p at h);
        vector = λ h. absurd (rw p at h);
      }
      by true false p q = absurd (let z = ap (λ (r : LotAnswer). r.refused) (rw (p, q) at e) in omega arith)
      by false true p q = absurd (let z = ap (λ (r : LotAnswer). r.refused) (rw (p, q) at e) in omega arith)
      by false false p q =
          let f = rw (p, q) at e in
          record {
            state = sym (state_of-state_byte t) ∙ ap (λ (r : LotAnswer). state_of r.state) f ∙ state_of-state_byte u;
            number = λ h. ap (λ (r : LotAnswer). r.number) f;
            vector = λ h. ap (λ (r : LotAnswer). r.vector) f;
          }

  lot-same : lot_of a x ≡ lot_of b x → SameLot (a.state x) (b.state x)
  unfolding lot_of answer
  lot-same e = same-lot (a.state x) (b.state x) e

module _ {bound : List ℕ → ℕ} {s : Standing (List ℕ)} (D : Demand3 bound s) where
  -- the bytes and the roster's seats
  abbrev l : List ℕ
  l = s.now

  abbrev R : Seats
  R = (roster s.history).seats

  -- the record is of the stated size and sound
  pub passed : Passed s.now
  passed = counts-passed s.now D.readable

  -- no lot of the roster sits elsewhere
  pub below : (x : ℕ) → T (taken R x) → x < seats
  below = roster-below seats width (meant s.history) D.refusals

  pub same-phase : (seats_in l).phase ≡ R.phase
  unfolding meaning
  same-phase =
      let e = ap (λ (a : CountAnswer). a.phase) (counts-read l passed.sized passed.fine) in
      sym (phase_of-phase_byte (seats_in l).phase) ∙ ap phase_of (sym e ∙ D.phase) ∙ phase_of-phase_byte R.phase

  module _ (b : AreBytes s.now) where
    pub fine : Sound seats width (meaning l)
    fine = ((sound-is l passed.sized b).0 passed.fine).1

    here : l ≡ bytes_of (meaning l)
    here = sym (bytes-meaning ((sound-is l passed.sized b).0 passed.fine).0)

    -- a seat that exists, as it reads
    seat-reads : (x : ℕ) → x < seats → SameLot (seats_in l) R x ((seats_in l).state x) (R.state x)
    unfolding meaning
    seat-reads x p = lot-same (seats_in l) R x (sym (ap (λ (m : List ℕ). read_lot m x) here ∙ read-lot (meaning l) fine x p) ∙ D.lots x p)

    -- and one that does not: free in both
    no-seat : (x : ℕ) → seats ≤ x → SameLot (seats_in l) R x ((seats_in l).state x) (R.state x)
    unfolding meaning
    no-seat x p = by ((seats_in l).state x) (R.state x) (no-seat-state l x p) (λ t. omega (arith, below x t))
      where
        by : (t u : SeatState) → t ≡ free → (T (not (is_free u)) → ⊥) → SameLot (seats_in l) R x t u
        by t free e f = record { state = e; number = λ h. absurd (rw e at h); vector = λ h. absurd (rw e at h) }
        by t staying e f = absurd (f tt)
        by t leaving e f = absurd (f tt)
        by t reserved e f = absurd (f tt)

    -- every seat
    pub same-seat : (x : ℕ) → SameLot (seats_in l) R x ((seats_in l).state x) (R.state x)
    same-seat x = ⊎_elim (seat-reads x) (no-seat x) (lt-or-ge x seats)

    pub same-seated : (x : ℕ) → seated (seats_in l) x ≡ seated R x
    same-seated x = ap is_seated (same-seat x).state

    same-member : (x : ℕ) → member (seats_in l) x ≡ member R x
    unfolding member
    same-member x = rw (same-phase, (same-seat x).state)

    -- the members
    pub agree : Agree (members (roster s.history).component (seats_in l)) (members_of (roster s.history))
    agree = record {
      member = same-member;
      number = λ x m. (same-seat x).number (seated-taken (seats_in l) x (member-seated (seats_in l) x m));
      vector = λ x m. (same-seat x).vector (seated-taken (seats_in l) x (member-seated (seats_in l) x m));
      component = λ y z m n. (λ e. e, λ e. e);
    }
