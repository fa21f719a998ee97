-- What the table tells of an accepted call: no row applies, as facts; and which numbers no call of a list meets. Assumes nothing.
use Prim.Native.Nat.{ℕ, ◌≤◌, ◌<◌}
use mathlib.Core.Path.{◌≡◌, refl}
use mathlib.Core.Logic.{◌≢◌}
use mathlib.Core.Bool.{Bool, true, false, not, cond, ◌&&◌, ◌||◌}
use lib.Dec.{T, eqb, ltb}
use borrow.Author.Tests.{ltb-true, lt-ltb, le-ltb, not-false, eq-eqb}
use Rattle.base.specs.Bits.{has_bit}
use Rattle.base.proofs.Tests.{true-T, and_T, true-false}
use Rattle.protocol.specs.Message.{Msg, Name, named}
use Rattle.protocol.specs.Numbering.{some_pending}
use Rattle.protocol.specs.State.{open_phase, Seats, is_clearing, no_seat, taken, seated, empty, leaves, held, is_pending}
use Rattle.protocol.specs.Calls.{Call, join, reserve, confirm, give_back, leave, deliver, turn, crash, merge, rows, refusal}
use Rattle.protocol.specs.Refusals.{wrong_size, unsound, no_such_level, no_such_seat, seat_taken, number_in_use, no_contact, in_clearing, empty_seat}
use Rattle.protocol.specs.Refusals.{already_leaving, no_such_message, messages_left, not_reserved, same_lot, applies_in, first}
use Rattle.protocol.specs.pages.Join.{no_such_contact, in_use, lacks_contact}
use Rattle.protocol.specs.pages.Crash.{names_empty}
use Rattle.protocol.proofs.Calls.{no_row}
use Rattle.base.proofs.Any.{any_none}
use Rattle.protocol.proofs.SoundFacts.{false-not, phase-open}

or-false : (a b : Bool) → (a || b) ≡ false → a ≡ false
or-false true b e = e
or-false false b e = refl

or-false-snd : (a b : Bool) → (a || b) ≡ false → b ≡ false
or-false-snd true b e = true-false refl e
or-false-snd false b e = e

-- seat and contact can be named: the seat exists
pub has-seat : (N s : ℕ) → no_seat N s ≡ false → s < N
has-seat N s e = ltb-true s N (not-false (ltb s N) e)

pub named-seat : (N s c : ℕ) → (no_seat N s || no_such_contact N c) ≡ false → s < N
named-seat N s c e = has-seat N s (or-false (no_seat N s) (no_such_contact N c) e)

-- both seats exist
pub two-seats : (N a b : ℕ) → (no_seat N a || no_seat N b) ≡ false → (a < N) × (b < N)
two-seats N a b e = (has-seat N a (or-false (no_seat N a) (no_seat N b) e), has-seat N b (or-false-snd (no_seat N a) (no_seat N b) e))

module _ (N W : ℕ) (r : Seats) (p : Msg → Bool) where
  -- 1 and 2 are the record's, 12 is the reading's
  abbrev pub Free : Call → ℕ → Type 0
  Free c n = applies_in (rows N W r p c) n ≡ false

  pub rows-free : (c : Call) → Free c wrong_size × Free c unsound × Free c no_such_level
  unfolding rows
  rows-free (join s n v c) = (refl, refl, refl)
  rows-free (reserve s n v) = (refl, refl, refl)
  rows-free (confirm s c) = (refl, refl, refl)
  rows-free (give_back s) = (refl, refl, refl)
  rows-free (leave s) = (refl, refl, refl)
  rows-free (deliver n) = (refl, refl, refl)
  rows-free turn = (refl, refl, refl)
  rows-free (crash set) = (refl, refl, refl)
  rows-free (merge a b) = (refl, refl, refl)

  -- what the rows of a join, of reserving and of confirming say in common
  not-used : (n : ℕ) → in_use N r n ≡ false → (x : ℕ) → x < N → T (taken r x) → r.number x ≢ n
  not-used n e x l t q =
      any_none N (λ z. taken r z && eqb (r.number z) n) e x l (and_T (taken r x) (eqb (r.number x) n) t (true-T (eq-eqb _ _ q)))

  pub record Reserves (s n : ℕ) : Type 0 where
    pub seat : s < N
    pub opens : r.phase ≡ open_phase
    pub free : taken r s ≡ false
    pub unused : (x : ℕ) → x < N → T (taken r x) → r.number x ≢ n

  pub reserve-rows : (s n v : ℕ) → refusal N W r p (reserve s n v) ≡ 0 → Reserves s n
  unfolding refusal rows
  reserve-rows s n v e =
      let rs = rows N W r p (reserve s n v) in
      record {
        seat = has-seat N s (no_row rs no_such_seat tt e);
        opens = phase-open r.phase (false-not (no_row rs in_clearing tt e));
        free = no_row rs seat_taken tt e;
        unused = not-used n (no_row rs number_in_use tt e);
      }

  pub record Confirms (s c : ℕ) : Type 0 where
    pub seat : s < N
    pub opens : r.phase ≡ open_phase
    pub reserved : held r s ≡ true
    pub contact : c < N → T (seated r c)
    pub alone : N ≤ c → (x : ℕ) → x < N → T (seated r x) → ⊥

  pub confirm-rows : (s c : ℕ) → refusal N W r p (confirm s c) ≡ 0 → Confirms s c
  unfolding refusal rows
  confirm-rows s c e =
      let rs = rows N W r p (confirm s c) in
      let known : lacks_contact N r c ≡ false = no_row rs no_contact tt e in
      record {
        seat = named-seat N s c (no_row rs no_such_seat tt e);
        opens = phase-open r.phase (false-not (no_row rs in_clearing tt e));
        reserved = not-false (held r s) (no_row rs not_reserved tt e);
        contact = λ l. true-T (not-false (seated r c) (rw (lt-ltb c N l) at known));
        alone = λ l x m t. any_none N (seated r) (rw (le-ltb c N l) at known) x m t;
      }

  -- a join that is accepted: reserving would be, too
  pub join-reserve : (s n v c : ℕ) → refusal N W r p (join s n v c) ≡ 0 → refusal N W r p (reserve s n v) ≡ 0
  unfolding refusal rows first
  join-reserve s n v c e =
      let rs = rows N W r p (join s n v c) in
      let seat : no_seat N s ≡ false = or-false (no_seat N s) (no_such_contact N c) (no_row rs no_such_seat tt e) in
      let opens : is_clearing r.phase ≡ false = no_row rs in_clearing tt e in
      let free : taken r s ≡ false = no_row rs seat_taken tt e in
      let unused : in_use N r n ≡ false = no_row rs number_in_use tt e in
      rw (seat, opens, free, unused)

  -- the refusal of a join, if its contact can be named: that of reserving, and then 6
  pub join-after : (s n v c : ℕ) → (no_seat N s || no_such_contact N c) ≡ false
      → refusal N W r p (join s n v c)
      ≡ cond (eqb (refusal N W r p (reserve s n v)) 0) (cond (lacks_contact N r c) no_contact 0) (refusal N W r p (reserve s n v))
  unfolding refusal rows first
  join-after s n v c e =
      let seat : no_seat N s ≡ false = or-false (no_seat N s) (no_such_contact N c) e in
      rw (e, seat) (by (is_clearing r.phase) (taken r s) (in_use N r n))
    where
      by : (a b d : Bool) → let m = cond a in_clearing (cond b seat_taken (cond d number_in_use 0)) in
          cond a in_clearing (cond b seat_taken (cond d number_in_use (cond (lacks_contact N r c) no_contact 0)))
          ≡ cond (eqb m 0) (cond (lacks_contact N r c) no_contact 0) m
      by true b d = refl
      by false true d = refl
      by false false true = refl
      by false false false = refl

  pub record GivesBack (s : ℕ) : Type 0 where
    pub seat : s < N
    pub reserved : held r s ≡ true

  pub give-back-rows : (s : ℕ) → refusal N W r p (give_back s) ≡ 0 → GivesBack s
  unfolding refusal rows
  give-back-rows s e =
      let rs = rows N W r p (give_back s) in
      record { seat = has-seat N s (no_row rs no_such_seat tt e); reserved = not-false (held r s) (no_row rs not_reserved tt e) }

  pub record Leaves (s : ℕ) : Type 0 where
    pub seat : s < N
    pub opens : r.phase ≡ open_phase
    pub occupied : seated r s ≡ true
    pub stayed : leaves r s ≡ false

  pub leave-rows : (s : ℕ) → refusal N W r p (leave s) ≡ 0 → Leaves s
  unfolding refusal rows
  leave-rows s e =
      let rs = rows N W r p (leave s) in
      record {
        seat = has-seat N s (no_row rs no_such_seat tt e);
        opens = phase-open r.phase (false-not (no_row rs in_clearing tt e));
        occupied = not-false (seated r s) (no_row rs empty_seat tt e);
        stayed = no_row rs already_leaving tt e;
      }

  pub deliver-row : (n : Name) → refusal N W r p (deliver n) ≡ 0 → T (is_pending p (named n))
  unfolding refusal rows
  deliver-row n e = true-T (not-false (is_pending p (named n)) (no_row (rows N W r p (deliver n)) no_such_message tt e))

  pub turn-row : refusal N W r p turn ≡ 0 → some_pending N W p ≡ false
  unfolding refusal rows
  turn-row e = no_row (rows N W r p turn) messages_left tt e

  pub record Crashes (set : ℕ) : Type 0 where
    pub opens : r.phase ≡ open_phase
    pub occupied : (x : ℕ) → x < N → T (has_bit set x) → T (seated r x)
    pub quiet : some_pending N W p ≡ false

  pub crash-rows : (set : ℕ) → refusal N W r p (crash set) ≡ 0 → Crashes set
  unfolding refusal rows
  crash-rows set e =
      let rs = rows N W r p (crash set) in
      let all : names_empty N r set ≡ false = no_row rs empty_seat tt e in
      record {
        opens = phase-open r.phase (false-not (no_row rs in_clearing tt e));
        occupied = λ x l t. by (seated r x) (λ u. any_none N (λ z. has_bit set z && empty r z) all x l (and_T (has_bit set x) (empty r x) t u));
        quiet = no_row rs messages_left tt e;
      }
    where
      by : (b : Bool) → (T (not b) → ⊥) → T b
      by true f = tt
      by false f = absurd (f tt)

  pub record Merges (a b : ℕ) : Type 0 where
    pub seats : (a < N) × (b < N)
    pub opens : r.phase ≡ open_phase
    pub first-seated : T (seated r a)
    pub second-seated : T (seated r b)
    pub apart : a ≢ b

  pub merge-rows : (a b : ℕ) → refusal N W r p (merge a b) ≡ 0 → Merges a b
  unfolding refusal rows
  merge-rows a b e =
      let rs = rows N W r p (merge a b) in
      let lots : (empty r a || empty r b) ≡ false = no_row rs empty_seat tt e in
      record {
        seats = two-seats N a b (no_row rs no_such_seat tt e);
        opens = phase-open r.phase (false-not (no_row rs in_clearing tt e));
        first-seated = true-T (not-false (seated r a) (or-false (empty r a) (empty r b) lots));
        second-seated = true-T (not-false (seated r b) (or-false-snd (empty r a) (empty r b) lots));
        apart = λ q. true-false (eq-eqb a b q) (no_row rs same_lot tt e);
      }
