-- What `refusals` of demand 3 says of each call of a list, whenever it was made: its refusal number is the table's from the roster and the
-- pending messages then; it is never 1, 2 or 12; a delivery was refused, with 10, exactly if its message was not pending; and no lot of the
-- roster sits above the last seat. All from the histories alone. Assumes nothing.
use Prim.Native.Nat.{ℕ, zero, suc, ◌<◌}
use mathlib.Core.Path.{◌≡◌, refl, sym, ap, ◌∙◌, subst}
use mathlib.Core.Logic.{◌≢◌, ⊎_elim}
use mathlib.Core.Bool.{Bool, true, false, not, cond}
use mathlib.Core.List.{List, [], ◌∷◌, ◌++◌}
use native.Mathlib.Omega.{arith}
use lib.Dec.{T}
use Rattle.base.specs.Bits.{has_bit}
use Rattle.base.proofs.Cases.{eq-or-ne}
use Rattle.base.proofs.Tests.{true-false}
use Rattle.protocol.specs.Message.{Msg, Name, named}
use Rattle.protocol.specs.Rules.{SeatState, free, staying, leaving, reserved}
use Rattle.protocol.specs.State.{Phase, open_phase, clearing, Seats, Meaning, is_free, nobody, taken, leaves, is_pending}
use Rattle.protocol.specs.Refusals.{wrong_size, unsound, no_such_level, no_such_message, order, Row, applies_in, first_of, first}
use Rattle.protocol.specs.Page.{at}
use Rattle.protocol.specs.Freeing.{freeing}
use Rattle.protocol.specs.pages.Turn.{after_turn}
use Rattle.protocol.specs.Calls.{Call, join, reserve, confirm, give_back, leave, deliver, turn, crash, merge, unless_refused, rows, refusal}
use Rattle.protocol.specs.Calls.{seats_after}
use Rattle.protocol.specs.Run.{Past, log_of, Roster, roster_after, roster_of, pending_of, RefusedByTable}
use Rattle.protocol.proofs.Calls.{at_other}
use Rattle.protocol.proofs.Accepted.{rows-free, reserve-rows, confirm-rows, join-reserve, give-back-rows, leave-rows}

-- a refusal that is given applies
given-applies : (ns : List ℕ) (rs : List Row) (n : ℕ) → n ≢ 0 → first_of ns rs ≡ n → applies_in rs n ≡ true
given-applies [] rs n h e = absurd (h (sym e))
given-applies (m ∷ ms) rs n h e = by (applies_in rs m) refl e (given-applies ms rs n h)
  where
    by : (b : Bool) → applies_in rs m ≡ b → cond b m (first_of ms rs) ≡ n → (first_of ms rs ≡ n → applies_in rs n ≡ true)
        → applies_in rs n ≡ true
    by true f e ih = ap (applies_in rs) (sym e) ∙ f
    by false f e ih = ih e

-- n is not 0 and stands in no row
not-given : (rs : List Row) (n : ℕ) → n ≢ 0 → applies_in rs n ≡ false → first rs ≢ n
unfolding first
not-given rs n h f e = true-false (given-applies order rs n h e) f

module _ (N W : ℕ) (r : Seats) (p : Msg → Bool) where
  -- no call of a list meets 1, 2 or 12
  pub refusal-other : (c : Call) → (refusal N W r p c ≢ wrong_size) × (refusal N W r p c ≢ unsound) × (refusal N W r p c ≢ no_such_level)
  unfolding refusal
  refusal-other c =
      let f = rows-free N W r p c in
      let rs = rows N W r p c in
      (not-given rs wrong_size (λ e. omega arith) f.0, not-given rs unsound (λ e. omega arith) f.1, not-given rs no_such_level (λ e. omega arith) f.2)

  -- the refusal of a delivery
  pub refusal-deliver : (n : Name) → refusal N W r p (deliver n) ≡ cond (is_pending p (named n)) 0 no_such_message
  unfolding refusal rows first
  refusal-deliver n = by (is_pending p (named n))
    where
      by : (b : Bool) → cond (not b) no_such_message 0 ≡ cond b 0 no_such_message
      by true = refl
      by false = refl

-- the lots of a roster sit below N
abbrev Below : (N : ℕ) → Seats → Type 0
Below N r = (x : ℕ) → T (taken r x) → x < N

module _ (N W : ℕ) where
  nobody-below : Below N nobody
  unfolding nobody
  nobody-below x t = absurd t

  -- one seat gets another state
  at-below : (s : ℕ) (a : SeatState) (r : Seats) → s < N → Below N r → (x : ℕ) → T (not (is_free (at s a r.state x))) → x < N
  at-below s a r l h x t = ⊎_elim
      (λ e. omega arith)
      (λ n. h x (subst (λ (z : SeatState). T (not (is_free z))) (at_other s a r.state x n) t))
      (eq-or-ne x s)

  -- seats become free
  freed-below : (freed : ℕ → Bool) (f : Phase) (r : Seats) → Below N r → Below N (freeing freed f r)
  freed-below freed f r h x t = by (freed x) t
    where
      by : (b : Bool) → T (not (is_free (cond b free (r.state x)))) → x < N
      by true u = absurd u
      by false u = h x u

  turn_below : (f : Phase) (r : Seats) → Below N r → Below N (after_turn N f r)
  unfolding after_turn
  turn_below open_phase r h x t = h x t
  turn_below clearing r h x t = freed-below (leaves r) open_phase r h x t

  after-below : (r : Seats) (p : Msg → Bool) → Below N r → (c : Call) → refusal N W r p c ≡ 0 → Below N (seats_after N W r c)
  unfolding seats_after
  after-below r p h (join s n v c) e = at-below s staying r (reserve-rows N W r p s n v (join-reserve N W r p s n v c e)).seat h
  after-below r p h (reserve s n v) e = at-below s reserved r (reserve-rows N W r p s n v e).seat h
  after-below r p h (confirm s c) e = at-below s staying r (confirm-rows N W r p s c e).seat h
  after-below r p h (give_back s) e = at-below s free r (give-back-rows N W r p s e).seat h
  after-below r p h (leave s) e = at-below s leaving r (leave-rows N W r p s e).seat h
  after-below r p h (deliver n) e = h
  after-below r p h turn e = turn_below r.phase r h
  after-below r p h (crash set) e = freed-below (has_bit set) r.phase r h
  after-below r p h (merge a b) e = h

  step-below : (o : Roster) (p : Msg → Bool) → Below N o.seats → (c : Call) (n : ℕ) → n ≡ refusal N W o.seats p c
      → Below N (unless_refused n o (roster_after N W o c)).seats
  unfolding unless_refused roster_after
  step-below o p h c zero e = after-below o.seats p h c (sym e)
  step-below o p h c (suc n) e = h

  pub roster-below : (es : List (Past Meaning)) → RefusedByTable N W es → Below N (roster_of N W (log_of es)).seats
  unfolding roster_of log_of
  roster-below [] t = nobody-below
  roster-below (e ∷ es) (q, t) = step-below (roster_of N W (log_of es)) (pending_of N W es) (roster-below es t) e.logged.call e.logged.refused q

  -- of a call e, with the calls before it in `older` and those after it in `newer`
  pub refused-then : (newer : List (Past Meaning)) (e : Past Meaning) (older : List (Past Meaning)) → RefusedByTable N W (newer ++ (e ∷ older))
      → e.logged.refused ≡ refusal N W (roster_of N W (log_of older)).seats (pending_of N W older) e.logged.call
  refused-then [] e older t = t.0
  refused-then (n ∷ ns) e older t = refused-then ns e older t.1
