-- When a record is settled: as facts, and when it is not. A settled record is not refused by 1 and 2. Assumes nothing.
use Prim.Native.Nat.{ℕ}
use mathlib.Core.Path.{◌≡◌, refl}
use mathlib.Core.Logic.{◌↔◌, ◌⊎◌, inl, inr, ⊎_elim}
use mathlib.Core.Bool.{Bool, true, false, not, cond, ◌&&◌}
use mathlib.Core.List.{List}
use native.Mathlib.Omega.{arith}
use lib.Dec.{eqb}
use borrow.Author.Tests.{eqb-true, not-true}
use Rattle.base.proofs.Cases.{and_left, and_right}
use Rattle.base.proofs.Tests.{true-T, true-false}
use Rattle.graph.specs.Vector.{width}
use Rattle.protocol.specs.Numbering.{some_pending}
use Rattle.protocol.specs.State.{open_phase, is_clearing}
use Rattle.protocol.proofs.SoundFacts.{phase-open}
use Rattle.record.specs.Layout.{seats}
use Rattle.record.specs.Meaning.{seats_in, meaning}
use Rattle.record.specs.Reading.{record_refusal}
use Rattle.record.proofs.Refused.{Passed, record-passed}
use Rattle.search.specs.Check.{check}
use Rattle.check_links.specs.Check.{members_in, CheckAnswer, check_in}
use Rattle.check_links.specs.Settled.{settled}

module _ (l : List ℕ) where
  -- the check of the links of the members
  abbrev links_right : Bool
  links_right = check seats width (members_in l) (meaning l).link

  -- a record of which the check says yes is not refused
  yes-passed : (check_in l).yes ≡ true → Passed l × (links_right ≡ true)
  unfolding check_in
  yes-passed e = by (eqb (record_refusal l) 0) refl e
    where
      by : (b : Bool) → eqb (record_refusal l) 0 ≡ b
          → (cond {A = CheckAnswer} b (record { refused = 0; yes = links_right }) (record { refused = record_refusal l; yes = false })).yes ≡ true
          → Passed l × (links_right ≡ true)
      by true f e = (record-passed l refl (eqb-true (record_refusal l) 0 f), e)
      by false f e = absurd (let z : ◌≡◌ {A = ℕ} 0 1 = cc in omega arith)

  -- a settled record, as facts
  pub record Settled : Type 0 where
    pub opens : (seats_in l).phase ≡ open_phase
    pub quiet : some_pending seats width (meaning l).pending ≡ false
    pub passed : Passed l
    pub right : links_right ≡ true

  pub settled_is : settled l ≡ true → Settled
  unfolding settled
  settled_is e =
      let o = and_left (not (is_clearing (seats_in l).phase)) _ e in
      let r = and_right (not (is_clearing (seats_in l).phase)) _ e in
      let p = yes-passed (and_right (not (some_pending seats width (meaning l).pending)) _ r) in
      record {
        opens = phase-open (seats_in l).phase (true-T o);
        quiet = not-true (some_pending seats width (meaning l).pending) (and_left (not (some_pending seats width (meaning l).pending)) _ r);
        passed = p.0;
        right = p.1;
      }

  -- not settled: messages are pending, the phase is clearing or the check says no
  pub unsettled-exactly : (settled l ≡ false)
      ↔ ((some_pending seats width (meaning l).pending ≡ true) ⊎ ((is_clearing (seats_in l).phase ≡ true) ⊎ ((check_in l).yes ≡ false)))
  unfolding settled
  unsettled-exactly = by (some_pending seats width (meaning l).pending) (is_clearing (seats_in l).phase) (check_in l).yes
    where
      by : (p c y : Bool) → (not c && (not p && y) ≡ false) ↔ ((p ≡ true) ⊎ ((c ≡ true) ⊎ (y ≡ false)))
      by true true y = (λ e. inl refl, λ w. refl)
      by true false y = (λ e. inl refl, λ w. refl)
      by false true y = (λ e. inr (inl refl), λ w. refl)
      by false false y = (λ e. inr (inr e), ⊎_elim (λ e. true-false e refl) (⊎_elim (λ e. true-false e refl) (λ e. e)))

  pub is-settled : (seats_in l).phase ≡ open_phase → some_pending seats width (meaning l).pending ≡ false → (check_in l).yes ≡ true → settled l ≡ true
  unfolding settled
  is-settled o q y = rw (o, q, y)
