-- `joining::join_row` meets its contract: 3 of seat and contact, the rows of reserving, then 6. Assumes nothing.
use Prim.Native.Nat.{ℕ}
use mathlib.Core.Path.{◌≡◌, refl, sym, ◌∙◌}
use mathlib.Core.Logic.{◌≢◌}
use mathlib.Core.Bool.{false, cond, ◌||◌}
use mathlib.Core.List.{List}
use native.Mathlib.Omega.{arith}
use lib.Dec.{eqb}
use borrow.Author.Tests.{eq-eqb, ne_eqb}
use Rattle.std.specs.Prelude.{Err}
use Rattle.graph.specs.Vector.{width}
use Rattle.protocol.specs.State.{no_seat}
use Rattle.protocol.specs.Calls.{Call, join, reserve, rows, refusal}
use Rattle.protocol.specs.pages.Join.{no_such_contact, lacks_contact}
use Rattle.protocol.specs.Refusals.{no_contact, first}
use Rattle.protocol.proofs.Accepted.{join-after}
use Rattle.record.specs.Layout.{seats}
use Rattle.record.specs.Meaning.{meaning}
use Rattle.record.specs.Answer.{number_of}
use Rattle.record.specs.declared.refusals.Refusal.{Refusal}
use Rattle.record.proofs.Determined.{refusal_number-positive}
use Rattle.record.proofs.Answered.{refusal-on}
use Rattle.record.proofs.Rows.{row_here, row_next}
use Rattle.joining.proofs.join_row.Goals as goal

pub returns-then-lacks_seat : goal.returns-then-lacks_seat
unfolding refusal rows first number_of
returns-then-lacks_seat c = λ v. row_here 3 _ c.lacks_seat.ensures c.if-lacks_seat.true

abbrev table : List ℕ → Call → ℕ
table l c = refusal seats width (meaning l).seats (meaning l).pending c

-- what comes after a number that is 0, or not
skips : (n k : ℕ) → n ≡ 0 → cond (eqb n 0) k n ≡ k
skips n k z = rw (eq-eqb n 0 z)

stays : (n k : ℕ) → n ≢ 0 → cond (eqb n 0) k n ≡ n
stays n k h = rw (ne_eqb n 0 h)

-- seat and contact can be named: a row of reserving applies, or none does
module _ (l : List ℕ) (s n v k : ℕ) (e : (no_seat seats s || no_such_contact seats k) ≡ false) where
  after : table l (join s n v k)
      ≡ cond (eqb (table l (reserve s n v)) 0) (cond (lacks_contact seats (meaning l).seats k) no_contact 0) (table l (reserve s n v))
  after = join-after seats width (meaning l).seats (meaning l).pending s n v k e

  stops : (r : Refusal) {m : ℕ} → number_of {A = Unit {0}} (Err r) ≡ table l (reserve s n v) → m ≡ table l (reserve s n v) → m ≡ table l (join s n v k)
  unfolding number_of
  stops r q h = h ∙ sym (after ∙ stays _ _ (λ z. omega (arith, q, z, refusal_number-positive r)))

  goes : {m : ℕ} → 0 ≡ table l (reserve s n v) → m ≡ cond (lacks_contact seats (meaning l).seats k) no_contact 0 → m ≡ table l (join s n v k)
  goes z h = h ∙ sym (after ∙ skips _ _ (sym z))

pub returns-in_err-reserve_row : goal.returns-in_err-reserve_row
returns-in_err-reserve_row c = λ v.
    let e = c.in_err-reserve_row.ensures v in
    stops _ _ _ _ _ (sym c.lacks_seat.ensures ∙ c.if-lacks_seat.false) _ e (refusal-on _ c.from_residual.result _ c.from_residual.ensures.1 e)

pub returns-then-lacks_contact : goal.returns-then-lacks_contact
unfolding meaning number_of
returns-then-lacks_contact c = λ v. goes _ _ _ _ _ (sym c.lacks_seat.ensures ∙ c.if-lacks_seat.false) (c.in_ok-reserve_row.ensures v)
    (row_here 6 0 c.lacks_contact.ensures c.if-lacks_contact.true)

pub returns : goal.returns
unfolding meaning number_of
returns c = λ v. goes _ _ _ _ _ (sym c.lacks_seat.ensures ∙ c.if-lacks_seat.false) (c.in_ok-reserve_row.ensures v)
    (row_next 6 c.lacks_contact.ensures c.if-lacks_contact.false refl)
