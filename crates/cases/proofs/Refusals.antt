-- The examples of the table, specs/Refusals.antt: calls on small records are evaluated, readings by what the bytes read. Assumes nothing.
use Prim.Native.Nat.{ℕ, zero, suc}
use mathlib.Core.Path.{◌≡◌, refl, sym, ap, ◌∙◌, subst, fun_ext}
use mathlib.Core.Logic.{⊎_elim, inl, inr, ◌≢◌}
use mathlib.Core.Bool.{Bool, true, false, not, cond}
use mathlib.Core.List.{List, [], ◌∷◌}
use native.Mathlib.Omega.{arith}
use lib.Dec.{T, eqb}
use lib.ListN.{length, set, length-set}
use borrow.Author.Tests.{eq-eqb, ne_eqb}
use Rattle.base.specs.Loops.{any, all}
use Rattle.base.proofs.Tests.{dec-T, T_true, not-T-false, or_cases}
use Rattle.graph.specs.Vector.{width}
use Rattle.protocol.specs.Message.{Msg, meet, probe, name_of, if_zero, if_bit, named, same_msg, among}
use Rattle.protocol.specs.Numbering.{exists}
use Rattle.protocol.specs.State.{Phase, open_phase, clearing, is_clearing, Seats, taken, seated, empty, nobody, is_pending}
use Rattle.protocol.specs.Refusals.{empty_seat, row, first}
use Rattle.protocol.specs.Calls.{Call, deliver, rows, refusal}
use Rattle.protocol.specs.Page.{at}
use Rattle.protocol.proofs.Message.{same-eq, same_self, named-name}
use Rattle.record.specs.Layout.{seats, size, phase_at}
use Rattle.record.specs.Meaning.{seats_in, meaning}
use Rattle.record.specs.Sound.{sound}
use Rattle.record.specs.Reading.{seat_row, level_row, open_refusal, lot_refusal, link_refusal, record_refusal}
use Rattle.record.specs.Reading.{LotAnswer, LinkAnswer, MessageAnswer, CountAnswer, read_lot, read_link, read_message, read_counts}
use Rattle.record.specs.Call.{call_refusal, called}
use Rattle.record.specs.Bundle.{bundled}
use Rattle.record.proofs.Places.{length-bytes_of}
use Rattle.record.proofs.Form.{meaning-seats, meaning-pending}
use Rattle.record.proofs.Round.{read-message}
use Rattle.record.proofs.Refused.{Passed, record-stops, wrong_size_lem}
use Rattle.record.proofs.Reading.{record-accepted, lot_refusal-is, link_refusal-is}
use Rattle.record.proofs.Call.{record-accepted as call-accepted}
use Rattle.check_links.proofs.Settled.{unsettled-exactly}
use Rattle.find.specs.Find.{find_in}
use Rattle.find.proofs.Refused.{stops, no-seat, no-lot, waits}
use Rattle.find.proofs.Scans.{find-refused}
use Rattle.check_links.specs.Check.{CheckAnswer, check_in}
use Rattle.cases.specs.Small.{Held, field_in, link_in, seats_of, small, small_bytes, three, last, twins}
use Rattle.cases.specs.SoundExamples.{every, AllHold, three_in}
use Rattle.cases.specs.Refusals.{refused, JoinExamples, LeaveExamples, DeliveryExamples, TurnExamples, EveryCall, far_bytes, BytesExamples}
use Rattle.cases.proofs.View.{some_left_lem}
use Rattle.cases.proofs.Small.{held_fit, links_written, all_exist, all_ok, unused_of, numbers_of, links_of, seats-read}
use Rattle.cases.proofs.SoundExamples.{clauses-small, record-examples, message-examples}

pub join-examples : JoinExamples
unfolding refusal rows first any among nobody field_in at
join-examples = record {
  seat = (refl, refl);
  contact_seat = (refl, refl, refl, refl);
  phase = (refl, refl);
  taken = (refl, refl, refl);
  number = (refl, refl, refl, refl, refl);
  contact = (refl, refl, refl, refl, refl, refl);
  leaver = (refl, refl);
  order = (refl, refl, refl, refl, refl);
}

pub leave-examples : LeaveExamples
unfolding refusal rows first field_in at
leave-examples = record { seat = (refl, refl); phase = (refl, refl); empty = (refl, refl, refl); order = (refl, refl, refl, refl) }

-- bytes whose clauses hold are sound
pub all_sound : (b : List ℕ) → AllHold b → sound b ≡ true
unfolding every
all_sound b h = record-examples.clauses_all b ∙ ap every h

-- the only message of a list
alone : (m : Msg) → among (m ∷ []) m ≡ true
unfolding among
alone m = rw (T_true {b = same_msg m m} (same_self m))

pub alone-exists : (m : Msg) → T (exists seats width m) → (n : Msg) → T (among (m ∷ []) n) → T (exists seats width n)
unfolding among
alone-exists m x n t = ⊎_elim (λ s. subst (λ (k : Msg). T (exists seats width k)) (same-eq m n s) x) (λ f. absurd f) (or_cases (same_msg m n) false t)

none-among : (m : Msg) → among [] m ≡ false
unfolding among
none-among m = refl

-- a pending message is accepted
delivered : (p : Phase) (hs : List Held) (m : Msg) → T (exists seats width m) → AllHold (small_bytes p hs [] (m ∷ []))
    → call_refusal (small_bytes p hs [] (m ∷ [])) (deliver (name_of m)) ≡ 0
unfolding refusal rows first is_pending
delivered p hs m x h =
    let M = small p hs [] (m ∷ []) in
    let b = small_bytes p hs [] (m ∷ []) in
    let here : (meaning b).pending m ≡ true = meaning-pending b m x ∙ read-message M m x ∙ alone m in
    call-accepted b (length-bytes_of M) (all_sound b h) (deliver (name_of m)) ∙ rw (named-name m, here)

pub delivery-examples : DeliveryExamples
unfolding refusal rows first is_pending named if_zero if_bit same_msg among meaning exists
delivery-examples = record {
  pending = (refl, refl, refl, refl);
  no_message = λ r p. (refl, refl, refl, refl, refl, refl, refl, refl);
  a_message = λ r. (refl, refl, refl, refl, refl);
  no_level = λ r b. (refl, refl, refl, refl, refl, refl);
  a_level = (
    delivered open_phase twins (meet 0 1 8) tt message-examples.level_fits.0,
    delivered open_phase twins (probe 0 1 7) tt message-examples.level_fits.1,
  );
}

-- a turn, by whether the list of pending messages has one
pub turn-examples : TurnExamples
unfolding refusal rows first among
turn-examples = record {
  one_left = λ r m x. rw (some_left_lem (m ∷ []) (alone-exists m x));
  none_left = λ r. rw (some_left_lem [] (λ m t. absurd t));
}

-- the refusal of a record stands in front of every call
every_call : (l : List ℕ) (n : ℕ) → n ≡ record_refusal l → n ≢ 0 → EveryCall l n
unfolding call_refusal lot_refusal link_refusal
every_call l n e h = record {
  calls = λ c. sym (record-stops l _ e h);
  lot = λ s. sym (record-stops l _ e h);
  link = λ s k d. sym (record-stops l _ e h);
  scan = λ s. sym (stops l s e h);
  others = sym e;
}

open-refuses : (l : List ℕ) → length l ≢ size → open_refusal l ≡ 1
unfolding open_refusal first
open-refuses l h = rw (ne_eqb (length l) size h)

open-accepts : (l : List ℕ) → length l ≡ size → open_refusal l ≡ 0
unfolding open_refusal first
open-accepts l h = rw (eq-eqb (length l) size h)

wrong : (l : List ℕ) → length l ≢ size → EveryCall l 1 × (open_refusal l ≡ 1)
wrong l h = (every_call l 1 (wrong_size_lem l h) (λ e. omega arith), open-refuses l h)

unfit : (l : List ℕ) → length l ≡ size → sound l ≡ false → EveryCall l 2
unfolding record_refusal first
unfit l e s = every_call l 2 (rw (eq-eqb (length l) size e, s)) (λ z. omega arith)

-- an answer that carries its refusal number
carry : {A : Type 0} (f : A → ℕ) (a : A) (g : ℕ → A) (n : ℕ) → f a ≡ 0 → ((k : ℕ) → f (g k) ≡ k) → f (cond (eqb n 0) a (g n)) ≡ n
carry f a g zero p q = p
carry f a g (suc n) p q = rw (ne_eqb (suc n) 0 (λ e. omega arith)) (q (suc n))

-- readings of the bytes of a small record that is sound
module _ (p : Phase) (hs : List Held) (fit : T (held_fit hs)) (fine : AllHold (small_bytes p hs [] [])) where
  abbrev b : List ℕ
  b = small_bytes p hs [] []

  sized : length b ≡ size
  sized = length-bytes_of (small p hs [] [])

  fine-sound : sound b ≡ true
  fine-sound = all_sound b fine

  accepted : record_refusal b ≡ 0
  accepted = record-accepted b sized fine-sound

  pending-read : (m : Msg) → (meaning b).pending m ≡ among [] m
  pending-read m = by (dec-T (exists seats width m))
    where
      by : Dec (T (exists seats width m)) → (meaning b).pending m ≡ among [] m
      by (yes x) = meaning-pending b m x ∙ read-message (small p hs [] []) m x
      by (no x) = message-examples.no_place b m (not-T-false x) ∙ sym (none-among m)

  pub call-refused : (c : Call) → call_refusal b c ≡ refused (seats_of p hs) c
  call-refused c =
      call-accepted b sized fine-sound c
      ∙ ap (λ (r : Seats). refusal seats width r (meaning b).pending c) (meaning-seats b ∙ seats-read p hs [] [] fit)
      ∙ ap (λ (q : Msg → Bool). refusal seats width (seats_of p hs) q c) (fun_ext pending-read)

  lot-refusal : (x : ℕ) → lot_refusal b x ≡ first (seat_row x ∷ row empty_seat (not (taken (seats_of p hs) x)) ∷ [])
  lot-refusal x =
      lot_refusal-is b sized fine-sound x
      ∙ ap (λ (r : Seats). first (seat_row x ∷ row empty_seat (not (taken r x)) ∷ [])) (seats-read p hs [] [] fit)

  scan-passed : Passed b
  scan-passed = record { sized = sized; fine = fine-sound }

  scan-lot : (x : ℕ) → seated (seats_in b) x ≡ seated (seats_of p hs) x
  scan-lot x = ap (λ (r : Seats). seated r x) (seats-read p hs [] [] fit)

  link-refusal : (x k d : ℕ) → link_refusal b x k d ≡ first (seat_row x ∷ level_row k d ∷ row empty_seat (empty (seats_of p hs) x) ∷ [])
  link-refusal x k d =
      link_refusal-is b sized fine-sound x k d
      ∙ ap (λ (r : Seats). first (seat_row x ∷ level_row k d ∷ row empty_seat (empty r x) ∷ [])) (seats-read p hs [] [] fit)

last-fine : AllHold far_bytes
unfolding held_fit links_written all_exist all_ok unused_of numbers_of links_of all field_in link_in at
last-fine = clauses-small open_phase last [] [] tt tt tt

-- the bytes with phase 2
phase-2-size : length (set (three_in clearing) phase_at 2) ≡ size
phase-2-size = rw length-set (length-bytes_of (small clearing three [] []))

phase-2-unsound : sound (set (three_in clearing) phase_at 2) ≡ false
unfolding every
phase-2-unsound = record-examples.clauses_all (set (three_in clearing) phase_at 2) ∙ ap every record-examples.phase.2

pub bytes-examples : BytesExamples
unfolding called read_lot read_link find_in read_message read_counts check_in bundled held_fit first field_in at
bytes-examples = record {
  carried = λ l. (
    λ c. refl,
    λ s. carry (λ (a : LotAnswer). a.refused) _ (λ k. record { refused = k; state = 0; number = 0; vector = 0 }) (lot_refusal l s) refl (λ k. refl),
    λ s k d. carry (λ (a : LinkAnswer). a.refused) _ (λ k. record { refused = k; seat = 0 }) (link_refusal l s k d) refl (λ k. refl),
    λ s x. find-refused l s x,
    λ n. carry (λ (a : MessageAnswer). a.refused) _ (λ k. record { refused = k; pending = 0 }) (record_refusal l) refl (λ k. refl),
    carry (λ (a : CountAnswer). a.refused) _ (λ k. record { refused = k; lots = 0; phase = 0; pending = 0 }) (record_refusal l) refl (λ k. refl),
    carry (λ (a : CheckAnswer). a.refused) _ (λ k. record { refused = k; yes = false }) (record_refusal l) refl (λ k. refl),
    λ n. refl,
  );
  on_bytes = λ c. (
    call-refused open_phase three tt record-examples.phase.0 c,
    call-refused clearing three tt record-examples.phase.1 c,
    call-refused open_phase last tt last-fine c,
  );
  size_1 = λ l h. wrong l (λ e. ⊎_elim (λ q. omega arith) (λ q. omega arith) h);
  size_fits = open-accepts;
  sound_2 = unfit;
  phase_2 = (unfit _ phase-2-size phase-2-unsound, open-accepts _ phase-2-size);
  sound_fits = (accepted open_phase three tt record-examples.phase.0, accepted clearing three tt record-examples.phase.1);
  lot = (
    lot-refusal open_phase last tt last-fine 64,
    lot-refusal open_phase last tt last-fine 63,
    lot-refusal clearing three tt record-examples.phase.1 3,
    lot-refusal clearing three tt record-examples.phase.1 1,
  );
  scan = (
    sym (no-seat (three_in clearing) 64 passed (omega arith)),
    sym (no-lot (three_in clearing) 3 passed (omega arith) (lot 3)),
    sym (waits (three_in clearing) 1 passed (omega arith) (lot 1) ((unsettled-exactly (three_in clearing)).1 (inr (inl
        (ap (λ (r : Seats). is_clearing r.phase) (seats-read clearing three [] [] tt)))))),
  );
  link_3 = (link-refusal open_phase last tt last-fine 64 8 1, link-refusal open_phase last tt last-fine 63 8 1);
  link_12 = (link 0 9 1, link 0 8 2, link 0 8 1);
  link_8 = (link 3 8 1, link 1 8 1);
  link_order = (link 64 9 1, link 3 9 1, link 3 8 2);
}
  where
    link : (x k d : ℕ) → link_refusal (three_in open_phase) x k d
        ≡ first (seat_row x ∷ level_row k d ∷ row empty_seat (empty (seats_of open_phase three) x) ∷ [])
    link = link-refusal open_phase three tt record-examples.phase.0

    passed : Passed (three_in clearing)
    passed = scan-passed clearing three tt record-examples.phase.1

    lot : (x : ℕ) → seated (seats_in (three_in clearing)) x ≡ seated (seats_of clearing three) x
    lot = scan-lot clearing three tt record-examples.phase.1
