-- The examples of reservations, specs/Reservations.antt, evaluated: the rows on small records, the lists on views. Assumes nothing but that open accepts
-- the bytes lent to it.
use Prim.Native.Nat.{ℕ}
use mathlib.Core.Path.{◌≡◌, refl}
use mathlib.Core.List.{List, [], ◌∷◌, ◌++◌}
use native.Mathlib.Omega.{arith}
use Rattle.base.specs.Loops.{any, all, count}
use Rattle.graph.specs.Side.{on_side, side_of}
use Rattle.graph.specs.Vector.{bit, equal_bits, shared}
use Rattle.protocol.specs.Message.{meet, if_zero, if_bit, named, same_msg, among}
use Rattle.protocol.specs.Numbering.{place}
use Rattle.protocol.specs.Rules.{to_link, setting, meeting, probing, pulling, effect}
use Rattle.protocol.specs.State.{open_phase, clearing, nobody, is_pending}
use Rattle.protocol.specs.Calls.{join, reserve, confirm, give_back, turn, rows, refusal, seats_after, sends, takes, links_after, unless_refused}
use Rattle.protocol.specs.Refusals.{first}
use Rattle.protocol.specs.Page.{each, at, is_taken}
use Rattle.protocol.specs.pages.Turn.{after_turn, farewell, farewells, turn_sends, turn_links}
use Rattle.protocol.specs.pages.Deliver.{rule, delivery_sends, applied, delivery_links}
use Rattle.protocol.specs.Freeing.{unlinked}
use Rattle.record.specs.Reading.{open_refusal}
use Rattle.search.specs.Walk.{along, step_at, walk, path, printable, to_staying, left_steps, route, find}
use Rattle.runs.specs.Run.{lot_of}
use Rattle.cases.specs.Lists.{q_calls, accepted}
use Rattle.cases.specs.Small.{field_in, link_in, three}
use Rattle.cases.specs.Reservations.{waiting, q_waiting, leaver_waiting, ReserveExamples, ConfirmExamples, GiveBackExamples, OtherExamples}
use Rattle.cases.specs.Reservations.{WaitingBytes, Reservations}
use Rattle.cases.proofs.Small.{held_fit, links_written, all_exist, all_ok, unused_of, numbers_of, links_of}
use Rattle.cases.proofs.SoundExamples.{clauses-small}
use Rattle.cases.proofs.Refusals.{call-refused}
use Rattle.cases.proofs.View.{without, view_refusal, view_after, view_call}
use Rattle.cases.proofs.Seen.{least, look, seen}
use Rattle.cases.proofs.Answers.{fits, lot-seen, lot100-seen, settles-seen, find-seen, scan-empty}

pub reserve-examples : ReserveExamples
unfolding refusal rows first any among field_in at
reserve-examples = record {
  seat = (refl, refl);
  phase = (refl, refl);
  taken = (refl, refl, refl, refl);
  number = (refl, refl, refl, refl, refl);
  order = (refl, refl, refl);
}

pub confirm-examples : ConfirmExamples
unfolding refusal rows first any among field_in at
confirm-examples = record {
  seat = (refl, refl, refl, refl);
  phase = refl;
  not-reserved = (refl, refl, refl);
  contact = (refl, refl, refl, refl);
  first = (refl, refl, refl);
  order = (refl, refl, refl);
}

pub give-back-examples : GiveBackExamples
unfolding refusal rows first field_in at
give-back-examples = record { seat = refl; not-reserved = (refl, refl, refl); given = (refl, refl, refl) }

pub other-examples : OtherExamples
unfolding refusal rows first any among field_in at
other-examples = record {
  join_4 = (refl, refl);
  join_5 = (refl, refl);
  join_6 = (refl, refl);
  join_first = (refl, refl, refl);
  leave_8 = (refl, refl);
}

pub waiting-bytes : WaitingBytes
unfolding held_fit links_written all_exist all_ok unused_of numbers_of links_of all field_in link_in at
waiting-bytes = record {
  opens = call-refused open_phase (waiting ∷ three) tt (clauses-small open_phase (waiting ∷ three) [] [] tt tt tt);
  clears = call-refused clearing (waiting ∷ three) tt (clauses-small clearing (waiting ∷ three) [] [] tt tt tt);
  alone = call-refused open_phase (waiting ∷ []) tt (clauses-small open_phase (waiting ∷ []) [] [] tt tt tt);
}

pub reservations : (l : List ℕ) → open_refusal l ≡ 0 → Reservations l
unfolding q_calls accepted fits seen look least without view_refusal view_after view_call lot_of count
    find route left_steps to_staying printable path walk step_at along
    nobody refusal rows first any place is_pending unless_refused
    seats_after after_turn at sends turn_sends delivery_sends farewells farewell each takes is_taken
    links_after delivery_links turn_links applied unlinked rule effect setting meeting probing pulling to_link
    on_side side_of bit equal_bits shared named if_zero if_bit same_msg among
reservations l o = record {
  settles = settles-seen l o q_waiting tt refl refl 3 refl tt refl;
  reads = lot-seen l o q_waiting tt 4 tt;
  scans = (find-seen l o q_waiting tt refl refl 0 450 tt, scan-empty l o q_waiting tt 4 (omega arith) refl);
  confirmed = lot100-seen l o (q_waiting ++ confirm 4 0 ∷ []) tt 1 (meet 0 4 0 ∷ []) refl tt refl refl refl;
  joined = lot100-seen l o (q_calls ++ join 4 400 32 0 ∷ []) tt 1 (meet 0 4 0 ∷ []) refl tt refl refl refl;
  first = settles-seen l o (reserve 4 400 32 ∷ confirm 4 255 ∷ []) tt refl refl 1 refl tt refl;
  turned = settles-seen l o (leaver_waiting ++ turn ∷ []) tt refl refl 0 refl tt refl;
  turned_reads = lot-seen l o (leaver_waiting ++ turn ∷ []) tt 4 tt;
  given = settles-seen l o (leaver_waiting ++ give_back 4 ∷ turn ∷ []) tt refl refl 0 refl tt refl;
  given_reads = lot-seen l o (leaver_waiting ++ give_back 4 ∷ turn ∷ []) tt 4 tt;
}
