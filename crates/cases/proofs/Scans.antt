-- The examples of scans that wait, specs/Scans.antt, after lists of calls, evaluated on views; those on small records are in Components. Assumes nothing but
-- that open accepts the bytes lent to it.
use Prim.Native.Nat.{ℕ}
use mathlib.Core.Path.{◌≡◌, refl}
use mathlib.Core.List.{List, [], ◌∷◌, ◌++◌}
use native.Mathlib.Omega.{arith}
use Rattle.base.specs.Loops.{any}
use Rattle.graph.specs.Side.{on_side, side_of}
use Rattle.graph.specs.Vector.{bit, equal_bits, shared}
use Rattle.protocol.specs.Message.{if_zero, if_bit, named, same_msg, among}
use Rattle.protocol.specs.Numbering.{place}
use Rattle.protocol.specs.Rules.{to_link, setting, meeting, probing, pulling, parting, passing, seeking, effect}
use Rattle.protocol.specs.State.{nobody, is_pending}
use Rattle.protocol.specs.Calls.{join, leave, turn, rows, refusal, seats_after, sends, takes, links_after, unless_refused}
use Rattle.protocol.specs.Refusals.{first}
use Rattle.protocol.specs.Page.{each, at, is_taken}
use Rattle.protocol.specs.pages.Turn.{after_turn, farewell, farewells, turn_sends, turn_links}
use Rattle.protocol.specs.pages.Deliver.{rule, delivery_sends, applied, delivery_links}
use Rattle.protocol.specs.Freeing.{unlinked}
use Rattle.record.specs.Reading.{open_refusal}
use Rattle.cases.specs.Lists.{q_calls, i_calls, k_calls}
use Rattle.cases.specs.Scans.{Scans}
use Rattle.cases.proofs.View.{without, view_refusal, view_after, view_call}
use Rattle.cases.proofs.Seen.{least, look, seen}
use Rattle.cases.proofs.Answers.{fits, scan-accepted, scan-seat, scan-empty, scan-pending, scan-clearing}

pub scans : (l : List ℕ) → open_refusal l ≡ 0 → Scans l
unfolding q_calls i_calls k_calls fits seen look least without view_refusal view_after view_call
    nobody refusal rows first any place is_pending unless_refused
    seats_after after_turn at sends turn_sends delivery_sends farewells farewell each takes is_taken
    links_after delivery_links turn_links applied unlinked rule effect setting meeting probing pulling parting passing seeking to_link
    on_side side_of bit equal_bits shared named if_zero if_bit same_msg among
scans l o = record {
  pending = (scan-pending l o i_calls tt 0 (omega arith) refl refl, scan-accepted l o q_calls tt refl refl 0 tt);
  leaving = (scan-accepted l o (q_calls ++ leave 1 ∷ []) tt refl refl 0 tt, scan-accepted l o (q_calls ++ leave 1 ∷ []) tt refl refl 1 tt);
  clearing = (
    scan-pending l o (q_calls ++ leave 1 ∷ turn ∷ []) tt 0 (omega arith) refl refl,
    scan-clearing l o (join 0 100 0 255 ∷ leave 0 ∷ turn ∷ []) tt 0 (omega arith) refl refl,
    scan-accepted l o k_calls tt refl refl 0 tt,
  );
  order = (
    scan-seat l o i_calls tt 64 (omega arith),
    scan-empty l o i_calls tt 63 (omega arith) refl,
    scan-accepted l o (join 63 100 0 255 ∷ []) tt refl refl 63 tt,
  );
}
