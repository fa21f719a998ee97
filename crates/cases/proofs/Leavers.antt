-- The examples of scans past leaving lots, specs/Leavers.antt, evaluated on views. Assumes nothing but that open accepts the bytes lent to it.
use Prim.Native.Nat.{ℕ}
use mathlib.Core.Path.{◌≡◌, refl}
use mathlib.Core.List.{List, [], ◌∷◌, ◌++◌}
use Rattle.base.specs.Loops.{any}
use Rattle.graph.specs.Side.{on_side, side_of}
use Rattle.graph.specs.Vector.{bit, equal_bits, shared}
use Rattle.protocol.specs.Message.{if_zero, if_bit, named, same_msg, among}
use Rattle.protocol.specs.Numbering.{place}
use Rattle.protocol.specs.Rules.{to_link, setting, meeting, probing, pulling, effect}
use Rattle.protocol.specs.State.{nobody, is_pending}
use Rattle.protocol.specs.Calls.{leave, rows, refusal, seats_after, sends, takes, links_after, unless_refused}
use Rattle.protocol.specs.Refusals.{first}
use Rattle.protocol.specs.Page.{at, is_taken}
use Rattle.protocol.specs.pages.Deliver.{rule, delivery_sends, applied, delivery_links}
use Rattle.record.specs.Reading.{open_refusal}
use Rattle.search.specs.Walk.{along, step_at, walk, path, printable, to_staying, left_steps, route, find}
use Rattle.cases.specs.Lists.{q_calls}
use Rattle.cases.specs.Leavers.{Leavers}
use Rattle.cases.proofs.View.{without, view_refusal, view_after, view_call}
use Rattle.cases.proofs.Seen.{least, look, seen}
use Rattle.cases.proofs.Answers.{fits, find-seen}

pub leavers : (l : List ℕ) → open_refusal l ≡ 0 → Leavers l
unfolding q_calls fits seen look least without view_refusal view_after view_call
    find route left_steps to_staying printable path walk step_at along
    nobody refusal rows first any place is_pending unless_refused seats_after at sends delivery_sends takes is_taken
    links_after delivery_links applied rule effect setting meeting probing pulling to_link
    on_side side_of bit equal_bits shared named if_zero if_bit same_msg among
leavers l o = record {
  one = (
    find-seen l o (q_calls ++ leave 1 ∷ []) tt refl refl 0 200 tt,
    find-seen l o (q_calls ++ leave 1 ∷ []) tt refl refl 0 299 tt,
    find-seen l o (q_calls ++ []) tt refl refl 0 250 tt,
  );
  beside = (
    find-seen l o (q_calls ++ leave 1 ∷ []) tt refl refl 0 199 tt,
    find-seen l o (q_calls ++ leave 1 ∷ []) tt refl refl 0 300 tt,
  );
  start = (
    find-seen l o (q_calls ++ leave 1 ∷ []) tt refl refl 1 250 tt,
    find-seen l o (q_calls ++ leave 1 ∷ []) tt refl refl 1 300 tt,
  );
  two = (
    find-seen l o (q_calls ++ leave 1 ∷ leave 2 ∷ []) tt refl refl 0 300 tt,
    find-seen l o (q_calls ++ leave 2 ∷ []) tt refl refl 0 300 tt,
  );
  above = (
    find-seen l o (q_calls ++ leave 0 ∷ []) tt refl refl 2 150 tt,
    find-seen l o (q_calls ++ leave 1 ∷ []) tt refl refl 2 150 tt,
  );
  all = (
    find-seen l o (q_calls ++ leave 0 ∷ leave 1 ∷ leave 2 ∷ []) tt refl refl 0 250 tt,
    find-seen l o (q_calls ++ leave 0 ∷ leave 1 ∷ []) tt refl refl 0 250 tt,
  );
}
