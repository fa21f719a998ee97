-- Document 01's proved cases (a) to (l), specs/Cases.antt, evaluated on views. Assumes nothing but that open accepts the bytes lent to it.
use Prim.Native.Nat.{ℕ}
use mathlib.Core.Path.{◌≡◌, refl, ap, ◌∙◌}
use mathlib.Core.List.{List, [], ◌∷◌, ◌++◌}
use Rattle.base.specs.Loops.{count, any}
use Rattle.graph.specs.Side.{on_side, side_of}
use Rattle.graph.specs.Vector.{bit, equal_bits, shared}
use Rattle.protocol.specs.Message.{name, if_zero, if_bit, named, same_msg, among}
use Rattle.protocol.specs.Numbering.{place}
use Rattle.protocol.specs.Rules.{to_link, setting, meeting, probing, pulling, parting, passing, seeking, effect}
use Rattle.protocol.specs.State.{nobody, is_pending}
use Rattle.protocol.specs.Calls.{join, leave, deliver, rows, refusal, seats_after, sends, takes, links_after, unless_refused}
use Rattle.protocol.specs.Refusals.{first}
use Rattle.protocol.specs.Page.{each, at, is_taken}
use Rattle.protocol.specs.pages.Turn.{after_turn, farewell, farewells, turn_sends, turn_links}
use Rattle.protocol.specs.pages.Deliver.{rule, delivery_sends, applied, delivery_links}
use Rattle.protocol.specs.Freeing.{unlinked}
use Rattle.record.specs.Meaning.{bytes_of}
use Rattle.record.specs.Reading.{open_refusal}
use Rattle.search.specs.Walk.{along, step_at, walk, path, printable, to_staying, left_steps, route, find}
use Rattle.runs.specs.Run.{lot_of}
use Rattle.cases.specs.Lists.{q_calls, i_calls, j_calls, k_calls, l_calls, accepted}
use Rattle.cases.specs.Cases.{Cases}
use Rattle.cases.proofs.View.{without, view_refusal, view_after, view_call}
use Rattle.cases.proofs.Seen.{least, look, seen, seen_bytes}
use Rattle.cases.proofs.Answers.{fits, fits_in, refused-seen, find-seen, lot-seen, links-seen, lot100-seen, settles-seen}
use Rattle.cases.proofs.Sole.{sole-gone}

pub cases : (l : List ℕ) → open_refusal l ≡ 0 → Cases l
unfolding q_calls i_calls j_calls k_calls l_calls fits accepted seen look least without view_refusal view_after view_call
    find route left_steps to_staying printable path walk step_at along lot_of count nobody refusal rows first any place is_pending unless_refused
    seats_after after_turn at sends turn_sends delivery_sends farewells farewell each takes is_taken
    links_after delivery_links turn_links applied unlinked rule effect setting meeting probing pulling parting passing seeking to_link
    on_side side_of bit equal_bits shared named if_zero if_bit same_msg among
cases l o = record {
  a = (refl, refl, refl);
  q = settles-seen l o q_calls tt refl refl 3 refl tt refl;
  q_level_0 = (links-seen l o q_calls tt 0 0 tt tt, links-seen l o q_calls tt 1 0 tt tt, links-seen l o q_calls tt 2 0 tt tt);
  q_level_1 = (links-seen l o q_calls tt 0 1 tt tt, links-seen l o q_calls tt 1 1 tt tt, links-seen l o q_calls tt 2 1 tt tt);
  b = find-seen l o q_calls tt refl refl 0 99 tt;
  c = find-seen l o q_calls tt refl refl 0 300 tt;
  d = find-seen l o q_calls tt refl refl 2 250 tt;
  e = find-seen l o q_calls tt refl refl 2 100 tt;
  f = λ v. refused-seen l o q_calls tt (join 3 200 v 0) 4 refl;
  g = λ n v c. refused-seen l o q_calls tt (join 64 n v c) 2 refl;
  h = λ n v. refused-seen l o [] tt (join 0 n v 0) 5 refl;
  i = lot100-seen l o i_calls tt 2 _ refl tt refl refl refl;
  i_done = lot100-seen l o (i_calls ++ deliver (name 1 0 1 0 0) ∷ []) tt 1 _ refl tt refl refl refl;
  j = lot100-seen l o j_calls tt 1 _ refl tt refl refl refl;
  j_done = lot100-seen l o (j_calls ++ deliver (name 1 0 2 0 0) ∷ []) tt 1 _ refl tt refl refl refl;
  k_scan = find-seen l o (q_calls ++ leave 1 ∷ []) tt refl refl 0 250 tt;
  k = settles-seen l o k_calls tt refl refl 2 refl tt refl;
  k_lots = (lot-seen l o k_calls tt 0 tt, lot-seen l o k_calls tt 1 tt, lot-seen l o k_calls tt 2 tt);
  k_level_0 = (links-seen l o k_calls tt 0 0 tt tt, links-seen l o k_calls tt 2 0 tt tt);
  k_level_1 = (links-seen l o k_calls tt 0 1 tt tt, links-seen l o k_calls tt 2 1 tt tt);
  sole = settles-seen l o l_calls tt refl refl 0 refl tt refl;
  sole_bytes = seen_bytes l o l_calls (fits_in l_calls tt) ∙ ap bytes_of sole-gone;
}
