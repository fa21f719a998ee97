-- The examples of merges, specs/Merges.antt, evaluated: the rows on small records, the lists on views. Assumes nothing but that open accepts the bytes
-- lent to it.
use Prim.Native.Nat.{ℕ}
use mathlib.Core.Path.{◌≡◌, refl}
use mathlib.Core.List.{List, [], ◌∷◌, ◌++◌}
use Rattle.base.specs.Loops.{any, count}
use Rattle.base.specs.Bits.{bit_of}
use Rattle.graph.specs.Side.{on_side, side_of}
use Rattle.graph.specs.Vector.{bit, equal_bits, shared}
use Rattle.protocol.specs.Message.{meet, if_zero, if_bit, named, same_msg, among}
use Rattle.protocol.specs.Numbering.{place}
use Rattle.protocol.specs.Rules.{to_link, setting, meeting, probing, pulling, effect}
use Rattle.protocol.specs.State.{nobody, is_pending}
use Rattle.protocol.specs.Calls.{leave, crash, merge, rows, refusal, seats_after, sends, takes, links_after, unless_refused}
use Rattle.protocol.specs.Refusals.{first}
use Rattle.protocol.specs.Page.{each, at, is_taken}
use Rattle.protocol.specs.pages.Deliver.{rule, delivery_sends, applied, delivery_links}
use Rattle.protocol.specs.pages.Crash.{introduced, introductions}
use Rattle.protocol.specs.Freeing.{unlinked}
use Rattle.record.specs.Reading.{open_refusal}
use Rattle.search.specs.Walk.{along, step_at, walk, path, printable, to_staying, left_steps, route, find}
use Rattle.runs.specs.Run.{lot_of}
use Rattle.cases.specs.Lists.{q_calls, accepted}
use Rattle.cases.specs.Small.{field_in}
use Rattle.cases.specs.Crashes.{t_calls, t_cut}
use Rattle.cases.specs.Merges.{MergeExamples, t_told, t_whole, q_told, Merges}
use Rattle.cases.proofs.View.{without, view_refusal, view_after, view_call}
use Rattle.cases.proofs.Seen.{least, look, seen}
use Rattle.cases.proofs.Answers.{fits, links-seen, lot100-seen, settles-seen, check-seen, find-seen, refused-seen}

pub merge-examples : MergeExamples
unfolding refusal rows first among field_in at
merge-examples = record {
  seat = (refl, refl, refl, refl, refl);
  phase = (refl, refl);
  empty = (refl, refl, refl, refl, refl, refl);
  same = (refl, refl, refl);
  pending = λ m. (refl, refl);
  order = (refl, refl, refl, refl, refl, refl);
}

pub merges : (l : List ℕ) → open_refusal l ≡ 0 → Merges l
unfolding q_calls t_calls accepted fits seen look least without view_refusal view_after view_call lot_of count
    find route left_steps to_staying printable path walk step_at along
    nobody refusal rows first any place is_pending unless_refused bit_of
    seats_after at sends delivery_sends introduced introductions each takes is_taken
    links_after delivery_links applied unlinked rule effect setting meeting probing pulling to_link
    on_side side_of bit equal_bits shared named if_zero if_bit same_msg among
merges l o = record {
  told = lot100-seen l o t_told tt 255 (meet 0 2 0 ∷ []) refl tt refl refl refl;
  turned = lot100-seen l o (t_cut ++ merge 2 0 ∷ []) tt 255 (meet 2 0 0 ∷ []) refl tt refl refl refl;
  twice = lot100-seen l o (t_told ++ merge 0 2 ∷ []) tt 255 (meet 0 2 0 ∷ meet 0 2 0 ∷ []) refl tt refl refl refl;
  leaver = lot100-seen l o (t_cut ++ leave 2 ∷ merge 2 0 ∷ []) tt 255 (meet 2 0 0 ∷ []) refl tt refl refl refl;
  waits = refused-seen l o t_told tt (crash 1) 10 refl;
  whole = settles-seen l o t_whole tt refl refl 2 refl tt refl;
  linked = (links-seen l o t_whole tt 0 0 tt tt, links-seen l o t_whole tt 2 0 tt tt);
  checked = check-seen l o t_whole tt refl refl;
  scan = find-seen l o t_whole tt refl refl 0 350 tt;
  again = settles-seen l o (t_whole ++ crash 4 ∷ []) tt refl refl 1 refl tt refl;
  inside = settles-seen l o q_told tt refl refl 3 refl tt refl;
  inside_links = (links-seen l o q_told tt 0 0 tt tt, links-seen l o q_told tt 0 1 tt tt);
}
