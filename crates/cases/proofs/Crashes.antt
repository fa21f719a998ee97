-- The examples of crashes, specs/Crashes.antt, evaluated: the rows on small records, the lists on views. Assumes nothing but that open accepts the bytes
-- lent to it.
use Prim.Native.Nat.{ℕ}
use mathlib.Core.Path.{◌≡◌, refl}
use mathlib.Core.List.{List, [], ◌∷◌, ◌++◌}
use Rattle.base.specs.Loops.{any, count}
use Rattle.base.specs.Bits.{bit_of}
use Rattle.graph.specs.Side.{on_side, side_of}
use Rattle.graph.specs.Vector.{bit, equal_bits, shared}
use Rattle.protocol.specs.Message.{meet, if_zero, if_bit, named, same_msg, among}
use Rattle.protocol.specs.Numbering.{place}
use Rattle.protocol.specs.Rules.{to_link, setting, meeting, probing, pulling, effect}
use Rattle.protocol.specs.State.{nobody, is_pending}
use Rattle.protocol.specs.Calls.{leave, crash, rows, refusal, seats_after, sends, takes, links_after, unless_refused}
use Rattle.protocol.specs.Refusals.{first}
use Rattle.protocol.specs.Page.{each, at, is_taken}
use Rattle.protocol.specs.pages.Deliver.{rule, delivery_sends, applied, delivery_links}
use Rattle.protocol.specs.pages.Crash.{introduced, introductions}
use Rattle.protocol.specs.Freeing.{unlinked}
use Rattle.record.specs.Reading.{open_refusal}
use Rattle.search.specs.Walk.{along, step_at, walk, path, printable, to_staying, left_steps, route, find}
use Rattle.runs.specs.Run.{lot_of}
use Rattle.cases.specs.Lists.{q_calls, accepted}
use Rattle.cases.specs.Small.{field_in}
use Rattle.cases.specs.Crashes.{CrashExamples, q_cut, q_mended, t_calls, t_cut, Crashes}
use Rattle.cases.proofs.View.{without, view_refusal, view_after, view_call, some_left_lem}
use Rattle.cases.proofs.Seen.{least, look, seen}
use Rattle.cases.proofs.Refusals.{alone-exists}
use Rattle.cases.proofs.Answers.{fits, lot-seen, links-seen, lot100-seen, settles-seen, check-seen, find-seen}

pub crash-examples : CrashExamples
unfolding refusal rows first any among field_in at bit_of
crash-examples = record {
  phase = (refl, refl, rw (some_left_lem [] (λ m t. absurd t)));
  empty = (refl, refl, refl, refl, rw (some_left_lem [] (λ m t. absurd t)), rw (some_left_lem [] (λ m t. absurd t)));
  pending = λ m x. (rw (some_left_lem (m ∷ []) (alone-exists m x)), rw (some_left_lem (m ∷ []) (alone-exists m x)));
  order = (refl, λ m. refl);
}

pub crashes : (l : List ℕ) → open_refusal l ≡ 0 → Crashes l
unfolding q_calls t_calls accepted fits seen look least without view_refusal view_after view_call lot_of count
    find route left_steps to_staying printable path walk step_at along
    nobody refusal rows first any place is_pending unless_refused bit_of
    seats_after at sends delivery_sends introduced introductions each takes is_taken
    links_after delivery_links applied unlinked rule effect setting meeting probing pulling to_link
    on_side side_of bit equal_bits shared named if_zero if_bit same_msg among
crashes l o = record {
  cut = lot100-seen l o q_cut tt 255 (meet 0 2 0 ∷ meet 2 0 0 ∷ meet 2 0 0 ∷ meet 0 2 0 ∷ []) refl tt refl refl refl;
  freed = lot-seen l o q_cut tt 1 tt;
  above = links-seen l o q_cut tt 0 1 tt tt;
  mends = settles-seen l o q_mended tt refl refl 2 refl tt refl;
  linked_again = links-seen l o q_mended tt 0 0 tt tt;
  nobody = settles-seen l o (q_calls ++ crash 0 ∷ []) tt refl refl 3 refl tt refl;
  two = settles-seen l o t_cut tt refl refl 2 refl tt refl;
  checked = check-seen l o t_cut tt refl refl;
  scans = (find-seen l o t_cut tt refl refl 0 350 tt, find-seen l o t_cut tt refl refl 2 350 tt, find-seen l o t_cut tt refl refl 2 250 tt);
  leaver = settles-seen l o (t_calls ++ leave 1 ∷ crash 2 ∷ []) tt refl refl 2 refl tt refl;
  all = settles-seen l o (t_calls ++ crash 7 ∷ []) tt refl refl 0 refl tt refl;
}
