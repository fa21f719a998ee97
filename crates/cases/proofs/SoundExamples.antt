-- The examples of soundness, specs/SoundExamples.antt: each record's clauses by the tests of its lists, evaluated. Assumes nothing.
use Prim.Native.Nat.{ℕ, zero, suc, ◌<◌}
use mathlib.Core.Path.{◌≡◌, refl, sym, ap, ◌∙◌}
use mathlib.Core.Bool.{Bool, true, false, not, ◌&&◌}
use mathlib.Core.List.{List, [], ◌∷◌}
use native.Mathlib.Omega.{arith}
use lib.Dec.{T, ltb}
use lib.ListN.{length, get_or, set}
use Rattle.base.specs.Loops.{all}
use Rattle.base.proofs.Cases.{and-true}
use Rattle.graph.specs.Side.{left, right, on_side}
use Rattle.graph.specs.Vector.{width, bit, equal_bits, shared}
use Rattle.protocol.specs.Message.{Msg, meet, probe, pull, going, seek, found, none_found}
use Rattle.protocol.specs.Numbering.{exists}
use Rattle.protocol.specs.Rules.{SeatState, free, staying, leaving, reserved}
use Rattle.protocol.specs.State.{Phase, open_phase, clearing, is_free}
use Rattle.protocol.specs.Sound.{pair_ok, link_ok, message_ok}
use Rattle.protocol.specs.Page.{at}
use Rattle.protocol.specs.pages.Deliver.{applied}
use Rattle.record.specs.Layout.{states, seats, phase_at, state_at}
use Rattle.record.specs.Meaning.{phase_of, state_of, meaning, bytes_of}
use Rattle.record.specs.Sound.{messages_fit, sound}
use Rattle.record.proofs.Places.{length-bytes_of}
use Rattle.record.proofs.Round.{read-phase, read-state}
use Rattle.cases.specs.Small.{Held, holds, LinkOf, linked, field_in, link_in, seats_of, small, small_bytes, three, twins}
use Rattle.cases.specs.SoundExamples.{clauses, every, AllHold, PhaseBroken, StatesBroken, three_in, holding, linking, pending_in, held_in}
use Rattle.cases.specs.SoundExamples.{RecordExamples, MessageExamples}
use Rattle.cases.proofs.Small.{held_fit, links_written, all_exist, all_ok, unused_of, numbers_of, links_of}
use Rattle.cases.proofs.Small.{phase-read, states-read, unused-read, numbers-read, links-read, messages-read}
use Rattle.cases.proofs.OneByte.{unused-alike, numbers-alike, links-fit-alike, messages-alike}
use Rattle.cases.proofs.OneByte.{phase-set, states-beside, phase-alike, state-set, phase-beside, state-alike}

-- six tests, one by one
same-six : {a b c d e f a' b' c' d' e' f' : Bool} → a ≡ a' → b ≡ b' → c ≡ c' → d ≡ d' → e ≡ e' → f ≡ f'
    → ◌≡◌ {A = List Bool} (a ∷ b ∷ c ∷ d ∷ e ∷ f ∷ []) (a' ∷ b' ∷ c' ∷ d' ∷ e' ∷ f' ∷ [])
same-six p q r s t u = λ i. p i ∷ q i ∷ r i ∷ s i ∷ t i ∷ u i ∷ []

-- the clauses of a small record
pub clauses-small : (p : Phase) (hs : List Held) (ls : List LinkOf) (ms : List Msg) → T (held_fit hs) → T (links_written ls) → T (all_exist ms)
    → clauses (small_bytes p hs ls ms)
    ≡ true ∷ true ∷ unused_of (seats_of p hs) (link_in ls) ∷ numbers_of (seats_of p hs) (link_in ls) ∷ links_of (seats_of p hs) (link_in ls)
    ∷ all_ok (seats_of p hs) ms ∷ []
clauses-small p hs ls ms f w x =
    same-six (phase-read p hs ls ms f) (states-read p hs ls ms f) (unused-read p hs ls ms f w) (numbers-read p hs ls ms f)
    (links-read p hs ls ms f w) (messages-read p hs ls ms f x)

-- the three lots without links: only the messages decide
clauses-three : (p : Phase) (ms : List Msg) → T (all_exist ms)
    → clauses (small_bytes p three [] ms) ≡ true ∷ true ∷ true ∷ true ∷ true ∷ all_ok (seats_of p three) ms ∷ []
unfolding held_fit links_written unused_of numbers_of links_of all field_in link_in at
clauses-three p ms x = clauses-small p three [] ms tt tt x

-- the three lots with one more seat, one link, one message
clauses-holding : (h : Held) → T (held_fit (h ∷ three))
    → clauses (holding h)
    ≡ true ∷ true ∷ unused_of (seats_of open_phase (h ∷ three)) (link_in []) ∷ numbers_of (seats_of open_phase (h ∷ three)) (link_in [])
    ∷ links_of (seats_of open_phase (h ∷ three)) (link_in []) ∷ true ∷ []
unfolding links_written all_exist all_ok
clauses-holding h f = clauses-small open_phase (h ∷ three) [] [] f tt tt

clauses-linking : (l : LinkOf) → T (links_written (l ∷ []))
    → clauses (linking l)
    ≡ true ∷ true ∷ unused_of (seats_of open_phase three) (link_in (l ∷ [])) ∷ true
    ∷ links_of (seats_of open_phase three) (link_in (l ∷ [])) ∷ true ∷ []
unfolding held_fit all_exist all_ok numbers_of all field_in at
clauses-linking l w = clauses-small open_phase three (l ∷ []) [] tt w tt

clauses-pending : (p : Phase) (m : Msg) → T (exists seats width m)
    → clauses (pending_in p m) ≡ true ∷ true ∷ true ∷ true ∷ true ∷ message_ok width (seats_of p three) m ∷ []
unfolding all_exist all_ok
clauses-pending p m x =
    clauses-three p (m ∷ []) (rw (and-true (exists seats width m)) x)
    ∙ ap (λ (b : Bool). true ∷ true ∷ true ∷ true ∷ true ∷ b ∷ []) (and-true (message_ok width (seats_of p three) m))

-- the three lots and number 400 on the last seat, in a state that takes the seat: only the message decides
clauses-held : (p : Phase) (t : SeatState) (m : Msg) → T (not (is_free t)) → T (exists seats width m)
    → clauses (held_in p t m) ≡ true ∷ true ∷ true ∷ true ∷ true ∷ message_ok width (seats_of p (holds 63 t 400 0 ∷ three)) m ∷ []
unfolding held_fit links_written all_exist all_ok unused_of numbers_of links_of all field_in link_in at
clauses-held p t m h x = by t h ∙ ap (λ (b : Bool). true ∷ true ∷ true ∷ true ∷ true ∷ b ∷ []) (and-true (fitted t))
  where
    fitted : SeatState → Bool
    fitted t = message_ok width (seats_of p (holds 63 t 400 0 ∷ three)) m

    one : T (exists seats width m && true)
    one = rw (and-true (exists seats width m)) x

    by : (t : SeatState) → T (not (is_free t)) → clauses (held_in p t m) ≡ true ∷ true ∷ true ∷ true ∷ true ∷ (fitted t && true) ∷ []
    by free h = absurd h
    by staying h = clauses-small p (holds 63 staying 400 0 ∷ three) [] (m ∷ []) tt tt one
    by leaving h = clauses-small p (holds 63 leaving 400 0 ∷ three) [] (m ∷ []) tt tt one
    by reserved h = clauses-small p (holds 63 reserved 400 0 ∷ three) [] (m ∷ []) tt tt one

-- the clauses one by one
clause_at : ℕ → List Bool → Bool
clause_at n [] = true
clause_at zero (c ∷ cs) = c
clause_at (suc n) (c ∷ cs) = clause_at n cs

-- a byte set on top of a record in which all hold: the clause that names it, and the others as before
module _ (l : List ℕ) (h : AllHold l) where
  phase-broken : (v : ℕ) → phase_at < length l → ltb v 2 ≡ false → phase_of v ≡ phase_of (get_or l phase_at 0) → PhaseBroken (set l phase_at v)
  unfolding clause_at
  phase-broken v w e q =
      let a = phase-alike l v w q in
      same-six (phase-set l v w ∙ e) (states-beside l v w ∙ ap (clause_at 1) h) (unused-alike a ∙ ap (clause_at 2) h)
      (numbers-alike a ∙ ap (clause_at 3) h) (links-fit-alike a ∙ ap (clause_at 4) h) (messages-alike a ∙ ap (clause_at 5) h)

  state-broken : (s v : ℕ) → s < seats → state_at s < length l → ltb v states ≡ false → state_of v ≡ state_of (get_or l (state_at s) 0)
      → StatesBroken (set l (state_at s) v)
  unfolding clause_at
  state-broken s v g w e q =
      let a = state-alike l s v g w q in
      same-six (phase-beside l s v g w ∙ ap (clause_at 0) h) (state-set l s v g w e) (unused-alike a ∙ ap (clause_at 2) h)
      (numbers-alike a ∙ ap (clause_at 3) h) (links-fit-alike a ∙ ap (clause_at 4) h) (messages-alike a ∙ ap (clause_at 5) h)

phase_2 : PhaseBroken (set (three_in clearing) phase_at 2)
unfolding phase_of all_exist all_ok
phase_2 =
    let M = small clearing three [] [] in
    let w : phase_at < length (bytes_of M) = rw (length-bytes_of M) (omega arith) in
    phase-broken (three_in clearing) (clauses-three clearing [] tt) 2 w refl (sym (ap phase_of (read-phase M)))

last-held : (t : SeatState) → T (not (is_free t)) → AllHold (holding (holds 63 t 400 0))
unfolding held_fit unused_of numbers_of links_of all field_in link_in at
last-held free h = absurd h
last-held staying h = clauses-holding (holds 63 staying 400 0) tt
last-held leaving h = clauses-holding (holds 63 leaving 400 0) tt
last-held reserved h = clauses-holding (holds 63 reserved 400 0) tt

state-4 : StatesBroken (set (holding (holds 63 reserved 400 0)) (state_at 63) 4)
unfolding state_of field_in at
state-4 =
    let M = small open_phase (holds 63 reserved 400 0 ∷ three) [] [] in
    let g : 63 < seats = omega arith in
    let w : state_at 63 < length (bytes_of M) = rw (length-bytes_of M) (omega arith) in
    state-broken (holding (holds 63 reserved 400 0)) (last-held reserved tt) 63 4 g w refl (sym (ap state_of (read-state M 63 g)))

clauses_all : (b : List ℕ) → sound b ≡ every (clauses b)
unfolding sound every
clauses_all b = rw (and-true (messages_fit b))

pub record-examples : RecordExamples
unfolding held_fit links_written all_exist all_ok unused_of numbers_of links_of all field_in link_in at applied link_ok pair_ok shared equal_bits bit on_side
record-examples = record {
  clauses_all = clauses_all;
  phase = (clauses-three open_phase [] tt, clauses-three clearing [] tt, phase_2);
  state = (last-held leaving tt, last-held reserved tt, state-4);
  unused = (clauses-holding (holds 3 free 1 0) tt, clauses-holding (holds 63 free 0 1) tt, clauses-holding (holds 3 free 0 0) tt);
  unused_link = clauses-linking (linked 3 0 right 0) tt;
  numbers = (clauses-holding (holds 63 staying 200 0) tt, clauses-holding (holds 63 staying 201 0) tt, clauses-holding (holds 63 staying 0 0) tt);
  reserved_number = (
    clauses-holding (holds 63 reserved 100 0) tt,
    clauses-holding (holds 63 reserved 200 0) tt,
    clauses-small open_phase (holds 3 reserved 400 0 ∷ holds 63 reserved 400 0 ∷ three) [] [] tt tt tt,
    clauses-small open_phase (holds 3 reserved 400 0 ∷ holds 63 reserved 401 0 ∷ three) [] [] tt tt tt,
    clauses-holding (holds 63 reserved 0 0) tt,
  );
  reserved_link = (
    clauses-small open_phase (holds 63 reserved 400 0 ∷ three) (linked 63 0 left 0 ∷ []) [] tt tt tt,
    clauses-small open_phase (holds 63 reserved 400 0 ∷ three) (linked 0 0 right 63 ∷ []) [] tt tt tt,
    clauses-small open_phase (holds 63 staying 400 0 ∷ three) (linked 63 0 left 0 ∷ []) [] tt tt tt,
    clauses-small open_phase (holds 63 staying 400 0 ∷ three) (linked 0 0 right 63 ∷ []) [] tt tt tt,
  );
  link_seat = (clauses-linking (linked 0 0 right 0) tt, clauses-linking (linked 0 0 left 3) tt, clauses-linking (linked 0 0 right 64) tt);
  link_side = (
    clauses-linking (linked 0 0 left 1) tt,
    clauses-linking (linked 2 0 right 1) tt,
    clauses-linking (linked 0 0 right 1) tt,
    clauses-linking (linked 2 0 left 1) tt,
  );
  link_level = (clauses-linking (linked 0 2 right 2) tt, clauses-linking (linked 0 1 right 2) tt, clauses-linking (linked 2 8 left 0) tt);
  link_last = (
    clauses-small open_phase (holds 63 staying 400 0 ∷ three) (linked 63 8 right 0 ∷ []) [] tt tt tt,
    clauses-small open_phase (holds 63 staying 400 0 ∷ three) (linked 63 8 left 0 ∷ []) [] tt tt tt,
  );
}

-- a message that has no place
no_place : (b : List ℕ) (m : Msg) → exists seats width m ≡ false → (meaning b).pending m ≡ false
unfolding meaning
no_place b m e = rw e

pub message-examples : MessageExamples
unfolding held_fit links_written all_exist all_ok unused_of numbers_of links_of all field_in link_in at exists message_ok pair_ok shared equal_bits bit meaning
message-examples = record {
  meet_fits = (clauses-pending open_phase (meet 0 2 1) tt, clauses-pending open_phase (meet 1 0 0) tt);
  meet_breaks = (
    clauses-pending open_phase (meet 0 2 2) tt,
    clauses-pending open_phase (meet 3 0 0) tt,
    clauses-pending open_phase (meet 0 3 0) tt,
    clauses-pending open_phase (meet 0 0 0) tt,
    clauses-pending clearing (meet 0 2 1) tt,
  );
  probe_fits = (clauses-pending open_phase (probe 0 2 1) tt, clauses-pending open_phase (probe 1 0 0) tt);
  probe_breaks = (
    clauses-pending open_phase (probe 0 2 2) tt,
    clauses-pending open_phase (probe 3 0 0) tt,
    clauses-pending open_phase (probe 0 3 0) tt,
    clauses-pending open_phase (probe 0 0 0) tt,
    clauses-pending clearing (probe 0 2 1) tt,
  );
  pull_fits = (clauses-pending open_phase (pull 0 false 7 left) tt, clauses-pending open_phase (pull 1 true 0 right) tt);
  pull_breaks = (clauses-pending open_phase (pull 3 true 0 right) tt, clauses-pending clearing (pull 0 false 7 left) tt);
  going_fits = (clauses-pending clearing (going 0 8 left) tt, clauses-pending clearing (going 1 0 right) tt);
  going_breaks = (clauses-pending clearing (going 3 0 right) tt, clauses-pending open_phase (going 0 8 left) tt);
  seek_fits = (clauses-pending clearing (seek 0 2 1) tt, clauses-pending clearing (seek 1 0 0) tt);
  seek_breaks = (
    clauses-pending clearing (seek 0 1 0) tt,
    clauses-pending clearing (seek 0 2 2) tt,
    clauses-pending clearing (seek 3 0 0) tt,
    clauses-pending clearing (seek 0 3 0) tt,
    clauses-pending clearing (seek 0 0 0) tt,
    clauses-pending open_phase (seek 0 2 1) tt,
  );
  found_fits = (clauses-pending clearing (found 0 2 1) tt, clauses-pending clearing (found 2 0 0) tt);
  found_breaks = (
    clauses-pending clearing (found 1 0 0) tt,
    clauses-pending clearing (found 0 1 0) tt,
    clauses-pending clearing (found 0 2 2) tt,
    clauses-pending clearing (found 3 0 0) tt,
    clauses-pending clearing (found 0 3 0) tt,
    clauses-pending clearing (found 0 0 0) tt,
    clauses-pending open_phase (found 0 2 1) tt,
  );
  none_fits = (clauses-pending clearing (none_found 0 8 left) tt, clauses-pending clearing (none_found 2 0 right) tt);
  none_breaks = (
    clauses-pending clearing (none_found 1 0 right) tt,
    clauses-pending clearing (none_found 3 0 right) tt,
    clauses-pending clearing (none_found 63 8 right) tt,
    clauses-pending open_phase (none_found 0 8 left) tt,
  );
  reserved_breaks = (
    clauses-held open_phase reserved (meet 63 0 0) tt tt,
    clauses-held open_phase reserved (meet 0 63 0) tt tt,
    clauses-held open_phase reserved (probe 63 0 0) tt tt,
    clauses-held open_phase reserved (probe 0 63 0) tt tt,
    clauses-held open_phase reserved (pull 63 true 0 right) tt tt,
    clauses-held clearing reserved (going 63 0 right) tt tt,
    clauses-held clearing reserved (seek 63 0 0) tt tt,
    clauses-held clearing reserved (seek 0 63 0) tt tt,
    clauses-held clearing reserved (found 63 0 0) tt tt,
    clauses-held clearing reserved (found 0 63 0) tt tt,
    clauses-held clearing reserved (none_found 63 0 right) tt tt,
  );
  reserved_fits = (
    clauses-held open_phase staying (meet 63 0 0) tt tt,
    clauses-held open_phase staying (meet 0 63 0) tt tt,
    clauses-held clearing staying (found 63 0 0) tt tt,
    clauses-held clearing staying (none_found 63 0 right) tt tt,
  );
  level_fits = (clauses-small open_phase twins [] (meet 0 1 8 ∷ []) tt tt tt, clauses-small open_phase twins [] (probe 0 1 7 ∷ []) tt tt tt);
  no_place = no_place;
  level_none = (refl, refl, refl, refl, refl, refl, refl);
  level_breaks = (refl, refl, refl, refl, refl, refl, refl);
}
