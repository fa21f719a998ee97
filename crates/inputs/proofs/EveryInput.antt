-- After every input the record is one that calls made: `every-input`. So demand 3 holds of it, no line meets 1 or 2, and with nothing pending P prints
-- the lists of the skip graph of the roster's members. Assumes nothing.
use Prim.Native.Nat.{ℕ}
use mathlib.Core.Path.{◌≡◌, refl, sym, ap, ◌∙◌}
use mathlib.Core.Bool.{true}
use mathlib.Core.List.{List, ◌++◌}
use Rattle.memory.specs.Bytes.{AreBytes}
use Rattle.graph.specs.Vector.{width}
use Rattle.graph.specs.Graph.{Links}
use Rattle.protocol.specs.State.{Seats, Meaning, members}
use Rattle.protocol.specs.Calls.{Call}
use Rattle.protocol.specs.Bundle.{spread}
use Rattle.protocol.specs.Run.{Past, Standing, log_of, members_of, roster_of, NothingPending}
use Rattle.protocol.proofs.Theorem as protocol-theorem
use Rattle.record.specs.Layout.{seats}
use Rattle.record.specs.Meaning.{seats_in, meaning}
use Rattle.record.specs.Reading.{open_refusal, open_bytes, read_counts}
use Rattle.record.specs.Call.{called}
use Rattle.record.specs.Bundle.{bundle_in}
use Rattle.record.proofs.Reading.{record-accepted}
use Rattle.search.proofs.Agree.{agree-sym, agree-laws}
use Rattle.check_links.specs.Check.{members_in, CheckAnswer, check_in}
use Rattle.runs.specs.Run.{meant, roster, list_run, Demand3}
use Rattle.runs.specs.Typed.{AllTyped}
use Rattle.runs.proofs.SameLots.{passed, agree}
use Rattle.runs.proofs.Uses.{roster-laws, links-graph, check-yes}
use Rattle.runs.proofs.Right.{seats-bytes, run-bytes}
use Rattle.runs.proofs.Typed.{all_typed}
use Rattle.runs.proofs.Same.{run-same}
use Rattle.runs.proofs.Theorem.{bound, open-sized, every-list}
use Rattle.listing.specs.Lists.{onward, shared_bits, comes_before, comes_after, earlier, begins, first_of, next_first, firsts_after}
use Rattle.listing.specs.Text.{text_of_all, text_below, list_text, level_text, lists_text, graph_text}
use Rattle.listing.proofs.Graph.{lists-graph}
use Rattle.program.specs.Text.{counts_text}
use Rattle.program.specs.Print.{print_text}
use Rattle.program.specs.Input.{lines_of}
use Rattle.inputs.specs.Made.{calls_in, call_list, InputMade, EveryInput}
use Rattle.program.proofs.Printed.{print-yes, yes-lists}
use Rattle.inputs.proofs.Calls.{input-made, calls-typed}

-- the labels of components do not stand in the text that the links make
label-free : (N W : ℕ) (r : Seats) (L : Links) (c d : ℕ → ℕ) → lists_text N W (members c r) L ≡ lists_text N W (members d r) L
unfolding lists_text level_text list_text text_below text_of_all firsts_after next_first first_of begins earlier comes_after comes_before shared_bits onward
label-free N W r L c d = refl

module _ (l : List ℕ) (e : open_refusal l ≡ 0) (input : List ℕ) where
  abbrev cs : List Call
  cs = calls_in (open_bytes l) (lines_of input)

  abbrev s : Standing (List ℕ)
  s = list_run l (call_list l input)

  typed-now : AllTyped (call_list l input)
  typed-now = calls-typed (open_bytes l) (lines_of input)

  D : Demand3 bound s
  D = every-list l e (call_list l input) typed-now

  bytes : AreBytes s.now
  bytes = run-bytes l e (call_list l input) typed-now

  -- the seats are the roster's
  seats-now : seats_in s.now ≡ (roster s.history).seats
  unfolding list_run
  seats-now =
      let ks = spread called bundle_in (λ c. c) (open_bytes l) (call_list l input) in
      let r = all_typed (open_bytes l) (call_list l input) typed-now in
      let h = run-same l (open-sized l e) ks r in
      ap seats_in h.now ∙ seats-bytes _ h.fine ∙ (protocol-theorem.every-list seats width ks r).lots
      ∙ ap (λ (es : List (Past Meaning)). (roster_of seats width (log_of es)).seats) (sym h.history)

  module _ (p : (read_counts s.now).pending ≡ 0) where
    q : NothingPending seats width (meant s.history)
    q = D.none_left.0 p

    yes : (check_in s.now).yes ≡ true
    yes = ap (λ (a : CheckAnswer). a.yes) (check-yes D bytes q)

    lists-now : graph_text seats width (members_in s.now) ≡ graph_text seats width (members_of (roster s.history))
    lists-now =
        sym (yes-lists s.now bytes (passed D) yes)
        ∙ label-free seats width (seats_in s.now) (meaning s.now).link _ (roster s.history).component
        ∙ lists-graph (agree-laws (agree-sym (agree D bytes)) (roster-laws D bytes)) (links-graph D bytes q)
        ∙ ap (λ (r : Seats). graph_text seats width (members (roster s.history).component r)) seats-now

    prints-now : print_text s.now ≡ counts_text (read_counts s.now) ++ graph_text seats width (members_of (roster s.history))
    prints-now = print-yes s.now _ refl D.readable p yes ∙ ap (λ (t : List ℕ). counts_text (read_counts s.now) ++ t) lists-now

  input-is : InputMade l input
  input-is =
      let here = input-made l input in
      record {
        typed = typed-now;
        made = here;
        passes = rw here (record-accepted s.now (passed D).sized (passed D).fine);
        prints = rw here prints-now;
      }

-- EVERY INPUT
pub every-input : EveryInput
every-input = record { after = input-is }
