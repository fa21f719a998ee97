-- Demand 3 on the bytes, for every list of calls and bundles on an opened record: `demand-3`, `every-list`. The bound of its last part, "a number, fixed
-- by the record alone", is `bound`: computed from the bytes and from nothing else, how far the links still are and a rank for each pending
-- message, as crates/protocol/proofs/Measure.antt has it. Every accepted delivery lowers it. Assumes nothing.
use Prim.Native.Nat.{ℕ, zero, suc, ◌<◌}
use mathlib.Core.Path.{◌≡◌, sym, ap, ◌∙◌, subst, fun_ext}
use mathlib.Core.Logic.{◌↔◌}
use mathlib.Core.Bool.{Bool, false}
use mathlib.Core.Option.{Option}
use mathlib.Core.List.{List}
use native.Mathlib.Omega.{arith}
use lib.Dec.{T, eqb}
use lib.ListN.{length}
use borrow.Author.Tests.{ne_eqb}
use native.Mathlib.Decide.{ℕ_discrete}
use Rattle.base.specs.Loops.{one_if, count}
use Rattle.graph.specs.Side.{Side, side_number}
use Rattle.graph.specs.Vector.{width}
use Rattle.graph.specs.Graph.{graph, IsGraph}
use Rattle.protocol.specs.Message.{Msg, named}
use Rattle.protocol.specs.State.{Seats, Meaning, seated, member, is_pending}
use Rattle.protocol.specs.Calls.{Call}
use Rattle.protocol.specs.Tied.{Tied}
use Rattle.protocol.specs.Bundle.{Item, spread}
use Rattle.protocol.specs.Refusals.{first}
use Rattle.protocol.specs.Run.{Past, Standing, log_of, meaning_run, members_of, roster_of, pending_of}
use Rattle.protocol.specs.Run.{RefusedByTable, NothingPending, MeaningDemand3, AllInRange}
use Rattle.protocol.proofs.SoundFacts.{seated-below}
use Rattle.protocol.proofs.Reached.{member-seated}
use Rattle.protocol.proofs.Bundle.{spread-delivers}
use Rattle.protocol.proofs.Theorem as protocol-theorem
use Rattle.protocol.proofs.Measure as measure
use Rattle.record.specs.Layout.{seats, levels, size}
use Rattle.record.specs.Meaning.{meaning, bytes_of, phase_byte, link_byte}
use Rattle.record.specs.Reading.{open_refusal, open_bytes, read_lot, read_link, read_message, CountAnswer, read_counts}
use Rattle.record.specs.Call.{called}
use Rattle.record.specs.Bundle.{bundle_in}
use Rattle.record.proofs.Bundle.{Fine, fine-bytes, deliveries-end}
use Rattle.runs.specs.Typed.{AllTyped}
use Rattle.runs.specs.Tied.{TiedIn}
use Rattle.runs.specs.Run.{bytes_run, list_run, meant, roster, Sits, lot_of, Demand3, EveryList}
use Rattle.runs.proofs.Typed.{all_typed}
use Rattle.runs.proofs.Same.{Same, run-same}
use Rattle.runs.proofs.Tied.{tied-bytes}
use Rattle.runs.proofs.Readings.{counts_of, read-lot, read-message, read-counts, read-link, count_none}

-- the bound: a number computed from the bytes alone
unfoldable pub bound : List ℕ → ℕ
bound l = measure.bound seats width (meaning l)

pub open-sized : (l : List ℕ) → open_refusal l ≡ 0 → length l ≡ size
unfolding open_refusal first
open-sized l e = by (ℕ_discrete (length l) size)
  where
    by : Dec (length l ≡ size) → length l ≡ size
    by (yes q) = q
    by (no q) = let b : eqb (length l) size ≡ false = ne_eqb (length l) size q in let z : suc zero ≡ zero = rw b at e in absurd (omega arith)

-- what holds on the meaning holds of the readings of the bytes
carried : (s : Standing (List ℕ)) (t : Standing Meaning) → Same s t → MeaningDemand3 seats width (measure.bound seats width) t → Demand3 bound s
unfolding bound counts_of
carried s t h D = record {
  refusals = subst (RefusedByTable seats width) (sym h.history) D.refusals;
  lots = λ x p. at (λ l. read_lot l x) ∙ read-lot M h.fine x p ∙ ap (λ (r : Seats). lot_of r x) who;
  readable = at (λ l. (read_counts l).refused) ∙ ap (λ (a : CountAnswer). a.refused) counts;
  phase = at (λ l. (read_counts l).phase) ∙ ap (λ (a : CountAnswer). a.phase) counts ∙ ap (λ (r : Seats). phase_byte r.phase) who;
  seated = at (λ l. (read_counts l).lots) ∙ ap (λ (a : CountAnswer). a.lots) counts ∙ ap (λ (r : Seats). count seats (seated r)) who;
  messages = λ n. at (λ l. read_message l n) ∙ read-message M h.fine n
      ∙ ap (λ (p : Msg → Bool). record { refused = 0; pending = one_if (is_pending p (named n)) })
      (fun_ext D.messages ∙ ap (pending_of seats width) (sym h.history));
  none_left = (
    λ e. subst (NothingPending seats width) (sym h.history) (D.none_left.0 ((count_none M h.fine).0 (sym left ∙ e))),
    λ q. left ∙ (count_none M h.fine).1 (D.none_left.1 (subst (NothingPending seats width) h.history q)),
  );
  components = λ x y m n.
      let (to, from) = together x y m n in
      let (reads, back) = tied-bytes M h.fine x y in (
        λ e. subst (λ (l : List ℕ). TiedIn l x y) (sym h.now) (reads (to e)),
        λ i. from (back (subst (λ (l : List ℕ). TiedIn l x y) h.now i)),
      );
  links = λ q x k d m p.
      let here : T (seated t.now.seats x) = member-seated t.now.seats x (subst (λ (r : Seats). T (member r x)) (sym who) m) in
      at (λ l. read_link l x k (side_number d))
      ∙ read-link M h.fine x k d (seated-below h.fine x here) p here
      ∙ ap (λ (o : Option ℕ). record { refused = 0; seat = link_byte o }) (linked q x k d m p);
  ends = λ ds. let r = spread-delivers called bundle_in s.now ds in rw r.1 (deliveries-end s.now fine r.0);
}
  where
    M : Meaning
    M = t.now

    fine : Fine s.now
    fine = subst Fine (sym h.now) (fine-bytes h.fine)

    at : {A : Type 0} (f : List ℕ → A) → f s.now ≡ f (bytes_of t.now)
    at f = ap f h.now

    who : t.now.seats ≡ (roster_of seats width (log_of (meant s.history))).seats
    who = D.lots ∙ ap (λ (es : List (Past Meaning)). (roster_of seats width (log_of es)).seats) (sym h.history)

    counts : read_counts (bytes_of t.now) ≡ counts_of t.now
    counts = read-counts t.now h.fine

    left : (read_counts s.now).pending ≡ (counts_of t.now).pending
    left = at (λ l. (read_counts l).pending) ∙ ap (λ (a : CountAnswer). a.pending) counts

    together : (x y : ℕ) → Sits (roster s.history) x → Sits (roster s.history) y
        → ((roster s.history).component x ≡ (roster s.history).component y) ↔ Tied t.now x y
    together =
        subst (λ (es : List (Past Meaning)).
        (x y : ℕ) → Sits (roster_of seats width (log_of es)) x → Sits (roster_of seats width (log_of es)) y
        → ((roster_of seats width (log_of es)).component x ≡ (roster_of seats width (log_of es)).component y) ↔ Tied t.now x y)
        (sym h.history) D.components

    linked : NothingPending seats width (meant s.history) → (x k : ℕ) (d : Side)
        → T (member (roster_of seats width (log_of (meant s.history))).seats x)
        → k < levels
        → t.now.link x k d ≡ graph seats width (members_of (roster_of seats width (log_of (meant s.history)))) x k d
    linked q x k d m p =
        (subst (λ (es : List (Past Meaning)).
        NothingPending seats width es → IsGraph seats width (members_of (roster_of seats width (log_of es))) t.now.link)
        (sym h.history) D.graph q
        ).link x k d m (omega arith)

pub in_range : (l : List ℕ) → open_refusal l ≡ 0 → (cs : List Call) → AllInRange seats width cs → Demand3 bound (bytes_run l cs)
in_range l e cs r = carried (bytes_run l cs) (meaning_run seats width cs) (run-same l (open-sized l e) cs r) (protocol-theorem.every-list seats width cs r)

-- bundles stand for their deliveries, and the arguments are any that the types of the code can hold
pub every-list : (l : List ℕ) → open_refusal l ≡ 0 → (is : List (Item Call)) → AllTyped is → Demand3 bound (list_run l is)
unfolding list_run
every-list l e is t = in_range l e (spread called bundle_in (λ c. c) (open_bytes l) is) (all_typed (open_bytes l) is t)

-- THE THEOREM: one bound for all lists
pub demand-3 : EveryList
demand-3 = record { bound = bound; after = every-list }
