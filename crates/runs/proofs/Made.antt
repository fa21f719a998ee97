-- Bytes made by calls, with what the roster's components are then: after every list, after a call that is accepted, and after deliveries. With
-- nothing pending these components are those of the links. Assumes nothing.
use Prim.Native.Nat.{ℕ, zero, suc}
use mathlib.Core.Path.{◌≡◌, refl, sym, ap, ◌∙◌}
use mathlib.Core.Logic.{◌↔◌}
use mathlib.Core.List.{List, [], ◌∷◌}
use lib.Dec.{T}
use Rattle.graph.specs.Vector.{width}
use Rattle.graph.specs.Constraints.{Joined}
use Rattle.graph.specs.Components.{component_of}
use Rattle.graph.proofs.Components.{graph-labels}
use Rattle.graph.proofs.Labels.{components-agree}
use Rattle.protocol.specs.Message.{Name}
use Rattle.protocol.specs.State.{Meaning, member, members}
use Rattle.protocol.specs.Calls.{Call, Outcome, deliver, refusal, seats_after, components_after, accept, unless_refused, call, InRange}
use Rattle.protocol.specs.Bundle.{Item, left_by, spread}
use Rattle.protocol.specs.Sound.{Sound}
use Rattle.protocol.specs.Run.{log_of, roster_of, meaning_run, AllInRange}
use Rattle.protocol.proofs.World.{Quiet}
use Rattle.protocol.proofs.Delivery.{state_of}
use Rattle.protocol.proofs.KeepSound.{nothing_left, call-sound}
use Rattle.protocol.proofs.Reached.{Reached, members-laws, reached-graph}
use Rattle.protocol.proofs.Theorem.{reached-accept, track-run}
use Rattle.record.specs.Layout.{seats}
use Rattle.record.specs.Meaning.{meaning, bytes_of}
use Rattle.record.specs.Reading.{open_refusal, open_bytes, CountAnswer, read_counts}
use Rattle.record.specs.Call.{called}
use Rattle.record.specs.Bundle.{bundle_in}
use Rattle.record.proofs.Places.{length-bytes_of}
use Rattle.record.proofs.Round.{bytes-bytes, meaning-bytes}
use Rattle.record.proofs.Sound.{bytes-sound}
use Rattle.record.proofs.Call.{call-bytes}
use Rattle.check_links.specs.Check.{components_in, members_in}
use Rattle.check_links.proofs.Facts.{components-joined}
use Rattle.runs.specs.Typed.{AllTyped}
use Rattle.runs.specs.Run.{list_run}
use Rattle.runs.proofs.Typed.{all_typed}
use Rattle.runs.proofs.Same.{run-same}
use Rattle.runs.proofs.Theorem.{open-sized}
use Rattle.runs.proofs.Readings.{read-counts, count_none}
use Rattle.runs.proofs.Right.{seats-bytes}

-- a delivery keeps the components and the seats, whether it is accepted or not
module _ {comp : ℕ → ℕ} {N W : ℕ} where
  reached-delivery : {M : Meaning} → Reached comp N W M → (n : Name)
      → Reached comp N W (call N W M (deliver n)).after × ((call N W M (deliver n)).after.seats ≡ M.seats)
  unfolding call unless_refused components_after accept seats_after
  reached-delivery {M} g n = by (refusal N W M.seats M.pending (deliver n)) refl
    where
      same : (accept N W M (deliver n)).seats ≡ M.seats
      same = refl

      by : (a : ℕ) → refusal N W M.seats M.pending (deliver n) ≡ a
          → Reached comp N W (unless_refused a M (accept N W M (deliver n))) × ((unless_refused a M (accept N W M (deliver n))).seats ≡ M.seats)
      by zero e = (reached-accept N W g (deliver n) tt e, same)
      by (suc a) e = (g, refl)

  reached-deliveries : {M : Meaning} → Reached comp N W M → (ns : List Name)
      → Reached comp N W (left_by (call N W) M ns) × ((left_by (call N W) M ns).seats ≡ M.seats)
  unfolding left_by
  reached-deliveries g [] = (g, refl)
  reached-deliveries {M = M} g (n ∷ ns) =
      let (h, e) = reached-delivery g n in
      let (k, f) = reached-deliveries {M = (call N W M (deliver n)).after} h ns in
      (k, f ∙ e)

-- deliveries on the bytes of sound meanings
left-bytes : (M : Meaning) → Sound seats width M → (ns : List Name) → left_by called (bytes_of M) ns ≡ bytes_of (left_by (call seats width) M ns)
unfolding left_by
left-bytes M h [] = refl
left-bytes M h (n ∷ ns) =
    ap (λ (o : Outcome (List ℕ)). left_by called o.after ns) (call-bytes M h (deliver n))
    ∙ left-bytes (call seats width M (deliver n)).after (call-sound seats width M h (deliver n) tt) ns

-- the bytes are those of a meaning that calls reach, with these components
pub record Made (comp : ℕ → ℕ) (M : Meaning) (b : List ℕ) : Type 0 where
  pub reached : Reached comp seats width M
  pub bytes : b ≡ bytes_of M

-- after every list: the list with its bundles spread, the meaning that it reaches and the components of its roster
module _ (l : List ℕ) (o : open_refusal l ≡ 0) (is : List (Item Call)) (t : AllTyped is) where
  abbrev cs : List Call
  cs = spread called bundle_in (λ c. c) (open_bytes l) is

  fits : AllInRange seats width cs
  fits = all_typed (open_bytes l) is t

  pub made : Made (roster_of seats width (log_of (meaning_run seats width cs).history)).component (meaning_run seats width cs).now (list_run l is).now
  unfolding list_run
  made = record { reached = (track-run seats width cs fits).reached; bytes = (run-same l (open-sized l o) cs fits).now }

module _ {comp : ℕ → ℕ} {M : Meaning} {b : List ℕ} (m : Made comp M b) where
  made-outcome : (c : Call) → called b c
      ≡ record { refused = (call seats width M c).refused; after = bytes_of (call seats width M c).after }
  made-outcome c = ap (λ (l : List ℕ). called l c) m.bytes ∙ call-bytes M m.reached.sound c

  -- a call that is accepted on the bytes is accepted on the meaning
  pub made_row : (c : Call) → (called b c).refused ≡ 0 → refusal seats width M.seats M.pending c ≡ 0
  unfolding call
  made_row c e = sym (ap (λ (a : Outcome (List ℕ)). a.refused) (made-outcome c)) ∙ e

  pub made-call : (c : Call) → InRange seats width c → (called b c).refused ≡ 0
      → Made (components_after seats width M.seats comp c) (accept seats width M c) (called b c).after
  unfolding call unless_refused
  made-call c q e = let row = made_row c e in
      record { reached = reached-accept seats width m.reached c q row; bytes = ap (λ (a : Outcome (List ℕ)). a.after) (made-outcome c) ∙ rw row }

  pub made-deliveries : (ns : List Name) → Made comp (left_by (call seats width) M ns) (left_by called b ns)
  made-deliveries ns = record {
    reached = (reached-deliveries m.reached ns).0;
    bytes = ap (λ (l : List ℕ). left_by called l ns) m.bytes ∙ left-bytes M m.reached.sound ns;
  }

  pub delivered-seats : (ns : List Name) → (left_by (call seats width) M ns).seats ≡ M.seats
  delivered-seats ns = (reached-deliveries m.reached ns).1

  -- nothing pending, as it reads
  pub made_quiet : (read_counts b).pending ≡ 0 → Quiet (state_of M)
  made_quiet z =
      let h = m.reached.sound in
      let counted = ap (λ (a : CountAnswer). a.pending) (ap read_counts m.bytes ∙ read-counts M h) in
      nothing_left h ((count_none M h).0 (sym counted ∙ z))

-- labels tell the members apart as the links do
abbrev pub SameAs : (ℕ → ℕ) → Meaning → Type 0
SameAs c X = (x y : ℕ) → T (member X.seats x) → T (member X.seats y)
    → (c x ≡ c y) ↔ (component_of width (member X.seats) X.link seats x ≡ component_of width (member X.seats) X.link seats y)

-- with nothing pending those of the roster do
pub quiet-components : {c : ℕ → ℕ} {X : Meaning} → Reached c seats width X → Quiet (state_of X) → SameAs c X
quiet-components {c} {X} r q x y m n =
    let laws = members-laws c r.sound in
    components-agree seats width (members c X.seats) X.link laws.seat (graph-labels laws (reached-graph r q)) x y m n

-- the components by the bytes of a sound meaning
module _ (X : Meaning) (s : Sound seats width X) where
  pub components-bytes : components_in (bytes_of X) ≡ component_of width (member X.seats) X.link seats
  unfolding components_in
  components-bytes = rw (seats-bytes X s, meaning-bytes s)

  pub joined_bytes : (x y : ℕ) → T (member X.seats x) → T (member X.seats y)
      → (component_of width (member X.seats) X.link seats x ≡ component_of width (member X.seats) X.link seats y)
      ↔ Joined width (members_in (bytes_of X)) (meaning (bytes_of X)).link x y
  joined_bytes x y m n =
      let (to, from) = components-joined (bytes_of X) (length-bytes_of X) (bytes-bytes X) (bytes-sound s) x y (rw (seats-bytes X s) m)
      (rw (seats-bytes X s) n) in
      (λ q. to (same x ∙ q ∙ sym (same y)), λ j. sym (same x) ∙ from j ∙ same y)
    where
      same : (z : ℕ) → components_in (bytes_of X) z ≡ component_of width (member X.seats) X.link seats z
      same z = ap (λ (c : ℕ → ℕ). c z) components-bytes
