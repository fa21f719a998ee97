-- A crash, drained by deliveries alone: each component that it left is the skip graph of its own lots, and the components by the links are those. On
-- what every list reaches; then on the bytes. Assumes nothing.
use Prim.Native.Nat.{ℕ}
use mathlib.Core.Path.{◌≡◌, refl, sym, ◌∙◌, subst, subst₂}
use mathlib.Core.Logic.{◌↔◌}
use mathlib.Core.Bool.{Bool, true, false, cond}
use mathlib.Core.List.{List}
use lib.Dec.{T, eqb}
use borrow.Author.Tests.{eqb-true}
use Rattle.graph.specs.Vector.{width}
use Rattle.graph.specs.Graph.{IsGraph}
use Rattle.graph.specs.Components.{component_of}
use Rattle.protocol.specs.Message.{Name}
use Rattle.protocol.specs.State.{Seats, Meaning, member, members}
use Rattle.protocol.specs.pages.Crash.{cut}
use Rattle.protocol.specs.Calls.{Call, crash, refusal, seats_after, components_after, links_after, accept}
use Rattle.protocol.specs.Bundle.{Item, left_by}
use Rattle.protocol.specs.Sound.{Sound}
use Rattle.protocol.proofs.Accepted.{crash-rows}
use Rattle.protocol.proofs.World.{Quiet}
use Rattle.protocol.proofs.Delivery.{state_of}
use Rattle.protocol.proofs.KeepSound.{nothing_left}
use Rattle.protocol.proofs.Reached.{Reached, members-laws, reached-graph}
use Rattle.protocol.proofs.ReachedCrash.{crash-nobody, cut_left}
use Rattle.record.specs.Layout.{seats}
use Rattle.record.specs.Meaning.{bytes_of}
use Rattle.record.specs.Reading.{open_refusal, read_counts}
use Rattle.record.specs.Call.{called}
use Rattle.record.proofs.Round.{meaning-bytes}
use Rattle.search.proofs.Agree.{Agree, graph-agrees}
use Rattle.runs.specs.Typed.{IsU64, AllTyped}
use Rattle.runs.specs.Run.{list_run}
use Rattle.runs.specs.Drained.{Drained, CrashDrains}
use Rattle.runs.proofs.Made.{made, made_row, made-call, made-deliveries, delivered-seats, made_quiet, SameAs, quiet-components}
use Rattle.runs.proofs.Made.{components-bytes, joined_bytes}
use Rattle.runs.proofs.Right.{seats-bytes}

-- right after a crash the roster's components are those of the links
module _ {comp : ℕ → ℕ} {M : Meaning} (g : Reached comp seats width M) (set : ℕ)
    (e : refusal seats width M.seats M.pending (crash set) ≡ 0) where
  quiet : Quiet (state_of M)
  quiet = nothing_left g.sound (crash-rows seats width M.seats M.pending set e).quiet

  crash-components : SameAs (components_after seats width M.seats comp (crash set)) (accept seats width M (crash set))
  unfolding components_after accept seats_after links_after
  crash-components = by (eqb set 0) refl
    where
      by : (b : Bool) → eqb set 0 ≡ b → SameAs (cond b comp (cut seats width set M.seats comp)) (accept seats width M (crash set))
      by true z =
          subst (λ (n : ℕ). SameAs comp (accept seats width M (crash n))) (sym (eqb-true set 0 z))
          (subst (SameAs comp) (sym (crash-nobody seats width M)) (quiet-components g quiet))
      by false z = λ x y m n. (λ q. sym (same x) ∙ q ∙ same y, λ q. same x ∙ q ∙ sym (same y))
        where
          same : (x : ℕ) → cut seats width set M.seats comp x
              ≡ component_of width (member (accept seats width M (crash set)).seats) (accept seats width M (crash set)).link seats x
          same = cut_left g quiet (crash-rows seats width M.seats M.pending set e).opens set

-- what deliveries make of K, where labels tell the members of K apart as its links do
module _ {comp : ℕ → ℕ} {K J : Meaning} (k : Sound seats width K) (j : Reached comp seats width J) (lots : J.seats ≡ K.seats)
    (apart : SameAs comp K) (q : Quiet (state_of J)) where
  -- the components of K's links
  abbrev left : ℕ → ℕ
  left = component_of width (member K.seats) K.link seats

  left-member : (x : ℕ) → T (member J.seats x) → T (member K.seats x)
  left-member x m = subst (λ (r : Seats). T (member r x)) lots m

  -- the components by the links are those
  drained-components : (x y : ℕ) → T (member J.seats x) → T (member J.seats y)
      → (component_of width (member J.seats) J.link seats x ≡ component_of width (member J.seats) J.link seats y) ↔ (left x ≡ left y)
  drained-components x y m n =
      let (to, from) = quiet-components j q x y m n in
      let (on, back) = apart x y (left-member x m) (left-member y n) in
      (λ f. on (from f), λ f. to (back f))

  -- and each is the skip graph of its own lots
  drained-graph : IsGraph seats width (members left J.seats) J.link
  drained-graph =
      record { link = λ x k d m w. (reached-graph j q).link x k d m w ∙ sym (graph-agrees width (members-laws left j.sound) agree x k d m) }
    where
      agree : Agree (members left J.seats) (members comp J.seats)
      agree = record {
        member = λ z. refl;
        number = λ z m. refl;
        vector = λ z m. refl;
        component = λ y z m n. let (on, back) = apart y z (left-member y m) (left-member z n) in (back, on);
      }

  drained-bytes : Drained (bytes_of K) (bytes_of J)
  drained-bytes = record {
    lots = seats-bytes J i ∙ lots ∙ sym (seats-bytes K k);
    graph = rw (components-bytes K k, seats-bytes J i, meaning-bytes i) drained-graph;
    components = λ x y m n.
        let p : T (member J.seats x) = rw (seats-bytes J i) at m in
        let q : T (member J.seats y) = rw (seats-bytes J i) at n in
        let (to, from) = drained-components x y p q in
        let (on, back) = joined_bytes J i x y p q in
        let (up, down) = joined_bytes K k x y (left-member x p) (left-member y q) in
        (λ f. up (to (back f)), λ f. on (from (down f)));
  }
    where
      i : Sound seats width J
      i = j.sound

-- after every list
module _ (l : List ℕ) (o : open_refusal l ≡ 0) (is : List (Item Call)) (t : AllTyped is) (set : ℕ) (u : IsU64 set)
    (e : (called (list_run l is).now (crash set)).refused ≡ 0) (ns : List Name) where
  drains : (read_counts (left_by called (called (list_run l is).now (crash set)).after ns)).pending ≡ 0
      → Drained (called (list_run l is).now (crash set)).after (left_by called (called (list_run l is).now (crash set)).after ns)
  drains z =
      let m = made l o is t in
      let k = made-call m (crash set) u e in
      let j = made-deliveries k ns in
      let apart = crash-components m.reached set (made_row m (crash set) e) in
      subst₂ Drained (sym k.bytes) (sym j.bytes)
      (drained-bytes k.reached.sound j.reached (delivered-seats k ns) apart (made_quiet j z))

-- THE COROLLARY of #106
pub crash-drains : CrashDrains
crash-drains = record { after = λ l o is t set u e ns. drains l o is t set u e ns }
