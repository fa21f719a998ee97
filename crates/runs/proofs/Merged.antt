-- A merge, once nothing is pending: its two components are one, each component is the skip graph of its own lots, and inside one component every byte
-- ends as it would have without the call. Assumes nothing.
use Prim.Native.Nat.{ℕ, ◌≤◌}
use mathlib.Core.Path.{◌≡◌, refl, sym, ap, ◌∙◌, subst, fun_ext}
use mathlib.Core.Logic.{◌↔◌}
use mathlib.Core.Option.{Option, none, some}
use mathlib.Core.Bool.{Bool, true, false}
use mathlib.Core.List.{List, ◌∷◌, ◌++◌}
use native.Mathlib.Decide.{dec_le}
use lib.Dec.{T}
use Rattle.base.proofs.Tests.{true-T, not-T-false}
use Rattle.graph.specs.Side.{Side}
use Rattle.graph.specs.Vector.{width}
use Rattle.graph.specs.Graph.{graph, IsGraph}
use Rattle.graph.specs.Constraints.{Joined}
use Rattle.protocol.specs.Message.{Name}
use Rattle.protocol.specs.State.{open_phase, Seats, Meaning, seated, member, members}
use Rattle.protocol.specs.pages.Merge.{united}
use Rattle.protocol.specs.Calls.{Call, merge, seats_after, components_after, accept, call}
use Rattle.protocol.specs.Bundle.{Item, one, left_by, spread}
use Rattle.protocol.specs.Tied.{Uniting}
use Rattle.protocol.specs.Run.{Standing, step, steps, steps_from}
use Rattle.protocol.proofs.Bundle.{run-append}
use Rattle.protocol.proofs.Accepted.{Merges, merge-rows}
use Rattle.protocol.proofs.World.{Quiet}
use Rattle.protocol.proofs.Delivery.{state_of}
use Rattle.protocol.proofs.SoundFacts.{link-linked, two-level, empty-unlinked}
use Rattle.protocol.proofs.Reached.{Reached, member-open, member-seated, reached-graph}
use Rattle.protocol.proofs.ReachedMerge.{uniting-over, united-one, united-exactly}
use Rattle.protocol.proofs.Tied.{reached-tied}
use Rattle.record.specs.Layout.{seats}
use Rattle.record.specs.Meaning.{seats_in, meaning, bytes_of}
use Rattle.record.specs.Reading.{read_counts}
use Rattle.record.specs.Call.{called}
use Rattle.record.specs.Bundle.{bundle_in}
use Rattle.record.proofs.Places.{length-bytes_of}
use Rattle.record.proofs.Round.{bytes-bytes, meaning-bytes}
use Rattle.record.proofs.Sound.{bytes-sound}
use Rattle.check_links.specs.Check.{members_in}
use Rattle.check_links.proofs.Facts.{yes-graph, yes-labels}
use Rattle.runs.specs.Tied.{TiedIn}
use Rattle.runs.specs.Run.{bytes_run, list_run}
use Rattle.runs.specs.Merged.{Merged, MergedAmong, EveryMerge}
use Rattle.runs.proofs.Tied.{tied-bytes}
use Rattle.runs.proofs.Made.{Made, made, made_row, made-call, made-deliveries, delivered-seats, made_quiet, quiet-components, joined_bytes}
use Rattle.runs.proofs.Right.{seats-bytes}
use Rattle.runs.proofs.Together.{Later, later-now, later-items}

-- in phase open what is reached with nothing pending is known by its seats and components
module _ {N W : ℕ} {c : ℕ → ℕ} {M K : Meaning} (g : Reached c N W M) (h : Reached c N W K) (opens : M.seats.phase ≡ open_phase)
    (lots : K.seats ≡ M.seats) (q : Quiet (state_of M)) (p : Quiet (state_of K)) where
  -- no link above level W, or of a seat without a lot
  no-link : {X : Meaning} → Reached c N W X → (x k : ℕ) (d : Side) → (k ≤ W → seated X.seats x ≡ false) → X.link x k d ≡ none
  no-link {X} r x k d off = by (X.link x k d) refl
    where
      by : (o : Option ℕ) → X.link x k d ≡ o → o ≡ none
      by none e = refl
      by (some y) e = let l = two-level (link-linked r.sound e).0 in sym e ∙ empty-unlinked r.sound x k d (off l)

  same-link : (x k : ℕ) (d : Side) → K.link x k d ≡ M.link x k d
  same-link x k d = by (dec_le k W) (seated M.seats x) refl
    where
      here : seated K.seats x ≡ seated M.seats x
      here = ap (λ (r : Seats). seated r x) lots

      by : Dec (k ≤ W) → (b : Bool) → seated M.seats x ≡ b → K.link x k d ≡ M.link x k d
      by (yes l) true e =
          let m : T (member M.seats x) = rw (member-open M.seats x opens) (true-T e) in
          let f = (reached-graph h p).link x k d (subst (λ (r : Seats). T (member r x)) (sym lots) m) l in
          f ∙ ap (λ (r : Seats). graph N W (members c r) x k d) lots ∙ sym ((reached-graph g q).link x k d m l)
      by (yes l) false e = no-link h x k d (λ w. here ∙ e) ∙ sym (no-link g x k d (λ w. e))
      by (no n) b e = no-link h x k d (λ w. absurd (n w)) ∙ sym (no-link g x k d (λ w. absurd (n w)))

  same-pending : K.pending ≡ M.pending
  same-pending = fun_ext (λ m. not-T-false (λ t. p m t) ∙ sym (not-T-false (λ t. q m t)))

  same-meaning : K ≡ M
  same-meaning = λ i. record {
    seats = lots i;
    link = fun_ext (λ x. fun_ext (λ k. fun_ext (λ d. same-link x k d))) i;
    pending = same-pending i;
  }

-- bytes made by calls
module _ {comp : ℕ → ℕ} {X : Meaning} {b : List ℕ} (m : Made comp X b) where
  made-seats : seats_in b ≡ X.seats
  made-seats = ap seats_in m.bytes ∙ seats-bytes X m.reached.sound

  -- components are those of links and pending MEETs
  made-tied : (x y : ℕ) → T (seated X.seats x) → T (seated X.seats y) → (comp x ≡ comp y) ↔ TiedIn b x y
  made-tied x y t u =
      let (to, from) = reached-tied m.reached x y t u in
      let (reads, back) = tied-bytes X m.reached.sound x y in (
        λ e. subst (λ (l : List ℕ). TiedIn l x y) (sym m.bytes) (reads (to e)),
        λ i. from (back (subst (λ (l : List ℕ). TiedIn l x y) m.bytes i)),
      )

  module _ (q : Quiet (state_of X)) where
    -- with nothing pending those of the links
    made-joined : (x y : ℕ) → T (member X.seats x) → T (member X.seats y)
        → (comp x ≡ comp y) ↔ Joined width (members_in b) (meaning b).link x y
    made-joined x y t u =
        let (to, from) = quiet-components m.reached q x y t u in
        let (on, back) = joined_bytes X m.reached.sound x y t u in
        subst (λ (l : List ℕ). (comp x ≡ comp y) ↔ Joined width (members_in l) (meaning l).link x y) (sym m.bytes)
        (λ e. on (to e), λ j. from (back j))

    -- and each is the skip graph of its own lots
    made-graph : IsGraph seats width (members_in b) (meaning b).link
    made-graph = subst (λ (l : List ℕ). IsGraph seats width (members_in l) (meaning l).link) (sym m.bytes)
        (let l = bytes_of X in
        let s = m.reached.sound in
        let g : IsGraph seats width (members comp (seats_in l)) (meaning l).link = rw (seats-bytes X s, meaning-bytes s) (reached-graph m.reached q) in
        let e = length-bytes_of X in
        (yes-graph l e (bytes-bytes X) (bytes-sound s)).0 (yes-labels l e (bytes-bytes X) (bytes-sound s) comp g))

-- a merge that is accepted on bytes made by calls
module _ {comp : ℕ → ℕ} {M : Meaning} {before : List ℕ} (m : Made comp M before) (a b : ℕ) (e : (called before (merge a b)).refused ≡ 0) where
  ok : Merges seats width M.seats M.pending a b
  ok = merge-rows seats width M.seats M.pending a b (made_row m (merge a b) e)

  abbrev sent : List ℕ
  sent = (called before (merge a b)).after

  -- what it leaves, with the two components united
  abbrev K : Meaning
  K = accept seats width M (merge a b)

  k : Made (united a b comp) K sent
  unfolding components_after
  k = made-call m (merge a b) tt e

  sent-seats : K.seats ≡ M.seats
  unfolding accept seats_after
  sent-seats = refl

  -- these are the components of links and MEETs before, but that the two are one
  uniting : (x y : ℕ) → T (seated M.seats x) → T (seated M.seats y)
      → (united a b comp x ≡ united a b comp y) ↔ Uniting a b (TiedIn before) x y
  uniting x y t u =
      let (to, from) = united-exactly a b comp x y in
      let In : ℕ → Type 0 = λ z. T (seated M.seats z) in
      let Same : ℕ → ℕ → Type 0 = λ v w. comp v ≡ comp w in (
        λ f. uniting-over In Same (TiedIn before) (λ v w i j. (made-tied m v w i j).0) ok.first-seated ok.second-seated t u (to f),
        λ f. from (uniting-over In (TiedIn before) Same (λ v w i j. (made-tied m v w i j).1) ok.first-seated ok.second-seated t u f),
      )

  module _ (ns : List Name) (z : (read_counts (left_by called sent ns)).pending ≡ 0) where
    abbrev J : Meaning
    J = left_by (call seats width) (accept seats width M (merge a b)) ns

    j : Made (united a b comp) J (left_by called sent ns)
    j = made-deliveries k ns

    lots : J.seats ≡ M.seats
    lots = delivered-seats k ns ∙ sent-seats

    drained : Merged before (left_by called sent ns) a b
    drained = record {
      lots = made-seats j ∙ lots ∙ sym (made-seats m);
      graph = made-graph j (made_quiet j z);
      components = λ x y s t.
          let p : T (member J.seats x) = rw (made-seats j) at s in
          let q : T (member J.seats y) = rw (made-seats j) at t in
          let (to, from) = made-joined j (made_quiet j z) x y p q in
          let (on, back) = uniting x y (sits x p) (sits y q) in
          (λ f. on (from f), λ f. to (back f));
    }
      where
        sits : (x : ℕ) → T (member J.seats x) → T (seated M.seats x)
        sits x p = subst (λ (r : Seats). T (seated r x)) lots (member-seated J.seats x p)

    within : TiedIn before a b → (ks : List Name) → (read_counts (left_by called before ks)).pending ≡ 0
        → left_by called sent ns ≡ left_by called before ks
    within tied ks y =
        let i = made-deliveries m ks in
        let r = delivered-seats m ks in
        let opens = ap (λ (s : Seats). s.phase) r ∙ ok.opens in
        j.bytes ∙ ap bytes_of (same-meaning i.reached one opens (lots ∙ sym r) (made_quiet i y) (made_quiet j z))
        ∙ sym i.bytes
      where
        one : Reached comp seats width J
        one = subst (λ (c : ℕ → ℕ). Reached c seats width J)
            (fun_ext (united-one a b comp ((made-tied m a b ok.first-seated ok.second-seated).1 tied))) j.reached

  -- with other calls between
  among : (after : List ℕ) → Later (united a b comp) K after → (read_counts after).pending ≡ 0 → MergedAmong before after a b
  among after h z = record {
    graph = made-graph h.made q;
    joined = λ x y s t u.
        let p : T (seated M.seats x) = rw (made-seats m) at s in
        let r : T (seated M.seats y) = rw (made-seats m) at t in
        (made-joined h.made q x y (here x p) (here y r)).0 (h.same x y (sent-in x p) (sent-in y r) ((uniting x y p r).1 u));
  }
    where
      q : Quiet (state_of h.meaning)
      q = made_quiet h.made z

      sent-in : (x : ℕ) → T (seated M.seats x) → T (seated K.seats x)
      sent-in x t = subst (λ (r : Seats). T (seated r x)) (sym sent-seats) t

      opens : h.meaning.seats.phase ≡ open_phase
      opens = h.phase ∙ ap (λ (r : Seats). r.phase) sent-seats ∙ ok.opens

      here : (x : ℕ) → T (seated M.seats x) → T (member h.meaning.seats x)
      here x t = rw (member-open h.meaning.seats x opens) (h.stay x (sent-in x t))

-- a list, and then a call and another list
run_on : (l : List ℕ) (is : List (Item Call)) (c : Call) (js : List (Item Call)) → list_run l (is ++ one c ∷ js)
    ≡ steps called (step called (list_run l is) c) (spread called bundle_in (λ c. c) (called (list_run l is).now c).after js)
unfolding list_run bytes_run steps_from spread steps step
run_on l is c js = run-append called bundle_in (λ c. c) _ is (one c ∷ js)

-- THE COROLLARY of #107
pub every-merge : EveryMerge
unfolding step
every-merge = record {
  after = λ l o is t a b ta tb e. let m = made l o is t in record {
    drained = λ ns z. drained m a b e ns z;
    within = λ tied ns ks z y. within m a b e ns z tied ks y;
    among = λ js tj kj z.
        let s = step called (list_run l is) (merge a b) in
        let now = ap (λ (u : Standing (List ℕ)). u.now) (run_on l is (merge a b) js) in
        subst (λ (n : List ℕ). MergedAmong (list_run l is).now n a b) (sym now)
        (among m a b e _ (later-items s js (later-now (k m a b e)) tj kj) (sym (ap (λ (n : List ℕ). (read_counts n).pending) now) ∙ z));
  };
}
