-- What follows from demand 3, and from it alone, of any standing: with nothing pending the links are the graph's, so the check says yes; in
-- phase open the record is settled, and a search from any lot is not refused and names the right staying holder. While messages are pending or the
-- phase is clearing it is refused with 13. Assumes only that its bytes are bytes.
use Prim.Native.Nat.{ℕ, ◌≤◌}
use mathlib.Core.Path.{◌≡◌, refl, sym, ap, ◌∙◌, subst}
use mathlib.Core.Logic.{◌↔◌, ◌≢◌, inl, inr, ⊎_elim}
use mathlib.Core.Option.{Option}
use mathlib.Core.Bool.{Bool, true, false}
use mathlib.Core.List.{List}
use native.Mathlib.Omega.{arith}
use lib.Dec.{T, eqb}
use borrow.Author.Tests.{eqb-true, eq-eqb}
use Rattle.base.proofs.Cases.{true-or-false, same_test}
use Rattle.base.proofs.Tests.{true-T, and-fst}
use Rattle.memory.specs.Bytes.{AreBytes}
use Rattle.graph.specs.Side.{Side, side_number}
use Rattle.graph.specs.Vector.{width}
use Rattle.graph.specs.Graph.{Laws, graph, IsGraph}
use Rattle.graph.proofs.Components.{graph-labels}
use Rattle.graph.proofs.Labels.{components-agree}
use Rattle.protocol.specs.Numbering.{some_pending}
use Rattle.protocol.specs.Refusals.{unsettled}
use Rattle.protocol.specs.Rules.{is_staying}
use Rattle.protocol.specs.State.{Phase, open_phase, clearing, is_clearing, Seats, seated, stays, member, members}
use Rattle.protocol.specs.Run.{Standing, members_of, NothingPending}
use Rattle.protocol.proofs.SoundFacts.{stays-seated, seated-below, seated-taken}
use Rattle.protocol.proofs.Reached.{member-open, member-seated, members-laws}
use Rattle.record.specs.Layout.{seats}
use Rattle.record.specs.Meaning.{seats_in, meaning, link_of, link_byte, phase_of, phase_byte}
use Rattle.record.specs.Reading.{LinkAnswer, read_link, CountAnswer, read_counts}
use Rattle.record.proofs.Reading.{pending_count, pending_count-zero, link-read, counts-read}
use Rattle.record.proofs.Round.{link_seat}
use Rattle.record.proofs.Values.{NamesSeat, link_of-link_byte, phase_of-phase_byte}
use Rattle.search.specs.Right.{RightHolder}
use Rattle.search.proofs.Agree.{member-there, agree-laws, graph-agrees, graph-member, holder-agrees}
use Rattle.find.specs.Find.{FindAnswer, sought_from, find_in}
use Rattle.find.proofs.Scans.{settled-accepted, unsettled-refused, find-refused, accepted-holder}
use Rattle.check_links.specs.Check.{components_in, CheckAnswer, check_in}
use Rattle.check_links.specs.Settled.{settled}
use Rattle.check_links.proofs.Facts.{check-says, yes-labels}
use Rattle.check_links.proofs.Settled.{unsettled-exactly, is-settled}
use Rattle.runs.specs.Tied.{TiedIn}
use Rattle.runs.specs.Run.{meant, roster, sought_in, Sits, Demand3}
use Rattle.runs.proofs.SameLots.{passed, same-phase, fine, same-seat, same-seated, agree}

-- a link is known by its byte
same-link : (o p : Option ℕ) → NamesSeat o → NamesSeat p → link_byte o ≡ link_byte p → o ≡ p
same-link o p h g e = sym (link_of-link_byte o h) ∙ ap link_of e ∙ link_of-link_byte p g

-- a phase that reads 0 is open
zero-open : (p : Phase) → phase_byte p ≡ 0 → p ≡ open_phase
unfolding phase_of
zero-open p e = sym (phase_of-phase_byte p) ∙ ap phase_of e

module _ {bound : List ℕ → ℕ} {s : Standing (List ℕ)} (D : Demand3 bound s) (b : AreBytes s.now) where
  -- the bytes and the roster's seats
  abbrev l : List ℕ
  l = s.now

  abbrev R : Seats
  R = (roster s.history).seats

  -- the component of each lot, by the roster
  abbrev C : ℕ → ℕ
  C = (roster s.history).component

  laws : Laws seats (members C (seats_in l))
  unfolding meaning
  laws = members-laws C (fine D b)

  pub roster-laws : Laws seats (members_of (roster s.history))
  roster-laws = agree-laws (agree D b) laws

  -- what a member's link reads as
  pub link-reads : (x k : ℕ) (d : Side) → T (member (seats_in l) x) → k ≤ width
      → read_link l x k (side_number d) ≡ record { refused = 0; seat = link_byte ((meaning l).link x k d) }
  unfolding meaning
  link-reads x k d m w =
      let t = member-seated (seats_in l) x m in
      link-read l (passed D).sized (passed D).fine x (seated-below (fine D b) x t) t k d (omega arith)

  lot-here : (x : ℕ) → T (seated R x) → T (seated (seats_in l) x)
  lot-here x m = subst (λ (t : Bool). T t) (sym (same-seated D b x)) m

  -- the count by the bytes
  counted : (read_counts l).pending ≡ pending_count (meaning l)
  counted = ap (λ (a : CountAnswer). a.pending) (counts-read l (passed D).sized (passed D).fine)

  none-counted : some_pending seats width (meaning l).pending ≡ false → (read_counts l).pending ≡ 0
  none-counted q = counted ∙ (pending_count-zero (meaning l)).1 q

  module _ (q : NothingPending seats width (meant s.history)) where
    -- a member's link is the one of the roster's graph
    pub link-is : (x k : ℕ) (d : Side) → T (member (seats_in l) x) → k ≤ width
        → (meaning l).link x k d ≡ graph seats width (members_of (roster s.history)) x k d
    link-is x k d m w =
        let e = sym (link-reads x k d m w) ∙ D.links q x k d (member-there (agree D b) x m) (omega arith) in
        same-link ((meaning l).link x k d) (graph seats width (members_of (roster s.history)) x k d)
        (λ y f. link_seat (fine D b) x k y d f)
        (λ y f. roster-laws.seat y (graph-member width roster-laws x k y d f))
        (ap (λ (a : LinkAnswer). a.seat) e)

    pub links-graph : IsGraph seats width (members C (seats_in l)) (meaning l).link
    links-graph = record { link = λ x k d m w. link-is x k d m w ∙ sym (graph-agrees width laws (agree D b) x k d m) }

    -- the check says yes
    pub check-yes : check_in l ≡ record { refused = 0; yes = true }
    check-yes = check-says l (passed D).sized b (passed D).fine
        ∙ ap (λ (y : Bool). record { refused = 0; yes = y })
        (sym (ap (λ (a : CheckAnswer). a.yes) (check-says l (passed D).sized b (passed D).fine))
        ∙ yes-labels l (passed D).sized b (passed D).fine C links-graph)

    -- two members are in one component of the roster exactly if they are in one by the links
    pub same-components : (x y : ℕ) → T (member (seats_in l) x) → T (member (seats_in l) y) → (C x ≡ C y) ↔ (components_in l x ≡ components_in l y)
    unfolding components_in
    same-components x y m n =
        components-agree seats width (members C (seats_in l)) (meaning l).link laws.seat (graph-labels laws links-graph) x y m n

    -- and links alone join then what links and pending MEETs together join
    pub tied-components : (x y : ℕ) → T (member (seats_in l) x) → T (member (seats_in l) y) → TiedIn l x y ↔ (components_in l x ≡ components_in l y)
    tied-components x y m n =
        let (to, from) = D.components x y (sits x m) (sits y n) in
        let (on, back) = same-components x y m n in
        (λ i. on (from i), λ e. to (back e))
      where
        sits : (z : ℕ) → T (member (seats_in l) z) → Sits (roster s.history) z
        sits z t = subst (λ (b : Bool). T b) (same-seated D b z) (member-seated (seats_in l) z t)

    -- nothing is pending by the bytes
    pub quiet : some_pending seats width (meaning l).pending ≡ false
    quiet = (pending_count-zero (meaning l)).0 (sym counted ∙ D.none_left.1 q)

    module _ (o : (roster s.history).seats.phase ≡ open_phase) where
      pub is-settled-now : settled l ≡ true
      is-settled-now = is-settled l (same-phase D ∙ o) quiet (ap (λ (a : CheckAnswer). a.yes) check-yes)

      -- a search from any lot of the roster: the staying lots of its component are those of the bytes
      sought-same : (x z : ℕ) → T (seated R x) → sought_from l x z ≡ sought_in (roster s.history) x z
      sought-same x z m = by (stays (seats_in l) z) refl
        where
          is_member : (y : ℕ) → T (seated (seats_in l) y) → T (member (seats_in l) y)
          is_member y t = rw (member-open (seats_in l) y (same-phase D ∙ o)) t

          stay : stays (seats_in l) z ≡ stays R z
          stay = ap is_staying (same-seat D b z).state

          by : (t : Bool) → stays (seats_in l) z ≡ t → sought_from l x z ≡ sought_in (roster s.history) x z
          by true e =
              let p = is_member x (lot-here x m) in
              let q = is_member z (stays-seated (seats_in l) z (true-T e)) in
              let (to, from) = same-components x z p q in
              rw (← stay, e) (same_test (eqb (components_in l x) (components_in l z)) (eqb (C x) (C z))
              (λ f. eq-eqb (C x) (C z) (from (eqb-true (components_in l x) (components_in l z) f)))
              (λ f. eq-eqb (components_in l x) (components_in l z) (to (eqb-true (C x) (C z) f))))
          by false e = rw (← stay, e)

      pub right-holder : (x n : ℕ) → T (seated R x)
          → ((find_in l x n).refused ≡ 0) × RightHolder (sought_in (roster s.history) x) R.number n (find_in l x n).holder
      right-holder x n m =
          let a = find-refused l x n ∙ settled-accepted l b is-settled-now x (lot-here x m) in (
            a,
            holder-agrees (λ z. sought-same x z m) (λ z t. (same-seat D b z).number (seated-taken (seats_in l) z
                (stays-seated (seats_in l) z (and-fst (stays (seats_in l) z) _ t)))) (accepted-holder l b x n a),
          )

  -- the same by the counts that a reader sees
  pub count-check : (read_counts l).pending ≡ 0 → check_in l ≡ record { refused = 0; yes = true }
  count-check e = check-yes (D.none_left.0 e)

  pub count-settled : (read_counts l).pending ≡ 0 → (read_counts l).phase ≡ 0 → settled l ≡ true
  count-settled e f = is-settled-now (D.none_left.0 e) (zero-open _ (sym D.phase ∙ f))

  -- a search from a lot of the roster waits
  module _ (x n : ℕ) (m : T (seated R x)) where
    waiting : settled l ≡ false → (find_in l x n).refused ≡ unsettled
    waiting u = ap (λ (f : FindAnswer). f.refused) (unsettled-refused l b (passed D) u x n (lot-here x m))

    pub waits-pending : (read_counts l).pending ≢ 0 → (find_in l x n).refused ≡ unsettled
    waits-pending ne = ⊎_elim (λ p. waiting ((unsettled-exactly l).1 (inl p))) (λ q. absurd (ne (none-counted q)))
        (true-or-false (some_pending seats width (meaning l).pending))

    pub waits-clearing : R.phase ≡ clearing → (find_in l x n).refused ≡ unsettled
    waits-clearing c = waiting ((unsettled-exactly l).1 (inr (inl (ap is_clearing (same-phase D ∙ c)))))
