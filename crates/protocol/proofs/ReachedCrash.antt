-- A crash keeps what every reached meaning has, with the components of the links of the roster's graph that are left. Nothing is pending before it,
-- so these are the record's own links. Assumes nothing.
use Prim.Native.Nat.{ℕ, zero, suc, ◌≤◌}
use mathlib.Core.Path.{◌≡◌, refl, sym, ◌∙◌, ap, subst, fun_ext}
use mathlib.Core.Logic.{◌⊎◌, inl, inr}
use mathlib.Core.Option.{Option, none, some}
use mathlib.Core.Bool.{Bool, true, false, cond}
use mathlib.Core.List.{List, [], Memᴰ}
use native.Mathlib.Omega.{arith}
use lib.Dec.{T, eqb}
use borrow.Author.Tests.{eqb-true}
use Rattle.base.specs.Bits.{has_bit}
use Rattle.base.proofs.Bits.{has_bit-none}
use Rattle.graph.specs.Side.{Side}
use Rattle.graph.specs.Graph.{Links, graph, IsGraph}
use Rattle.graph.specs.Constraints.{Joined, same, linked, turned, through, Labels}
use Rattle.graph.specs.Components.{component_of, by_links}
use Rattle.graph.proofs.Labels.{component-same, components-labels}
use Rattle.protocol.specs.Message.{Msg, meet}
use Rattle.protocol.specs.Rules.{free}
use Rattle.protocol.specs.State.{Phase, open_phase, Seats, Meaning, is_seated, seated, member, members}
use Rattle.protocol.specs.Calls.{crash, seats_after, sends, takes, links_after, accept}
use Rattle.protocol.specs.Page.{pending_after}
use Rattle.protocol.specs.Freeing.{freeing, unlinked, unlinking}
use Rattle.protocol.specs.pages.Crash.{introductions, cut}
use Rattle.protocol.proofs.Calls.{after_nothing}
use Rattle.protocol.proofs.World.{Quiet}
use Rattle.protocol.proofs.Delivery.{state_of}
use Rattle.protocol.proofs.Conn.{Conn, crefl, clink, cmeet, csym, ctrans}
use Rattle.protocol.proofs.Invariant.{invariant-quiet}
use Rattle.protocol.proofs.Cut.{Cuts, invariant-cut}
use Rattle.protocol.proofs.SoundFacts.{seated-below, two-level}
use Rattle.protocol.proofs.KeepFreeing.{unlinking-some, some-unlinking, left-linked}
use Rattle.protocol.proofs.KeepCrash.{introduction-out, introduction-in}
use Rattle.protocol.proofs.Reached.{Laws, sound-laws, world_of, Sane, in_open, Reached, member-open, reached-graph}
use Rattle.protocol.proofs.ReachedCalls.{after-only-sent, after-sent}

-- the set 0 frees nobody
none-freed : (r : Seats) → freeing (has_bit 0) r.phase r ≡ r
none-freed r = λ i. record {
  phase = r.phase;
  state = fun_ext (λ x. ap (λ (b : Bool). cond b free (r.state x)) (has_bit-none x)) i;
  number = fun_ext (λ x. ap (λ (b : Bool). cond b 0 (r.number x)) (has_bit-none x)) i;
  vector = fun_ext (λ x. ap (λ (b : Bool). cond b 0 (r.vector x)) (has_bit-none x)) i;
}

none-unlinked : (o : Option ℕ) → unlinked (has_bit 0) o ≡ o
unfolding unlinked
none-unlinked none = refl
none-unlinked (some y) = rw (has_bit-none y)

links-left : (L : Links) → unlinking (has_bit 0) L ≡ L
links-left L = fun_ext (λ x. fun_ext (λ k. fun_ext (λ d. rw (has_bit-none x) (none-unlinked (L x k d)))))

-- and changes nothing
pub crash-nobody : (N W : ℕ) (M : Meaning) → accept N W M (crash 0) ≡ M
unfolding accept seats_after links_after sends takes
crash-nobody N W M = λ i. record { seats = none-freed M.seats i; link = links-left M.link i; pending = after_nothing M.pending i }

module _ {comp : ℕ → ℕ} {N W : ℕ} {M : Meaning} (g : Reached comp N W M) (quiet : Quiet (state_of M)) (opens : M.seats.phase ≡ open_phase)
    (set : ℕ) where
  abbrev r : Seats
  r = M.seats

  -- the seats, the record's links and those of the roster's graph that are left
  abbrev r' : Seats
  r' = freeing (has_bit set) M.seats.phase M.seats

  abbrev L' : Links
  L' = unlinking (has_bit set) M.link

  abbrev K' : Links
  K' = unlinking (has_bit set) (graph N W (members comp M.seats))

  abbrev Left : ℕ → Type 0
  Left x = has_bit set x ≡ false

  -- who is left was there, and is no seat of the set
  left-was : (x : ℕ) → T (seated r' x) → T (seated r x) × Left x
  left-was x t = by (has_bit set x) refl t
    where
      by : (b : Bool) → has_bit set x ≡ b → T (is_seated (cond b free (r.state x))) → T (seated r x) × Left x
      by true e t = absurd t
      by false e t = (t, e)

  was-left : (x : ℕ) → T (seated r x) → Left x → T (seated r' x)
  was-left x t e = rw e t

  -- in phase open: members are the seated lots
  seated-member : (x : ℕ) → T (seated r' x) → T (member r' x)
  seated-member x t = rw (member-open r' x opens) t

  member-seated : (x : ℕ) → T (member r' x) → T (seated r' x)
  member-seated x t = rw (member-open r' x opens) at t

  -- nothing is pending: a link of the graph is one of the record
  is-graph : IsGraph N W (members comp r) M.link
  is-graph = reached-graph g quiet

  graph-link : (x k : ℕ) (d : Side) → T (seated r x) → k ≤ W → M.link x k d ≡ graph N W (members comp r) x k d
  graph-link x k d t l = is-graph.link x k d (rw (member-open r x opens) t) l

  -- so the components of the cut are those of the record's links that are left
  left-same : (x k : ℕ) (d : Side) → T (member r' x) → k ≤ W → K' x k d ≡ L' x k d
  left-same x k d m l =
      ap (λ (o : Option ℕ). cond (has_bit set x) none (unlinked (has_bit set) o)) (sym (graph-link x k d (left-was x (member-seated x m)).0 l))

  pub cut_left : (x : ℕ) → cut N W set r comp x ≡ component_of W (member r') L' N x
  unfolding cut
  cut_left x = component-same W (member r') K' L' left-same N x

  labels : Labels W (by_links N W (members comp r') L') L'
  labels = components-labels N W (members comp r') L' (λ x m. seated-below g.sound x (left-was x (member-seated x m)).0)

  -- a link that is left is one between members, at one of the levels
  left-link : (x k y : ℕ) (d : Side) → L' x k d ≡ some y → T (member r' x) × T (member r' y) × (k ≤ W)
  left-link x k y d e =
      let (two, lt) = left-linked g.sound (has_bit set) r.phase x k y d e in
      (seated-member x two.one, seated-member y two.two, two-level two)

  module _ (S : List Msg) (sent : S ≡ introductions N W L') where
    abbrev after : Meaning
    after = record { seats = r'; link = L'; pending = pending_after S none M.pending }

    told : (x k y : ℕ) (d : Side) → L' x (suc k) d ≡ some y → T (pending_after S none M.pending (meet x y 0))
    told x k y d e =
        let (mx, my, l) = left-link x (suc k) y d e in
        let i = introduction-in N W L' x k y d (seated-below g.sound x (left-was x (member-seated x mx)).0) (omega arith) e in
        after-sent S M.pending (meet x y 0) (rw sent i)

    -- joined by links: connected at level 0, by links and by the MEETs just sent
    joined-conn : {x y : ℕ} → Joined W (by_links N W (members comp r') L') L' x y → Conn (state_of after) 0 x y
    joined-conn same = crefl
    joined-conn (linked {k = zero} mx my l e) = clink e
    joined-conn (linked {x = x} {y = y} {k = suc k} {d = d} mx my l e) = cmeet (told x k y d e)
    joined-conn (turned j) = csym (joined-conn j)
    joined-conn (through i j) = ctrans (joined-conn i) (joined-conn j)

    cuts : (l : Laws r) (l' : Laws r') → Cuts (world_of comp W r l) Left (world_of (cut N W set r comp) W r' l') (state_of M) (state_of after)
    cuts l l' = record {
      old = left-was;
      new = was-left;
      number = λ x a. rw a;
      shared = λ x y a b. rw (a, b);
      keeps = λ {x} {k} {y} {d} e a b. some-unlinking (has_bit set) (M.link x k d) x y e a b;
      from = λ {x} {k} {y} {d} e. unlinking-some (has_bit set) (M.link x k d) x y e;
      only = λ {m} t. by (after-only-sent S M.pending m t);
      within = λ {x} {k} {y} {d} e. let (mx, my, w) = left-link x k y d e in
          cut_left x ∙ (labels.label x y mx my).1 (linked mx my w e) ∙ sym (cut_left y);
      joined = λ x y sx sy e. joined-conn ((labels.label x y (seated-member x sx) (seated-member y sy)).0 (sym (cut_left x) ∙ e ∙ cut_left y));
    }
      where
        by : {m : Msg} → T (M.pending m) ⊎ Memᴰ m S
            → (x : ℕ) × (k : ℕ) × (d : Side) × (y : ℕ) × (L' x k d ≡ some y) × ((m ≡ meet x y 0) ⊎ (m ≡ meet y x 0))
        by {m} (inl t) = absurd (quiet m t)
        by (inr t) = let i = introduction-out N W L' (rw sent at t) in (i.lot, suc i.level, i.side, i.other, i.link, i.says)

    sane-cut : Sane comp W M open_phase → Sane (cut N W set r comp) W after open_phase
    sane-cut (in_open i) = in_open (λ l'. let l = sound-laws g.sound in invariant-cut (cuts l l') (λ k. invariant-quiet (i l) quiet k) quiet)

  pub sane-crash : Sane (cond (eqb set 0) comp (cut N W set r comp)) W (accept N W M (crash set)) M.seats.phase
  unfolding accept seats_after links_after sends takes
  sane-crash = by (eqb set 0) refl
    where
      by : (b : Bool) → eqb set 0 ≡ b
          → Sane (cond b comp (cut N W set r comp)) W
          (record { seats = r'; link = L'; pending = pending_after (cond b [] (introductions N W L')) none M.pending }) M.seats.phase
      by true e =
          subst (λ (n : ℕ). Sane comp W (record {
            seats = freeing (has_bit n) M.seats.phase M.seats;
            link = unlinking (has_bit n) M.link;
            pending = pending_after [] none M.pending;
          }) M.seats.phase) (sym (eqb-true set 0 e))
          (subst (λ (K : Meaning). Sane comp W K M.seats.phase) (sym (crash-nobody N W M)) g.sane)
      by false e =
          subst (λ (p : Phase). Sane (cut N W set r comp) W (after (introductions N W L') refl) p) (sym opens)
          (sane-cut (introductions N W L') refl (subst (Sane comp W M) opens g.sane))
