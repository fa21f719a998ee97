-- Demand 3 on the meaning: one theorem about every list of calls, refused ones included, for any seat count and width; and soundness
-- after every list. Assumes nothing but that the arguments fit their types.
use Prim.Native.Nat.{ℕ, zero, suc, ◌≤◌}
use mathlib.Core.Path.{◌≡◌, refl, sym, ◌∙◌, ap, ap₂, subst}
use mathlib.Core.Bool.{Bool, false}
use mathlib.Core.List.{List, [], ◌∷◌, map}
use lib.Dec.{T}
use lib.ListN.{length}
use Rattle.graph.specs.Graph.{IsGraph}
use Rattle.base.proofs.Tests.{false-T, not-T-false}
use Rattle.protocol.specs.Message.{Msg, Name}
use Rattle.protocol.specs.Numbering.{some_pending}
use Rattle.protocol.specs.State.{Seats, Meaning, members, nobody, opened}
use Rattle.protocol.specs.Calls.{Call, join, reserve, confirm, give_back, leave, deliver, turn, crash, merge, refusal, seats_after}
use Rattle.protocol.specs.Calls.{components_after, sends, takes, accept, unless_refused, call, InRange}
use Rattle.protocol.specs.pages.Join.{admitted}
use Rattle.protocol.specs.Page.{pending_after}
use Rattle.protocol.specs.Sound.{Sound}
use Rattle.protocol.specs.Run.{Logged, Past, Standing, log_of, step, steps, steps_from, AllAccepted, Roster, meaning_run, roster_after}
use Rattle.protocol.specs.Run.{roster_of, pending_of, RefusedByTable, NothingPending, MeaningDemand3, AllInRange}
use Rattle.protocol.proofs.Numbering.{pending-none}
use Rattle.protocol.proofs.Delivery.{state_of, accept-deliver}
use Rattle.protocol.proofs.World.{Quiet}
use Rattle.protocol.proofs.Invariant.{invariant-first}
use Rattle.protocol.proofs.Accepted.{reserve-rows, confirm-rows, join-reserve, give-back-rows, leave-rows, turn-row, crash-rows, merge-rows}
use Rattle.protocol.proofs.Reserving.{join-confirm, join-in-two}
use Rattle.protocol.proofs.KeepCalls.{reserve-sound}
use Rattle.protocol.proofs.KeepSound.{opened-sound, nothing_left, accept-sound}
use Rattle.protocol.proofs.Measure.{bound}
use Rattle.protocol.proofs.Falls.{deliver-taken, deliveries-end}
use Rattle.protocol.proofs.Bundle.{deliveries-counted}
use Rattle.protocol.proofs.Reached.{world_of, Sane, in_open, Reached, sane-deliver, reached-graph}
use Rattle.protocol.proofs.ReachedCalls.{sane-reserve, sane-confirm, sane-give-back, sane-leave}
use Rattle.protocol.proofs.ReachedTurn.{sane-turn}
use Rattle.protocol.proofs.ReachedCrash.{sane-crash}
use Rattle.protocol.proofs.ReachedMerge.{sane-merge}
use Rattle.protocol.proofs.Tied.{reached-tied}

module _ (N W : ℕ) where
  reached-opened : Reached (λ x. x) N W opened
  unfolding opened nobody
  reached-opened =
      record {
        sound = opened-sound N W;
        sane = in_open
            (λ l. invariant-first (world_of (λ x. x) W nobody l) (state_of opened) (λ x y p q. absurd p) (λ x k d. refl) (λ m p. p));
      }

  -- nothing pending, as the table tests it
  none-quiet : (M : Meaning) → Quiet (state_of M) → some_pending N W M.pending ≡ false
  none-quiet M q = pending-none N W M.pending (λ m x. not-T-false (λ t. q m t))

  module _ {k : ℕ → ℕ} {M : Meaning} (g : Reached k N W M) where
    -- an accepted call keeps the invariant, with the components that its page makes of those before it
    sane-accept : (c : Call) → InRange N W c → refusal N W M.seats M.pending c ≡ 0
        → Sane (components_after N W M.seats k c) W (accept N W M c) (accept N W M c).seats.phase
    unfolding accept seats_after components_after
    sane-accept (join s n v c) q e =
        let a = join-reserve N W M.seats M.pending s n v c e in
        let K = accept N W M (reserve s n v) in
        let b = confirm-rows N W K.seats K.pending s c (join-confirm N W M s n v c e) in
        subst (λ (K : Meaning). Sane (admitted N s c k) W K K.seats.phase) (join-in-two N W M s n v c)
        (sane-confirm k (reserve-sound g.sound s n v q.0 q.1 a) s c b
        (sane-reserve k g.sound s n v (reserve-rows N W M.seats M.pending s n v a) g.sane))
    sane-accept (reserve s n v) q e = sane-reserve k g.sound s n v (reserve-rows N W M.seats M.pending s n v e) g.sane
    sane-accept (confirm s c) q e = sane-confirm k g.sound s c (confirm-rows N W M.seats M.pending s c e) g.sane
    sane-accept (give_back s) q e = sane-give-back k g.sound s (give-back-rows N W M.seats M.pending s e) g.sane
    sane-accept (leave s) q e = sane-leave k g.sound s (leave-rows N W M.seats M.pending s e) g.sane
    sane-accept (deliver n) q e =
        let t = deliver-taken N W M n e in
        subst (λ (K : Meaning). Sane k W K K.seats.phase) (sym (accept-deliver N W M n t.message t.is))
        (sane-deliver g.sane t.message t.was)
    sane-accept turn q e = sane-turn k g.sound (nothing_left g.sound (turn-row N W M.seats M.pending e)) g.sane
    sane-accept (crash set) q e =
        let a = crash-rows N W M.seats M.pending set e in
        sane-crash g (nothing_left g.sound a.quiet) a.opens set
    sane-accept (merge a b) q e = sane-merge k g.sound a b (merge-rows N W M.seats M.pending a b e) g.sane

    pub reached-accept : (c : Call) → InRange N W c → refusal N W M.seats M.pending c ≡ 0
        → Reached (components_after N W M.seats k c) N W (accept N W M c)
    reached-accept c q e = record { sound = accept-sound N W M g.sound c q e; sane = sane-accept c q e }

    -- and so with those of the roster, whether the call is accepted or not
    reached-call : (o : Roster) → o ≡ record { seats = M.seats; component = k } → (c : Call) → InRange N W c
        → let n = refusal N W M.seats M.pending c in
        Reached (unless_refused n o (roster_after N W o c)).component N W (unless_refused n M (accept N W M c))
    unfolding unless_refused roster_after
    reached-call o same c q = by (refusal N W M.seats M.pending c) refl
      where
        by : (n : ℕ) → refusal N W M.seats M.pending c ≡ n
            → Reached (unless_refused n o (roster_after N W o c)).component N W (unless_refused n M (accept N W M c))
        by zero e = rw same (reached-accept c q e)
        by (suc n) e = rw same g

  -- what goes through a list
  pub record Track (s : Standing Meaning) : Type 0 where
    pub reached : Reached (roster_of N W (log_of s.history)).component N W s.now
    pub refusals : RefusedByTable N W s.history
    pub lots : s.now.seats ≡ (roster_of N W (log_of s.history)).seats
    pub pending : s.now.pending ≡ pending_of N W s.history

  -- an accepted call makes of the roster's seats what it makes of the seats, and of the pending messages what it sends and takes
  lots-step : (M : Meaning) (ls : List Logged) (c : Call) (n : ℕ) → M.seats ≡ (roster_of N W ls).seats
      → (unless_refused n M (accept N W M c)).seats ≡ (roster_of N W (record { call = c; refused = n } ∷ ls)).seats
  unfolding roster_of unless_refused accept roster_after
  lots-step M ls c zero e = ap (λ (r : Seats). seats_after N W r c) e
  lots-step M ls c (suc n) e = e

  pending-step : (M : Meaning) (es : List (Past Meaning)) (c : Call) (n : ℕ) → M.pending ≡ pending_of N W es
      → (unless_refused n M (accept N W M c)).pending ≡ pending_of N W (record { logged = record { call = c; refused = n }; before = M } ∷ es)
  unfolding pending_of unless_refused accept
  pending-step M es c zero e = ap {B = Msg → Bool} (λ (p : Msg → Bool) (m : Msg). pending_after (sends N W M c) (takes N W c) p m) e
  pending-step M es c (suc n) e = e

  track-step : {s : Standing Meaning} (c : Call) → InRange N W c → Track s → Track (step (call N W) s c)
  unfolding step call log_of roster_of
  track-step {s} c q t =
      let o = roster_of N W (log_of s.history) in
      record {
        reached = reached-call t.reached o (rw t.lots) c q;
        refusals = (ap₂ (λ (r : Seats) (p : Msg → Bool). refusal N W r p c) t.lots t.pending, t.refusals);
        lots = lots-step s.now (log_of s.history) c (refusal N W s.now.seats s.now.pending c) t.lots;
        pending = pending-step s.now s.history c (refusal N W s.now.seats s.now.pending c) t.pending;
      }

  track-steps : (cs : List Call) {s : Standing Meaning} → AllInRange N W cs → Track s → Track (steps (call N W) s cs)
  unfolding steps
  track-steps [] a t = t
  track-steps (c ∷ cs) a t = track-steps cs a.1 (track-step c a.0 t)

  -- the invariant of every list
  pub track-run : (cs : List Call) → AllInRange N W cs → Track (meaning_run N W cs)
  unfolding meaning_run steps_from opened roster_of log_of pending_of
  track-run cs a = track-steps cs a (record { reached = reached-opened; refusals = tt; lots = refl; pending = refl })

  track-demand : {s : Standing Meaning} → Track s → MeaningDemand3 N W (bound N W) s
  track-demand {s} t = record {
    refusals = t.refusals;
    lots = t.lots;
    messages = λ m. ap (λ (p : Msg → Bool). p m) t.pending;
    none_left = ((λ e m. settled (nothing_left t.reached.sound e) m), λ q. none-quiet s.now (quiet q));
    components = λ x y m n. reached-tied t.reached x y (rw t.lots m) (rw t.lots n);
    graph = λ q. subst (λ (r : Seats). IsGraph N W (members (roster_of N W (log_of s.history)).component r) s.now.link) t.lots
        (reached-graph t.reached (quiet q));
    ends = λ ns. deliveries-end N W ns s.now t.reached.sound;
  }
    where
      settled : Quiet (state_of s.now) → (m : Msg) → pending_of N W s.history m ≡ false
      settled q m = sym (ap (λ (p : Msg → Bool). p m) t.pending) ∙ not-T-false (λ u. q m u)

      quiet : NothingPending N W s.history → Quiet (state_of s.now)
      quiet q m u = false-T (q m) (subst (λ (p : Msg → Bool). T (p m)) t.pending u)

  -- THE THEOREM: demand 3 after every list of calls
  pub every-list : (cs : List Call) → AllInRange N W cs → MeaningDemand3 N W (bound N W) (meaning_run N W cs)
  every-list cs a = track-demand (track-run cs a)

  -- and the meaning is sound after every list, so that refusal 2 is never met
  pub every-list-sound : (cs : List Call) → AllInRange N W cs → Sound N W (meaning_run N W cs).now
  every-list-sound cs a = (track-run cs a).reached.sound

  -- and no list of accepted deliveries is longer than the bound, from demand 3 alone
  pub never-longer : {b : Meaning → ℕ} {s : Standing Meaning} → MeaningDemand3 N W b s → (ns : List Name)
      → AllAccepted (call N W) s.now (map deliver ns) → length ns ≤ b s.now
  never-longer {s = s} d ns a = rw (← deliveries-counted (call N W) s.now ns a) (d.ends ns)
