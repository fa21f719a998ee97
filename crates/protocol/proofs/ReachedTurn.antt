-- Turns keep what every reached meaning has; and a turn in phase open without leavers changes nothing. Assumes nothing.
use Prim.Native.Nat.{ℕ, zero, suc, ◌≤◌, ◌<◌}
use mathlib.Core.Path.{◌≡◌, refl, sym, ◌∙◌, ap, subst}
use mathlib.Core.Logic.{◌⊎◌, inl, inr}
use mathlib.Core.Option.{Option, none, some}
use mathlib.Core.Bool.{Bool, true, false, cond}
use mathlib.Core.List.{List, [], Memᴰ}
use native.Mathlib.Omega.{arith}
use lib.Dec.{T}
use Rattle.graph.specs.Side.{Side, left, right, opp}
use Rattle.graph.specs.Graph.{Links}
use Rattle.graph.proofs.Order.{opp-opp}
use Rattle.base.proofs.Tests.{dec-T, not-T-false, false-T, none-some}
use Rattle.protocol.specs.Message.{Msg, going}
use Rattle.base.specs.Loops.{any}
use Rattle.protocol.specs.Rules.{SeatState, free, staying, leaving, reserved, is_staying}
use Rattle.protocol.specs.State.{Phase, open_phase, clearing, Seats, Meaning, is_seated, is_leaving, seated, stays, leaves}
use Rattle.protocol.specs.Calls.{turn, seats_after, sends, takes, links_after, accept}
use Rattle.protocol.specs.pages.Turn.{after_turn, farewell, farewells, turn_sends, turn_links}
use Rattle.protocol.specs.Page.{each, pending_after}
use Rattle.protocol.specs.Freeing.{unlinked}
use Rattle.protocol.specs.Sound.{Sound}
use Rattle.base.proofs.Any.{any_none}
use Rattle.protocol.proofs.Calls.{after_nothing}
use Rattle.protocol.proofs.Sent.{in-yes, in-each, is-sent}
use Rattle.protocol.proofs.World.{World, Quiet}
use Rattle.protocol.proofs.Delivery.{state_of}
use Rattle.protocol.proofs.Exact.{Exact}
use Rattle.protocol.proofs.Invariant.{invariant-quiet}
use Rattle.protocol.proofs.Clearing.{Target, nobody, nearest, clearing-quiet}
use Rattle.protocol.proofs.Turn.{exact-links, clearing-start, Shrinks, clearing-end}
use Rattle.protocol.proofs.SoundFacts.{stays-seated, seated-below, two-level, link-linked}
use Rattle.protocol.proofs.KeepTurn.{farewell-out}
use Rattle.protocol.proofs.KeepFreeing.{unlinked-some}
use Rattle.protocol.proofs.Reached.{Laws, sound-laws, world_of, Stayer, Sane, in_open, in-clearing}
use Rattle.protocol.proofs.ReachedCalls.{after-only-sent, after-sent}

-- the meaning after a turn in phase p
abbrev pub turned : (N W : ℕ) → Meaning → Phase → Meaning
turned N W M p =
    record { seats = after_turn N p M.seats; link = turn_links p M.seats M.link; pending = pending_after (turn_sends N W p M) none M.pending }

-- nobody sends: lists of nothing; so without leavers
pub each-nothing : (n : ℕ) (f : ℕ → List Msg) → ((i : ℕ) → i < n → f i ≡ []) → each n f ≡ []
unfolding each
each-nothing zero f h = refl
each-nothing (suc n) f h = rw (each-nothing n f (λ i l. h i (omega arith)), h n (omega arith))

farewells-none : (N W : ℕ) (r : Seats) (L : Links) → any N (leaves r) ≡ false → farewells N W r L ≡ []
unfolding farewells
farewells-none N W r L e = each-nothing N _ (λ y l. let f : leaves r y ≡ false = not-T-false (λ t. any_none N (leaves r) e y l t) in rw f)

-- and nothing changes
pub turn-idle : (N W : ℕ) (M : Meaning) → M.seats.phase ≡ open_phase → any N (leaves M.seats) ≡ false → turned N W M open_phase ≡ M
unfolding after_turn turn_links turn_sends
turn-idle N W M p e = λ i. record {
  seats =
      record {
        phase = (ap (λ (b : Bool). cond b clearing open_phase) e ∙ sym p) i;
        state = M.seats.state;
        number = M.seats.number;
        vector = M.seats.vector;
      };
  link = M.link;
  pending = (ap (λ (l : List Msg). pending_after l none M.pending) (farewells-none N W M.seats M.link e) ∙ after_nothing M.pending) i;
}

seated-leaves : (r : Seats) (x : ℕ) → T (seated r x) → ¬ (T (stays r x)) → T (leaves r x)
seated-leaves r x t n = by (r.state x) t n
  where
    by : (s : SeatState) → T (is_seated s) → ¬ (T (is_staying s)) → T (is_leaving s)
    by free t n = t
    by staying t n = absurd (n tt)
    by leaving t n = tt
    by reserved t n = t

leaves-off : (r : Seats) (x : ℕ) → T (stays r x) → leaves r x ≡ false
leaves-off r x t = by (r.state x) t
  where
    by : (s : SeatState) → T (is_staying s) → is_leaving s ≡ false
    by free t = absurd t
    by staying t = refl
    by leaving t = absurd t
    by reserved t = absurd t

-- every leaver sends GOING to each of its links
farewell-in : (N W : ℕ) (r : Seats) (L : Links) (y k x : ℕ) (d : Side) → y < N → k ≤ W → T (leaves r y) → L y k d ≡ some x
    → Memᴰ (going x k (opp d)) (farewells N W r L)
unfolding farewells farewell
farewell-in N W r L y k x left ly lk t e = in-each N _ y ly (in-yes (leaves r y) _ _ t (in-each (suc W) _ k (omega arith) (search is-sent)))
farewell-in N W r L y k x right ly lk t e = in-each N _ y ly (in-yes (leaves r y) _ _ t (in-each (suc W) _ k (omega arith) (search is-sent)))

module _ (comp : ℕ → ℕ) {N W : ℕ} {M : Meaning} (h : Sound N W M) (q : Quiet (state_of M)) where
  sane-shut : Sane comp W M open_phase → Sane comp W (turned N W M open_phase) clearing
  unfolding after_turn turn_links turn_sends
  sane-shut (in_open i) =
      in-clearing M.link (λ l. exact-links (Stayer M.seats) (exact l))
      (λ l. clearing-start (Stayer M.seats) (exact l) (λ z. dec-T (stays M.seats z)) (λ x k d. refl) only told)
    where
      sent : List Msg
      sent = farewells N W M.seats M.link

      exact : (l : Laws (after_turn N open_phase M.seats)) (k : ℕ) → Exact (world_of comp W (after_turn N open_phase M.seats) l) (state_of M) k
      exact l k = invariant-quiet (i (record { small = l.small; differ = l.differ })) q k

      only : (m : Msg) → T (pending_after sent none M.pending m)
          → (x : ℕ) × (k : ℕ) × (d : Side) × (m ≡ going x k d) × T (seated M.seats x) × (k ≤ W)
      only m t = by (after-only-sent sent M.pending m t)
        where
          by : T (M.pending m) ⊎ Memᴰ m sent → (x : ℕ) × (k : ℕ) × (d : Side) × (m ≡ going x k d) × T (seated M.seats x) × (k ≤ W)
          by (inl u) = absurd (q m u)
          by (inr u) =
              let f = farewell-out N W M.seats M.link u in
              let p = (link-linked h f.link).0 in
              (f.told, f.level, opp f.side, f.says, p.two, two-level p)

      told : (y k x : ℕ) (d : Side) → ¬ (T (stays M.seats y)) → M.link y k (opp d) ≡ some x
          → T (pending_after sent none M.pending (going x k d))
      told y k x d ns e =
          let p = (link-linked h e).0 in
          let m = farewell-in N W M.seats M.link y k x (opp d) (seated-below h y p.one) (two-level p) (seated-leaves M.seats y p.one ns) e in
          after-sent sent M.pending (going x k d) (subst (λ (c : Side). Memᴰ (going x k c) sent) (opp-opp d) m)

  -- out of clearing
  abbrev r' : Seats
  r' = after_turn N clearing M.seats

  freed-stays : (x : ℕ) → T (seated r' x) → T (stays M.seats x)
  unfolding after_turn
  freed-stays x t = by (M.seats.state x) t
    where
      by : (s : SeatState) → T (is_seated (cond (is_leaving s) free s)) → T (is_staying s)
      by free t = t
      by staying t = t
      by leaving t = t
      by reserved t = t

  stays-freed : (x : ℕ) → T (stays M.seats x) → T (seated r' x)
  unfolding after_turn
  stays-freed x t = by (M.seats.state x) t
    where
      by : (s : SeatState) → T (is_staying s) → T (is_seated (cond (is_leaving s) free s))
      by free t = t
      by staying t = t
      by leaving t = t
      by reserved t = t

  shrinks : (l : Laws M.seats) (l' : Laws r') → Shrinks (world_of comp W M.seats l) (Stayer M.seats) (world_of comp W r' l')
  unfolding after_turn
  shrinks l l' = record {
    old = λ x t. let s = freed-stays x t in (stays-seated M.seats x s, s);
    new = λ x t s. stays-freed x s;
    agree = record { width = refl; number = λ x s. rw (leaves-off M.seats x s); vector = λ x s. rw (leaves-off M.seats x s) };
    same = λ x s. refl;
  }

  -- a target is no leaver
  unlinked-target : {G : World} {k x : ℕ} {d : Side} {o : Option ℕ} → Target G (Stayer M.seats) k x d o → unlinked (leaves M.seats) o ≡ o
  unfolding unlinked
  unlinked-target (nobody f) = refl
  unlinked-target (nearest {y = y} p s l f) = rw (leaves-off M.seats y s)

  sane-end : Sane comp W M clearing → Sane comp W (turned N W M clearing) open_phase
  unfolding turn_links turn_sends
  sane-end (in-clearing L a c) =
      in_open (λ l'. clearing-end (shrinks l l') (state_of (turned N W M clearing)) (state_of M) (clearing-quiet (c l) q) keep drop still)
    where
      l : Laws M.seats
      l = sound-laws h

      still : (m : Msg) → T (pending_after [] none M.pending m) → ⊥
      still m t = q m (subst (λ (p : Msg → Bool). T (p m)) (after_nothing M.pending) t)

      keep : (x k : ℕ) (d : Side) → T (seated M.seats x) → T (stays M.seats x)
          → cond (leaves M.seats x) none (unlinked (leaves M.seats) (M.link x k d)) ≡ M.link x k d
      keep x k d sx st = rw (leaves-off M.seats x st) (unlinked-target (clearing-quiet (c l) q x k d sx st))

      got : (x k : ℕ) (d : Side) (y : ℕ) (b : Bool) → leaves M.seats x ≡ b → Dec (T (stays M.seats x))
          → cond b none (unlinked (leaves M.seats) (M.link x k d)) ≡ some y → T (seated M.seats x) × T (stays M.seats x)
      got x k d y true f s e = none-some refl e
      got x k d y false f (yes s) e = (stays-seated M.seats x s, s)
      got x k d y false f (no s) e =
          false-T f (seated-leaves M.seats x (link-linked h (unlinked-some (leaves M.seats) (M.link x k d) y e).0).0.one s)

      drop : (x k : ℕ) (d : Side) (y : ℕ) → cond (leaves M.seats x) none (unlinked (leaves M.seats) (M.link x k d)) ≡ some y
          → T (seated M.seats x) × T (stays M.seats x)
      drop x k d y e = got x k d y (leaves M.seats x) refl (dec-T (stays M.seats x)) e

  -- every turn with nothing pending
  sane-turned : (p : Phase) → M.seats.phase ≡ p → Sane comp W M p → Sane comp W (turned N W M p) (turned N W M p).seats.phase
  unfolding after_turn
  sane-turned open_phase e s = by (any N (leaves M.seats)) refl
    where
      by : (b : Bool) → any N (leaves M.seats) ≡ b → Sane comp W (turned N W M open_phase) (cond b clearing open_phase)
      by true f = sane-shut s
      by false f = subst (λ (K : Meaning). Sane comp W K open_phase) (sym (turn-idle N W M e f)) s
  sane-turned clearing e s = sane-end s

  pub sane-turn : Sane comp W M M.seats.phase → Sane comp W (accept N W M turn) (accept N W M turn).seats.phase
  unfolding accept seats_after links_after sends takes
  sane-turn s = sane-turned M.seats.phase refl s
