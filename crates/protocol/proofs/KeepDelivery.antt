-- A delivery in a sound meaning does what fits: what it sends fits its kind, the link that it sets is a right one, and the meaning stays
-- sound. Assumes nothing.
use Prim.Native.Nat.{ℕ}
use mathlib.Core.Path.{◌≡◌, refl, sym, ◌∙◌, subst}
use mathlib.Core.Logic.{◌⊎◌, inl, inr, ◌≢◌}
use mathlib.Core.Option.{Option, none, some}
use mathlib.Core.List.{Memᴰ}
use lib.Dec.{T, T_not}
use Rattle.graph.specs.Side.{Side}
use Rattle.graph.specs.Graph.{Links}
use Rattle.graph.proofs.Order.{lt_trans, lt-ne, lt-ne'}
use Rattle.protocol.specs.Message.{Msg, Name, name_of, named}
use Rattle.protocol.specs.Rules.{set}
use Rattle.protocol.specs.State.{Phase, open_phase, clearing, Seats, Meaning, is_free, is_pending}
use Rattle.protocol.specs.Calls.{deliver, refusal, seats_after, sends, takes, links_after, accept}
use Rattle.protocol.specs.pages.Deliver.{rule, delivery_sends, applied, delivery_links}
use Rattle.protocol.specs.Page.{pending_after}
use Rattle.protocol.specs.Sound.{message_ok, Sound}
use Rattle.protocol.proofs.Calls.{applied-frame, applied-at}
use Rattle.protocol.proofs.Accepted.{deliver-row}
use Rattle.protocol.proofs.World.{World, Pair}
use Rattle.protocol.proofs.Delivery.{state_of}
use Rattle.protocol.proofs.Open as Open
use Rattle.protocol.proofs.Clearing as Clearing
use Rattle.protocol.proofs.ClearingEffect.{Sided, s_going, s_seek, s_found, s_none}
use Rattle.protocol.proofs.SoundFacts.{seated-taken, Two, Linked, Proper, p-meet, p-probe, p-pull, p-going, p-seek, p-found, p-none, two-sym, two-via}
use Rattle.protocol.proofs.SoundFacts.{two-level, link-linked, two-lt, linked-ok, proper-ok, pending-proper, pending-after}
use Rattle.protocol.proofs.Reached.{one_component, sound-laws, world_of, Stayer, open-rule, clearing-rule}

-- what the rule of a message may send in phase p, and which link it may set
pub record Fits (W : ℕ) (M : Meaning) (p : Phase) (m : Msg) : Type 0 where
  pub sends : (n : Msg) → Memᴰ n (rule W M m).sent → Proper W M.seats p n
  pub links : (k y : ℕ) (d : Side) → (rule W M m).change ≡ set k d (some y) → Linked W M.seats (name_of m).to k d y

module _ {N W : ℕ} {M : Meaning} (h : Sound N W M) where
  abbrev r : Seats
  r = M.seats

  abbrev G : World
  G = world_of one_component W M.seats (sound-laws h)

  two-pair : {k x y : ℕ} → Two W r k x y → Pair G k x y
  two-pair t = record { fst = t.one; snd = t.two; same = refl; bits = t.bits }

  pair-two : {k x y : ℕ} → Pair G k x y → x ≢ y → Two W r k x y
  pair-two p ne = record { one = p.fst; two = p.snd; apart = ne; bits = p.bits }

  -- phase open
  proper-open : {m : Msg} → Proper W r open_phase m → Open.Ok G m
  proper-open (p-meet t) = Open.ok-meet (two-pair t) t.apart
  proper-open (p-probe t w) = Open.ok-probe (two-pair t) t.apart w
  proper-open (p-pull s w) = Open.ok-pull s w

  open-proper : {m : Msg} → Open.Ok G m → Proper W r open_phase m
  open-proper (Open.ok-meet p ne) = p-meet (pair-two p ne)
  open-proper (Open.ok-probe p ne w) = p-probe (pair-two p ne) w
  open-proper (Open.ok-pull s w) = p-pull s w

  -- links and messages are proper
  pub all-proper : r.phase ≡ open_phase → Open.Proper G (state_of M)
  all-proper e = record {
    link-pair = λ f. two-pair (link-linked h f).0;
    link_side = λ f. (link-linked h f).1;
    pend-ok = λ {m = n} t. proper-open (subst (λ (p : Phase). Proper W r p n) e (pending-proper h t));
  }

  open-fits : {m : Msg} → r.phase ≡ open_phase → Open.Ok G m → Fits W M open_phase m
  open-fits {m} e o = record {
    sends = λ n i. open-proper (Open.sends-ok (all-proper e) o (does.mem i));
    links = λ k y d f. let s = does.sets f in (pair-two (Open.sets-pair o s) (lt-ne (Open.sets-side s)), Open.sets-side s);
  }
    where
      does : Open.Does G (state_of M) m (rule W M m)
      does = open-rule one_component W M m (sound-laws h) (all-proper e) o

  -- phase clearing
  pub sided : {m : Msg} → Proper W r clearing m → Sided G m
  sided (p-going s w) = s_going
  sided (p-seek t s) = s_seek (two-lt h (two-sym t))
  sided (p-found t s u) = s_found (two-lt h t)
  sided (p-none s w) = s_none

  sends-proper : {m n : Msg} → Proper W r clearing m → Clearing.Sends G (Stayer r) (state_of M) m n → Proper W r clearing n
  sends-proper (p-going s w) (Clearing.asks st e) = p-seek (two-sym (link-linked h e).0) st
  sends-proper (p-seek t s) (Clearing.answers st) = p-found (two-sym t) s st
  sends-proper (p-seek t s) (Clearing.passes ns l e) =
      let q = link-linked h e in
      p-seek (two-via q.0 t (lt-ne' (lt_trans l q.1))) s
  sends-proper (p-seek t s) (Clearing.gives_up {d = d} ns l e) = p-none {d = d} s (two-level t)
  sends-proper (p-found t s u) q = elim q [ ]
  sends-proper (p-none s w) q = elim q [ ]

  sets-linked : {m : Msg} {x k y : ℕ} {d : Side} → Proper W r clearing m → Clearing.Sets G (Stayer r) (state_of M) m x k d (some y) → Linked W r x k d y
  sets-linked (p-found t s u) (Clearing.to-found l) = (t, l)
  sets-linked (p-going s w) q = elim q [ ]
  sets-linked (p-seek t s) q = elim q [ ]
  sets-linked (p-none s w) q = elim q [ ]

  clearing-fits : {m : Msg} → Proper W r clearing m → Fits W M clearing m
  clearing-fits {m} p = record { sends = λ n i. sends-proper p (does.mem i); links = λ k y d f. sets-linked p (does.sets f) }
    where
      does : Clearing.Does G (Stayer r) (state_of M) m (rule W M m)
      does = clearing-rule one_component W M m (sound-laws h) (sided p)

  rule_fits : {m : Msg} (p : Phase) → r.phase ≡ p → Proper W r p m → Fits W M p m
  rule_fits open_phase e q = open-fits e (proper-open q)
  rule_fits clearing e q = clearing-fits q

  delivery-sound : (o : Option Msg) → T (is_pending M.pending o)
      → Sound N W (record { seats = r; link = delivery_links W M o; pending = pending_after (delivery_sends W M o) o M.pending })
  unfolding is_pending delivery_links delivery_sends
  delivery-sound none t = absurd t
  delivery-sound (some m) t = record {
    seats = h.seats;
    numbers = h.numbers;
    vectors = h.vectors;
    unused = λ x f. let q = h.unused x f in (q.0, q.1, λ k d. unlinked x k d f (after x k d) refl);
    differ = h.differ;
    links = λ x k y d e. linked-ok W r (linked x k y d e);
    messages = pending-after (λ n. T (message_ok W r n)) (rule W M m).sent (some m) M.pending h.messages sent;
  }
    where
      fits : Fits W M r.phase m
      fits = rule_fits r.phase refl (pending-proper h t)

      sent : (n : Msg) → Memᴰ n (rule W M m).sent → T (message_ok W r n)
      sent n q = proper-ok W r refl (fits.sends n q)

      after : Links
      after x k d = applied (name_of m).to (rule W M m).change M.link x k d

      linked : (x k y : ℕ) (d : Side) → after x k d ≡ some y → Linked W r x k d y
      linked x k y d e = by (applied-frame (name_of m).to (rule W M m).change M.link x k d)
        where
          by : (after x k d ≡ M.link x k d) ⊎ ((o : Option ℕ) × (x ≡ (name_of m).to) × ((rule W M m).change ≡ set k d o)) → Linked W r x k d y
          by (inl f) = link-linked h (sym f ∙ e)
          by (inr (o, q, f)) =
              let v : o ≡ some y = cc (applied-at (name_of m).to k d o M.link) in
              subst (λ (z : ℕ). Linked W r z k d y) (sym q) (fits.links k y d (subst (λ (z : Option ℕ). (rule W M m).change ≡ set k d z) v f))

      unlinked : (x k : ℕ) (d : Side) → T (is_free (r.state x)) → (o : Option ℕ) → after x k d ≡ o → o ≡ none
      unlinked x k d f none e = refl
      unlinked x k d f (some y) e = absurd (T_not (is_free (r.state x)) (seated-taken r x (linked x k y d e).0.one) f)

  pub deliver-sound : (n : Name) → refusal N W M.seats M.pending (deliver n) ≡ 0 → Sound N W (accept N W M (deliver n))
  unfolding accept seats_after links_after sends takes
  deliver-sound n e = delivery-sound (named n) (deliver-row N W r M.pending n e)
