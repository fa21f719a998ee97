-- A delivery as a relation between two states, for any rules given as relations; and that the function which delivers is one,
-- where its effect is what the relations say. A proof device: contracts and readers see `effect`. Assumes nothing.
use Prim.Native.Nat.{ℕ}
use mathlib.Core.Path.{◌≡◌, sym, ◌∙◌, ap, subst}
use mathlib.Core.Logic.{◌⊎◌, inl, inr, ◌≢◌}
use mathlib.Core.Option.{Option, some}
use mathlib.Core.List.{List, Memᴰ}
use lib.Dec.{T}
use Rattle.graph.specs.Side.{Side}
use Rattle.protocol.specs.Message.{Msg, Name, name_of, named, among}
use Rattle.protocol.specs.Rules.{Change, keep, set, Effect}
use Rattle.protocol.specs.State.{Meaning}
use Rattle.protocol.specs.Calls.{deliver, seats_after, sends, takes, links_after, accept}
use Rattle.protocol.specs.Page.{is_taken, pending_after}
use Rattle.protocol.specs.pages.Deliver.{applied, rule, delivery_sends, delivery_links}
use Rattle.protocol.proofs.Message.{same-eq, eq-same, among-mem, mem-among}
use Rattle.protocol.proofs.Calls.{after-came, after_kept, after-only, applied-at, applied-frame}
use Rattle.protocol.proofs.World.{State}
use Rattle.protocol.proofs.Sent.{All, all-at}

pub record Delivery (Sends : Msg → Msg → Type 0) (Sets : Msg → ℕ → ℕ → Side → Option ℕ → Type 0)
    (S : State) (m : Msg) (S' : State) : Type 0 where
  pub was : S.pend m
  pub kept : (n : Msg) → S.pend n → (n ≡ m) ⊎ S'.pend n
  pub came : {n : Msg} → Sends m n → S'.pend n
  pub only : {n : Msg} → S'.pend n → (S.pend n × (n ≢ m)) ⊎ Sends m n
  pub moved : {x k : ℕ} {d : Side} {o : Option ℕ} → Sets m x k d o → S'.link x k d ≡ o
  pub frame : (x k : ℕ) (d : Side) → (S'.link x k d ≡ S.link x k d) ⊎ ((o : Option ℕ) × Sets m x k d o)

module _ {Sends : Msg → Msg → Type 0} {Sets : Msg → ℕ → ℕ → Side → Option ℕ → Type 0} {S S' : State} {m : Msg} where
  -- a link after the delivery is an old one, or the one set
  pub link-cases : {x k y : ℕ} {d : Side} → Delivery Sends Sets S m S' → S'.link x k d ≡ some y
      → (S.link x k d ≡ some y) ⊎ Sets m x k d (some y)
  link-cases {x} {k} {y} {d} t e = by (t.frame x k d)
    where
      by : (S'.link x k d ≡ S.link x k d) ⊎ ((o : Option ℕ) × Sets m x k d o) → (S.link x k d ≡ some y) ⊎ Sets m x k d (some y)
      by (inl f) = inl (sym f ∙ e)
      by (inr s) = inr (subst (λ (o : Option ℕ). Sets m x k d o) (sym (t.moved s.1) ∙ e) s.1)

  -- an old link is kept, or another was set in its place
  pub link-kept : {x k y : ℕ} {d : Side} → Delivery Sends Sets S m S' → S.link x k d ≡ some y
      → (S'.link x k d ≡ some y) ⊎ ((o : Option ℕ) × Sets m x k d o)
  link-kept {x} {k} {y} {d} t e = by (t.frame x k d)
    where
      by : (S'.link x k d ≡ S.link x k d) ⊎ ((o : Option ℕ) × Sets m x k d o)
          → (S'.link x k d ≡ some y) ⊎ ((o : Option ℕ) × Sets m x k d o)
      by (inl f) = inl (f ∙ e)
      by (inr s) = inr s

-- an effect is what the relations say
pub record Right (Sends : Msg → Msg → Type 0) (Sets : Msg → ℕ → ℕ → Side → Option ℕ → Type 0) (m : Msg) (e : Effect) : Type 0 where
  pub all : {n : Msg} → Sends m n → Memᴰ n e.sent
  pub mem : {n : Msg} → Memᴰ n e.sent → Sends m n
  pub puts : {x k : ℕ} {d : Side} {o : Option ℕ} → Sets m x k d o → (x ≡ (name_of m).to) × (e.change ≡ set k d o)
  pub sets : {k : ℕ} {d : Side} {o : Option ℕ} → e.change ≡ set k d o → Sets m (name_of m).to k d o

-- an effect that sets no link, or one: it is right if what the relation names is sent, and all that is sent is named
module _ {Sends : Msg → Msg → Type 0} {Sets : Msg → ℕ → ℕ → Side → Option ℕ → Type 0} {m : Msg} {e : Effect} where
  pub keeps-right : e.change ≡ keep → ((x k : ℕ) (d : Side) (o : Option ℕ) → Sets m x k d o → ⊥)
      → ((n : Msg) → Sends m n → Memᴰ n e.sent) → All (Sends m) e.sent → Right Sends Sets m e
  keeps-right c none named only = record {
    all = λ {n} s. named n s;
    mem = λ i. all-at only i;
    puts = λ s. absurd (none _ _ _ _ s);
    sets = λ f. absurd (subst Moves (sym c ∙ f) tt);
  }
    where
      Moves : Change → Type 0
      Moves keep = Unit {0}
      Moves (set k d o) = ⊥

  pub sets-right : {k : ℕ} {d : Side} {o : Option ℕ} → e.change ≡ set k d o → Sets m (name_of m).to k d o
      → ((x j : ℕ) (c : Side) (v : Option ℕ) → Sets m x j c v → (x ≡ (name_of m).to) × (set k d o ≡ set j c v))
      → ((n : Msg) → Sends m n → Memᴰ n e.sent) → All (Sends m) e.sent → Right Sends Sets m e
  sets-right {k} {d} {o} c s one named only = record {
    all = λ {n} s. named n s;
    mem = λ i. all-at only i;
    puts = λ t. let q = one _ _ _ _ t in (q.0, c ∙ q.1);
    sets = λ f. subst Put (sym c ∙ f) s;
  }
    where
      Put : Change → Type 0
      Put keep = ⊥
      Put (set j b v) = Sets m (name_of m).to j b v

-- the state of a meaning
abbrev pub state_of : Meaning → State
state_of M = record { link = M.link; pend = λ m. T (M.pending m) }

-- the meaning after the delivery of m
abbrev pub delivered : ℕ → Meaning → Msg → Meaning
delivered W M m = record {
  seats = M.seats;
  link = λ x k d. applied (name_of m).to (rule W M m).change M.link x k d;
  pending = pending_after (rule W M m).sent (some m) M.pending;
}

pub accept-deliver : (N W : ℕ) (M : Meaning) (n : Name) (m : Msg) → named n ≡ some m → accept N W M (deliver n) ≡ delivered W M m
unfolding accept seats_after links_after sends takes delivery_sends delivery_links
accept-deliver N W M n m e = ap (λ (o : Option Msg). after o) e
  where
    after : Option Msg → Meaning
    after o = record { seats = M.seats; link = λ x k d. delivery_links W M o x k d; pending = pending_after (delivery_sends W M o) o M.pending }

pub delivers : {Sends : Msg → Msg → Type 0} {Sets : Msg → ℕ → ℕ → Side → Option ℕ → Type 0} (W : ℕ) (M : Meaning) (m : Msg)
    → Right Sends Sets m (rule W M m) → T (M.pending m) → Delivery Sends Sets (state_of M) m (state_of (delivered W M m))
unfolding is_taken
delivers {Sends} {Sets} W M m r w = record {
  was = w;
  kept = λ n p. kp n (after_kept l (some m) M.pending n p);
  came = λ {n} s. after-came l (some m) M.pending n (mem-among l (r.all s));
  only = λ {n} t. on (after-only l (some m) M.pending n t);
  moved = λ s. mv s;
  frame = λ x k d. fr (applied-frame t c M.link x k d);
}
  where
    t : ℕ
    t = (name_of m).to

    c : Change
    c = (rule W M m).change

    l : List Msg
    l = (rule W M m).sent

    kp : (n : Msg) → T (is_taken (some m) n) ⊎ T (pending_after l (some m) M.pending n) → (n ≡ m) ⊎ T (pending_after l (some m) M.pending n)
    kp n (inl u) = inl (sym (same-eq m n u))
    kp n (inr u) = inr u

    on : {n : Msg} → (T (M.pending n) × (T (is_taken (some m) n) → ⊥)) ⊎ T (among l n) → (T (M.pending n) × (n ≢ m)) ⊎ Sends m n
    on (inl p) = inl (p.0, λ e. p.1 (eq-same (sym e)))
    on (inr q) = inr (r.mem (among-mem l q))

    mv : {x k : ℕ} {d : Side} {o : Option ℕ} → Sets m x k d o → applied t c M.link x k d ≡ o
    mv {x} {k} {d} {o} s = let q = r.puts s in rw (q.0, q.1) (applied-at t k d o M.link)

    fr : {x k : ℕ} {d : Side} → (applied t c M.link x k d ≡ M.link x k d) ⊎ ((o : Option ℕ) × (x ≡ t) × (c ≡ set k d o))
        → (applied t c M.link x k d ≡ M.link x k d) ⊎ ((o : Option ℕ) × Sets m x k d o)
    fr (inl e) = inl e
    fr {x} {k} {d} (inr (o, e, f)) = inr (o, subst (λ (y : ℕ). Sets m y k d o) (sym e) (r.sets f))
