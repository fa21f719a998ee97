-- The components of a reached meaning are those of its links and pending MEETs together, at every time: in phase open by the invariant; in clearing
-- no MEET is pending, and each link of the graph before the turn is still there from one of its ends. Assumes nothing.
use Prim.Native.Nat.{ℕ}
use mathlib.Core.Path.{◌≡◌, refl, sym, ◌∙◌, ap}
use mathlib.Core.Logic.{◌↔◌, ◌⊎◌, inl, inr}
use mathlib.Core.Option.{Option, some}
use lib.Dec.{T}
use Rattle.graph.specs.Side.{Side, opp}
use Rattle.graph.specs.Graph.{Links}
use Rattle.graph.specs.inner.Order.{Lt}
use Rattle.graph.proofs.Order.{lt-asym}
use Rattle.base.proofs.Tests.{dec-T, some_inj, none-some}
use Rattle.protocol.specs.Message.{meet}
use Rattle.protocol.specs.State.{Phase, Meaning, seated, stays}
use Rattle.protocol.specs.Tied.{Tied, same, linked, met, turned, through}
use Rattle.protocol.proofs.World.{World, State}
use Rattle.protocol.proofs.Delivery.{state_of}
use Rattle.protocol.proofs.Open.{ok-pair}
use Rattle.protocol.proofs.Conn.{Conn, crefl, clink, cmeet, csym, ctrans}
use Rattle.protocol.proofs.Exact.{Exact}
use Rattle.protocol.proofs.Invariant.{Invariant, exact-sym, exact-whole}
use Rattle.protocol.proofs.Join.{zero-pair}
use Rattle.protocol.proofs.Clearing.{Target, nobody, nearest, AllLinks, Ok, Clearing}
use Rattle.protocol.proofs.Reached.{Laws, sound-laws, Sane, in_open, in-clearing, Reached}

-- links and MEETs stay within the components
record Inside (c : ℕ → ℕ) (M : Meaning) : Type 0 where
  links : (x k y : ℕ) (d : Side) → M.link x k d ≡ some y → c x ≡ c y
  meets : (x y k : ℕ) → T (M.pending (meet x y k)) → c x ≡ c y

tied-same : {c : ℕ → ℕ} {M : Meaning} {x y : ℕ} → Inside c M → Tied M x y → c x ≡ c y
tied-same i same = refl
tied-same i (linked {x} {y} {k} {d} e) = i.links x k y d e
tied-same i (met {x} {y} k t) = i.meets x y k t
tied-same i (turned j) = sym (tied-same i j)
tied-same i (through h j) = tied-same i h ∙ tied-same i j

-- phase open
module _ {G : World} {M : Meaning} (i : Invariant G (state_of M)) where
  conn-tied : {k x y : ℕ} → Conn (state_of M) k x y → Tied M x y
  conn-tied crefl = same
  conn-tied (clink e) = linked e
  conn-tied {k = k} (cmeet t) = met k t
  conn-tied (csym c) = turned (conn-tied c)
  conn-tied (ctrans c e) = through (conn-tied c) (conn-tied e)

  open-tied : {x y : ℕ} → G.Seated x → G.Seated y → (G.comp x ≡ G.comp y) ↔ Tied M x y
  open-tied s t = (
    λ e. conn-tied (i.whole.conn (zero-pair G s t e)),
    tied-same (record { links = λ x k y d e. (i.proper.link-pair e).same; meets = λ x y k p. (ok-pair (i.proper.pend-ok p)).same }),
  )

-- phase clearing
module _ {G : World} {Stay : ℕ → Type 0} {L : Links} (M : Meaning) (stay : (z : ℕ) → Dec (Stay z)) (a : AllLinks G Stay L)
    (c : Clearing G Stay L (state_of M)) where
  -- the links before the turn, with nothing pending
  abbrev before : State
  before = record { link = L; pend = λ m. ⊥ }

  exact : (k : ℕ) → Exact G before k
  exact k = record { next = λ e. record { pair = a.pair e; side = a.side e; least = a.least e }; last = λ e. a.last e }

  -- the target of a lot whose neighbour stays is the neighbour
  target_is : {x k y : ℕ} {d : Side} {o : Option ℕ} → Stay y → L x k d ≡ some y → Target G Stay k x d o → o ≡ some y
  target_is {y = y} s e (nobody f) = absurd (f y (a.pair e) s (a.side e))
  target_is {x} {k} {y} {d} s e (nearest {y = z} p t l f) = by (f y (a.pair e) s (a.side e)) (a.least e z p l)
    where
      by : (y ≡ z) ⊎ Lt G.num d z y → (z ≡ y) ⊎ Lt G.num d y z → some z ≡ some y
      by (inl q) r = ap some (sym q)
      by (inr m) (inl q) = ap some q
      by (inr m) (inr n) = absurd (lt-asym m n)

  -- a link before the turn: from a leaver it is there; from a staying lot it is there, or is the target, or the leaver at its end has it
  link-tied : {x k y : ℕ} {d : Side} → L x k d ≡ some y → Tied M x y
  link-tied {x} {k} {y} {d} e = by (stay x) (stay y)
    where
      stayer : Stay x → Stay y → (M.link x k d ≡ L x k d) ⊎ Target G Stay k x d (M.link x k d) → Tied M x y
      stayer s t (inl f) = linked (f ∙ e)
      stayer s t (inr f) = linked (target_is t e f)

      by : Dec (Stay x) → Dec (Stay y) → Tied M x y
      by (no n) u = linked (c.leaver x k d n ∙ e)
      by (yes s) (no n) = turned (linked (c.leaver y k (opp d) n ∙ (exact-sym exact).back e))
      by (yes s) (yes t) = stayer s t (c.stayer x k d s)

  before-tied : {k x y : ℕ} → Conn before k x y → Tied M x y
  before-tied crefl = same
  before-tied (clink e) = link-tied e
  before-tied (cmeet t) = absurd t
  before-tied (csym b) = turned (before-tied b)
  before-tied (ctrans b e) = through (before-tied b) (before-tied e)

  target-same : {x k y : ℕ} {d : Side} {o : Option ℕ} → Target G Stay k x d o → o ≡ some y → G.comp x ≡ G.comp y
  target-same (nobody f) e = none-some refl e
  target-same (nearest p s l f) e = p.same ∙ ap G.comp (some_inj e)

  link-same : {x k y : ℕ} {d : Side} → M.link x k d ≡ some y → G.comp x ≡ G.comp y
  link-same {x} {k} {y} {d} e = by (stay x)
    where
      stayer : (M.link x k d ≡ L x k d) ⊎ Target G Stay k x d (M.link x k d) → G.comp x ≡ G.comp y
      stayer (inl f) = (a.pair (sym f ∙ e)).same
      stayer (inr f) = target-same f e

      by : Dec (Stay x) → G.comp x ≡ G.comp y
      by (yes s) = stayer (c.stayer x k d s)
      by (no n) = (a.pair (sym (c.leaver x k d n) ∙ e)).same

  no-meet : {x y k : ℕ} → Ok G Stay (meet x y k) → ⊥
  no-meet = elim [ ]

  clearing-tied : {x y : ℕ} → G.Seated x → G.Seated y → (G.comp x ≡ G.comp y) ↔ Tied M x y
  clearing-tied s t = (
    λ e. before-tied ((exact-whole (exact 0)).conn (zero-pair G s t e)),
    tied-same (record { links = λ x k y d e. link-same e; meets = λ x y k p. absurd (no-meet (c.ok p)) }),
  )

-- at every time
pub reached-tied : {c : ℕ → ℕ} {N W : ℕ} {M : Meaning} → Reached c N W M → (x y : ℕ) → T (seated M.seats x) → T (seated M.seats y)
    → (c x ≡ c y) ↔ Tied M x y
reached-tied {c} {N} {W} {M} g x y s t = by g.sane
  where
    l : Laws M.seats
    l = sound-laws g.sound

    by : {p : Phase} → Sane c W M p → (c x ≡ c y) ↔ Tied M x y
    by (in_open i) = open-tied (i l) s t
    by (in-clearing L a i) = clearing-tied M (λ z. dec-T (stays M.seats z)) (a l) (i l) s t
