-- Soundness's tests as facts and back: two lots, a link, a message that fits its kind; and what a sound meaning says in these terms.
-- Assumes nothing.
use Prim.Native.Nat.{ℕ, suc, ◌≤◌, ◌<◌, suc-le-suc}
use mathlib.Core.Path.{◌≡◌, refl, sym, ◌∙◌, ap, subst}
use mathlib.Core.Logic.{◌⊎◌, inl, inr, ◌≢◌}
use mathlib.Core.Option.{Option, none, some}
use mathlib.Core.Bool.{Bool, true, false, not, ◌&&◌}
use mathlib.Core.List.{List, Memᴰ}
use native.Mathlib.Omega.{arith}
use lib.Dec.{T, eqb, ltb, T_not, not_T, eqb→eq, leb→le, le→leb, ltb→lt, lt→ltb}
use borrow.Author.Tests.{eq-eqb}
use Rattle.graph.specs.Side.{Side, side_of}
use Rattle.graph.specs.Vector.{shared}
use Rattle.base.proofs.Tests.{and_T, and-fst, and-snd, T_true, true-T, false-T, not-T-false}
use Rattle.graph.specs.inner.Order.{Lt}
use Rattle.graph.proofs.Order.{on-lt, lt-on, lt-some, side-of}
use Rattle.graph.proofs.Shared.{shared-le, shared-sym, shared-trans}
use Rattle.protocol.specs.Message.{Msg, meet, probe, pull, going, seek, found, none_found, among}
use Rattle.protocol.specs.Numbering.{exists}
use Rattle.protocol.specs.Rules.{SeatState, free, staying, leaving, reserved, is_staying}
use Rattle.protocol.specs.State.{Phase, open_phase, clearing, Seats, Meaning, is_clearing, is_free, is_seated, is_reserved, taken, seated, stays, held}
use Rattle.protocol.specs.Sound.{pair_ok, link_ok, message_ok, Sound}
use Rattle.protocol.specs.Page.{is_taken, pending_after}
use Rattle.protocol.proofs.Message.{among-mem}
use Rattle.protocol.proofs.Calls.{after-only}

both : (a b : Bool) → T (a && b) → T a × T b
both a b t = (and-fst a b t, and-snd a b t)

pub false-not : {b : Bool} → b ≡ false → T (not b)
false-not e = rw e tt

pub phase-open : (p : Phase) → T (not (is_clearing p)) → p ≡ open_phase
phase-open open_phase t = refl
phase-open clearing t = absurd t

pub phase-clearing : (p : Phase) → T (is_clearing p) → p ≡ clearing
phase-clearing open_phase t = absurd t
phase-clearing clearing t = refl

pub not-clearing : {p : Phase} → p ≡ open_phase → p ≡ clearing → ⊥
not-clearing e f = false-T (ap is_clearing (sym f ∙ e)) tt

pub stays-seated : (r : Seats) (x : ℕ) → T (stays r x) → T (seated r x)
stays-seated r x t = by (r.state x) t
  where
    by : (s : SeatState) → T (is_staying s) → T (is_seated s)
    by free t = t
    by staying t = t
    by leaving t = tt
    by reserved t = t

pub is_free_lem : (s : SeatState) → T (is_free s) → s ≡ free
is_free_lem free t = refl
is_free_lem staying t = absurd t
is_free_lem leaving t = absurd t
is_free_lem reserved t = absurd t

-- a seat with a lot is taken
pub seated-taken : (r : Seats) (x : ℕ) → T (seated r x) → T (taken r x)
seated-taken r x t = by (r.state x) t
  where
    by : (s : SeatState) → T (is_seated s) → T (not (is_free s))
    by free t = t
    by staying t = tt
    by leaving t = tt
    by reserved t = tt

pub seated-held : (r : Seats) (x : ℕ) → seated r x ≡ true → taken r x ≡ true
seated-held r x e = T_true (seated-taken r x (true-T e))

-- a reserved seat is taken, without a lot
pub held-taken : (r : Seats) (x : ℕ) → held r x ≡ true → taken r x ≡ true
held-taken r x e = by (r.state x) (true-T e)
  where
    by : (s : SeatState) → T (is_reserved s) → not (is_free s) ≡ true
    by free t = absurd t
    by staying t = absurd t
    by leaving t = absurd t
    by reserved t = refl

pub held-empty : (r : Seats) (x : ℕ) → held r x ≡ true → seated r x ≡ false
held-empty r x e = by (r.state x) (true-T e)
  where
    by : (s : SeatState) → T (is_reserved s) → is_seated s ≡ false
    by free t = absurd t
    by staying t = absurd t
    by leaving t = absurd t
    by reserved t = refl

-- who is not seated does not stay
pub empty-stays : (r : Seats) (x : ℕ) → seated r x ≡ false → stays r x ≡ false
empty-stays r x e = not-T-false (λ t. false-T e (stays-seated r x t))

-- a seat that is not taken has no lot
pub free-empty : (r : Seats) (x : ℕ) → taken r x ≡ false → seated r x ≡ false
free-empty r x e = not-T-false (λ t. false-T e (seated-taken r x t))

module _ (W : ℕ) (r : Seats) where
  -- two different seated lots that share at least k bits
  pub record Two (k x y : ℕ) : Type 0 where
    pub one : T (seated r x)
    pub two : T (seated r y)
    pub apart : x ≢ y
    pub bits : k ≤ shared W (r.vector x) (r.vector y)

  -- another lot on side d that shares k bits
  abbrev pub Linked : (x k : ℕ) (d : Side) (y : ℕ) → Type 0
  Linked x k d y = Two k x y × Lt r.number d x y

  -- a message that fits its kind, by phase
  pub data Proper : Phase → Msg → Type 0 where
    p-meet : {t a l : ℕ} → Two l t a → Proper open_phase (meet t a l)
    p-probe : {t a l : ℕ} → Two l t a → l < W → Proper open_phase (probe t a l)
    p-pull : {t l : ℕ} {b : Bool} {d : Side} → T (seated r t) → l < W → Proper open_phase (pull t b l d)
    p-going : {t l : ℕ} {d : Side} → T (seated r t) → l ≤ W → Proper clearing (going t l d)
    p-seek : {t a l : ℕ} → Two l t a → T (stays r a) → Proper clearing (seek t a l)
    p-found : {t a l : ℕ} → Two l t a → T (stays r t) → T (stays r a) → Proper clearing (found t a l)
    p-none : {t l : ℕ} {d : Side} → T (stays r t) → l ≤ W → Proper clearing (none_found t l d)

  pub pair-two : (k x y : ℕ) → T (pair_ok W r k x y) → Two k x y
  unfolding pair_ok
  pair-two k x y t =
      let (p, u) = both (seated r x) _ t in
      let (q, v) = both (seated r y) _ u in
      let (n, b) = both (not (eqb x y)) _ v in
      record { one = p; two = q; apart = λ e. T_not (eqb x y) n (true-T (eq-eqb x y e)); bits = leb→le _ _ b }

  pub two-pair : {k x y : ℕ} → Two k x y → T (pair_ok W r k x y)
  unfolding pair_ok
  two-pair {k} {x} {y} t =
      let differ = not_T (eqb x y) (λ e. t.apart (eqb→eq x y e)) in
      and_T (seated r x) _ t.one (and_T (seated r y) _ t.two (and_T (not (eqb x y)) _ differ (le→leb _ _ t.bits)))

  pub ok-linked : (x k : ℕ) (d : Side) (y : ℕ) → T (link_ok W r x k d y) → Linked x k d y
  unfolding link_ok
  ok-linked x k d y t = let p = both (pair_ok W r k x y) _ t in (pair-two k x y p.0, on-lt r.number d x y p.1)

  pub linked-ok : {x k y : ℕ} {d : Side} → Linked x k d y → T (link_ok W r x k d y)
  unfolding link_ok
  linked-ok {x} {k} {y} p = and_T (pair_ok W r k x y) _ (two-pair p.0) (lt-on r.number p.1)

  in_open : {m : Msg} → T (not (is_clearing r.phase)) → Proper open_phase m → Proper r.phase m
  in_open {m} t p = subst (λ (q : Phase). Proper q m) (sym (phase-open r.phase t)) p

  in-clearing : {m : Msg} → T (is_clearing r.phase) → Proper clearing m → Proper r.phase m
  in-clearing {m} t p = subst (λ (q : Phase). Proper q m) (sym (phase-clearing r.phase t)) p

  pub ok-proper : (m : Msg) → T (message_ok W r m) → Proper r.phase m
  unfolding message_ok
  ok-proper (meet t a l) u =
      let (o, q) = both (not (is_clearing r.phase)) _ u in
      in_open o (p-meet (pair-two l t a q))
  ok-proper (probe t a l) u =
      let (o, v) = both (not (is_clearing r.phase)) _ u in
      let (q, w) = both (pair_ok W r l t a) _ v in
      in_open o (p-probe (pair-two l t a q) (ltb→lt l W w))
  ok-proper (pull t b l d) u =
      let (o, v) = both (not (is_clearing r.phase)) _ u in
      let (q, w) = both (seated r t) _ v in
      in_open o (p-pull q (ltb→lt l W w))
  ok-proper (going t l d) u =
      let (c, v) = both (is_clearing r.phase) _ u in
      let (q, w) = both (seated r t) _ v in
      in-clearing c (p-going q (leb→le l W w))
  ok-proper (seek t a l) u =
      let (c, v) = both (is_clearing r.phase) _ u in
      let (q, w) = both (pair_ok W r l t a) _ v in
      in-clearing c (p-seek (pair-two l t a q) w)
  ok-proper (found t a l) u =
      let (c, v) = both (is_clearing r.phase) _ u in
      let (q, w) = both (pair_ok W r l t a) _ v in
      let (x, y) = both (stays r t) _ w in
      in-clearing c (p-found (pair-two l t a q) x y)
  ok-proper (none_found t l d) u =
      let (c, v) = both (is_clearing r.phase) _ u in
      let (q, w) = both (stays r t) _ v in
      in-clearing c (p-none q (leb→le l W w))

  pub proper-ok : {p : Phase} {m : Msg} → r.phase ≡ p → Proper p m → T (message_ok W r m)
  unfolding message_ok
  proper-ok e (p-meet t) = and_T (not (is_clearing r.phase)) _ (rw e tt) (two-pair t)
  proper-ok e (p-probe {t = x} {a} {l} t w) =
      and_T (not (is_clearing r.phase)) _ (rw e tt) (and_T (pair_ok W r l x a) _ (two-pair t) (lt→ltb l W w))
  proper-ok e (p-pull {t = x} {l} s w) = and_T (not (is_clearing r.phase)) _ (rw e tt) (and_T (seated r x) _ s (lt→ltb l W w))
  proper-ok e (p-going {t = x} {l} s w) = and_T (is_clearing r.phase) _ (rw e tt) (and_T (seated r x) _ s (le→leb l W w))
  proper-ok e (p-seek {t = x} {a} {l} t u) = and_T (is_clearing r.phase) _ (rw e tt) (and_T (pair_ok W r l x a) _ (two-pair t) u)
  proper-ok e (p-found {t = x} {a} {l} t u v) =
      and_T (is_clearing r.phase) _ (rw e tt) (and_T (pair_ok W r l x a) _ (two-pair t) (and_T (stays r x) _ u v))
  proper-ok e (p-none {t = x} {l} s w) = and_T (is_clearing r.phase) _ (rw e tt) (and_T (stays r x) _ s (le→leb l W w))

module _ {W : ℕ} {r : Seats} where
  pub two-sym : {k x y : ℕ} → Two W r k x y → Two W r k y x
  two-sym {x = x} {y = y} t = record {
    one = t.two;
    two = t.one;
    apart = λ e. t.apart (sym e);
    bits = rw (shared-sym W (r.vector y) (r.vector x)) t.bits;
  }

  -- two lots share through a third what each shares with it
  pub two-via : {k x y z : ℕ} → Two W r k y x → Two W r k y z → x ≢ z → Two W r k x z
  two-via {k} {x} {y} {z} t u ne = record {
    one = t.two;
    two = u.two;
    apart = ne;
    bits = shared-trans W k (r.vector x) (r.vector y) (r.vector z) (two-sym t).bits u.bits;
  }

  pub two-level : {k x y : ℕ} → Two W r k x y → k ≤ W
  two-level {x = x} {y = y} t = omega (arith, t.bits, shared-le W (r.vector x) (r.vector y))

-- what a sound meaning says
module _ {N W : ℕ} {M : Meaning} (h : Sound N W M) where
  pub link-linked : {x k y : ℕ} {d : Side} → M.link x k d ≡ some y → Linked W M.seats x k d y
  link-linked {x} {k} {y} {d} e = ok-linked W M.seats x k d y (h.links x k y d e)

  -- a seat without a lot has no links, a reserved one neither
  pub empty-unlinked : (x k : ℕ) (d : Side) → seated M.seats x ≡ false → M.link x k d ≡ none
  empty-unlinked x k d e = by (M.link x k d) refl
    where
      by : (o : Option ℕ) → M.link x k d ≡ o → o ≡ none
      by none q = refl
      by (some y) q = absurd (false-T e (link-linked q).0.one)

  pub pending-proper : {m : Msg} → T (M.pending m) → Proper W M.seats M.seats.phase m
  pending-proper {m} t = ok-proper W M.seats m (h.messages m t)

  -- one lies on the side of the other that their numbers tell
  pub two-lt : {k x y : ℕ} → Two W M.seats k x y → Lt M.seats.number (side_of (M.seats.number x) (M.seats.number y)) x y
  two-lt {x = x} {y = y} t =
      let same = h.differ x y (seated-taken M.seats x t.one) (seated-taken M.seats y t.two) in
      let (d, l) = lt-some M.seats.number x y (λ e. t.apart (same e)) in
      rw (side-of M.seats.number l) l

  -- a lot sits below N
  pub seated-below : (x : ℕ) → T (seated M.seats x) → x < N
  seated-below x s = h.seats x (seated-taken M.seats x s)

  -- the numbers of lots differ
  pub seated-differ : (x y : ℕ) → T (seated M.seats x) → T (seated M.seats y) → M.seats.number x ≡ M.seats.number y → x ≡ y
  seated-differ x y s t e = h.differ x y (seated-taken M.seats x s) (seated-taken M.seats y t) e

  seat-in : (x k L : ℕ) → T (seated M.seats x) → k < L → T (ltb x N && ltb k L)
  seat-in x k L s l = and_T (ltb x N) _ (lt→ltb x N (seated-below x s)) (lt→ltb k L l)

  pair-in : {k x y : ℕ} (L : ℕ) → Two W M.seats k x y → k < L → T (ltb x N && (ltb y N && ltb k L))
  pair-in {k} {x} {y} L t l = and_T (ltb x N) _ (lt→ltb x N (seated-below x t.one)) (seat-in y k L t.two l)

  proper-exists : {p : Phase} {m : Msg} → Proper W M.seats p m → T (exists N W m)
  unfolding exists
  proper-exists (p-meet t) = pair-in (suc W) t (suc-le-suc (two-level t))
  proper-exists (p-probe t w) = pair-in W t w
  proper-exists (p-pull {t} {l} s w) = seat-in t l W s w
  proper-exists (p-going {t} {l} s w) = seat-in t l (suc W) s (suc-le-suc w)
  proper-exists (p-seek t u) = pair-in (suc W) t (suc-le-suc (two-level t))
  proper-exists (p-found t u v) = pair-in (suc W) t (suc-le-suc (two-level t))
  proper-exists (p-none {t} {l} s w) = seat-in t l (suc W) (stays-seated M.seats t s) (suc-le-suc w)

  -- a sound pending message exists
  pub pending-exists : (m : Msg) → T (M.pending m) → T (exists N W m)
  pending-exists m t = proper-exists (pending-proper t)

-- what holds of the pending messages and of the sent ones holds of those pending after
pub pending-after : (P : Msg → Type 0) (sent : List Msg) (taken : Option Msg) (p : Msg → Bool)
    → ((m : Msg) → T (p m) → P m) → ((m : Msg) → Memᴰ m sent → P m) → (m : Msg) → T (pending_after sent taken p m) → P m
pending-after P sent taken p old new m t = by (after-only sent taken p m t)
  where
    by : (T (p m) × (T (is_taken taken m) → ⊥)) ⊎ T (among sent m) → P m
    by (inl q) = old m q.0
    by (inr q) = new m (among-mem sent q)
