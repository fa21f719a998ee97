-- What rules and turns send, as a set: that a message is in a list, and that all messages of a list are so. `search` with one of the two sets
-- of facts below goes through head and rest, append, test, link and seats in whatever order a list names them. Assumes nothing.
use Prim.Native.Nat.{ℕ, zero, suc, ◌<◌}
use mathlib.Core.Path.{◌≡◌, refl, sym, subst}
use mathlib.Core.Logic.{◌⊎◌, inl, inr}
use mathlib.Core.Option.{Option, none, some}
use mathlib.Core.Bool.{Bool, true, false, cond}
use mathlib.Core.List.Memᴰ
use mathlib.Core.List.{List, [], ◌∷◌, ◌++◌, Memᴰ}
use native.Mathlib.Omega.{arith}
use native.Mathlib.Decide.{ℕ_discrete}
use lib.Dec.{T}
use Rattle.protocol.specs.Message.{Msg}
use Rattle.protocol.specs.Rules.{to_link}
use Rattle.protocol.specs.Page.{each}

-- a message is in a list
pub in_head : {m : Msg} {l : List Msg} → Memᴰ m (m ∷ l)
in_head = Memᴰ.head refl

pub in-yes : {m : Msg} (b : Bool) (l k : List Msg) → T b → Memᴰ m l → Memᴰ m (cond b l k)
in-yes true l k t h = h
in-yes false l k t h = absurd t

pub in-no : {m : Msg} (b : Bool) (l k : List Msg) → ¬ (T b) → Memᴰ m k → Memᴰ m (cond b l k)
in-no true l k n h = absurd (n tt)
in-no false l k n h = h

pub in-link : {m : Msg} (o : Option ℕ) (f : ℕ → Msg) (z : ℕ) → o ≡ some z → m ≡ f z → Memᴰ m (to_link o f)
unfolding to_link
in-link o f z e q = rw e (Memᴰ.head q)

pub ruleset is-sent = (in_head, Memᴰ.tail, Memᴰ.append_left, Memᴰ.append_right, in-yes, in-no, in-link)

pub in-each : {m : Msg} (n : ℕ) (f : ℕ → List Msg) (i : ℕ) → i < n → Memᴰ m (f i) → Memᴰ m (each n f)
unfolding each
in-each zero f i l h = absurd (omega arith)
in-each {m} (suc n) f i l h = by (ℕ_discrete i n) (λ k. in-each n f i k h)
  where
    by : Dec (i ≡ n) → (i < n → Memᴰ m (each n f)) → Memᴰ m (each (suc n) f)
    by (yes e) ih = let g : Memᴰ m (f n) = subst (λ (j : ℕ). Memᴰ m (f j)) e h in search is-sent
    by (no e) ih = let g : Memᴰ m (each n f) = ih (omega arith) in search is-sent

-- all messages of a list
pub data All (P : Msg → Type 0) : List Msg → Type 0 where
  all_none : All P []
  all_more : {m : Msg} {l : List Msg} → P m → All P l → All P (m ∷ l)

pub all-at : {P : Msg → Type 0} {n : Msg} {l : List Msg} → All P l → Memᴰ n l → P n
all-at all_none h = absurd (Memᴰ.not-nil h)
all-at {P} {n} (all_more {m} {l} p e) h = by (Memᴰ.cases_cons h) (λ q. all-at e q)
  where
    by : (n ≡ m) ⊎ Memᴰ n l → (Memᴰ n l → P n) → P n
    by (inl q) ih = subst P (sym q) p
    by (inr q) ih = ih q

pub all_both : {P Q : Msg → Type 0} {l : List Msg} → All P l → All (λ m. P m → Q m) l → All Q l
all_both all_none all_none = all_none
all_both (all_more p e) (all_more q f) = all_more (q p) (all_both e f)

pub all_append : {P : Msg → Type 0} (l k : List Msg) → All P l → All P k → All P (l ++ k)
all_append [] k all_none f = f
all_append (x ∷ l) k (all_more p e) f = all_more p (all_append l k e f)

pub all-cond : {P : Msg → Type 0} (b : Bool) (l k : List Msg) → (T b → All P l) → (¬ (T b) → All P k) → All P (cond b l k)
all-cond true l k f g = f tt
all-cond false l k f g = g (λ t. t)

pub all-link : {P : Msg → Type 0} (o : Option ℕ) (f : ℕ → Msg) → ((z : ℕ) → o ≡ some z → P (f z)) → All P (to_link o f)
unfolding to_link
all-link none f h = all_none
all-link (some z) f h = all_more (h z refl) all_none

pub all-each : {P : Msg → Type 0} (n : ℕ) (f : ℕ → List Msg) → ((i : ℕ) → i < n → All P (f i)) → All P (each n f)
unfolding each
all-each zero f h = all_none
all-each {P} (suc n) f h =
    let before : All P (each n f) = all-each n f (λ i l. h i (omega arith)) in
    let last : All P (f n) = h n (omega arith) in
    search all_append

pub ruleset all-sent = (all_none, all_more, all_append, all-cond, all-link, all-each)
