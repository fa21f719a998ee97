-- Sums over the numbers below n, and the mass of a set of messages, the sum of their ranks: its change when one is struck and some
-- are sent. Assumes nothing.
use Prim.Native.Nat.{ℕ, zero, suc, ◌+◌, ◌≤◌, ◌<◌}
use mathlib.Core.Path.{◌≡◌, refl, sym, ◌∙◌, ap}
use mathlib.Core.Logic.{◌⊎◌, inl, inr, ⊎_map, ◌≢◌}
use mathlib.Core.Bool.{Bool, true, false, ◌||◌}
use mathlib.Core.List.{List, [], ◌∷◌, Memᴰ}
use native.Mathlib.Omega.{arith}
use native.Mathlib.Decide.{ℕ_discrete}
use lib.Dec.{T}
use Rattle.base.proofs.Tests.{dec-T}
use Rattle.protocol.specs.Message.{Msg, same_msg, among}
use Rattle.protocol.specs.Numbering.{exists, count, place, message_at}
use Rattle.protocol.proofs.Message.{same-eq, same_self, mem-among}
use Rattle.protocol.proofs.Numbering.{place-lt, message_at-place, exists-message_at, place-message_at}

-- the sum of f i for i below n
unfoldable pub sum : ℕ → (ℕ → ℕ) → ℕ
sum zero f = 0
sum (suc n) f = sum n f + f n

pub sum-add : (n : ℕ) (f g : ℕ → ℕ) → sum n (λ i. f i + g i) ≡ sum n f + sum n g
unfolding sum
sum-add zero f g = refl
sum-add (suc n) f g = omega (arith, sum-add n f g)

pub sum-le : (n : ℕ) (f g : ℕ → ℕ) → ((i : ℕ) → i < n → g i ≤ f i) → sum n g ≤ sum n f
unfolding sum
sum-le zero f g h = omega arith
sum-le (suc n) f g h = omega (arith, sum-le n f g (λ i l. h i (omega arith)), h n (omega arith))

pub sum_less : (n : ℕ) (f g : ℕ → ℕ) → ((i : ℕ) → i < n → g i ≤ f i) → (j : ℕ) → j < n → g j < f j → sum n g < sum n f
unfolding sum
sum_less zero f g h j l s = absurd (omega arith)
sum_less (suc n) f g h j l s = by (ℕ_discrete j n) (sum-le n f g below) (λ k. sum_less n f g below j k s)
  where
    below : (i : ℕ) → i < n → g i ≤ f i
    below i k = h i (omega arith)

    by : Dec (j ≡ n) → sum n g ≤ sum n f → (j < n → sum n g < sum n f) → sum n g + g n < sum n f + f n
    by (yes e) ih k = let t : g n < f n = rw (sym e) s in omega arith
    by (no e) ih k = omega (arith, k (omega arith), h n (omega arith))

pub sum-zero : (n : ℕ) (f : ℕ → ℕ) → ((i : ℕ) → i < n → f i ≡ 0) → sum n f ≡ 0
unfolding sum
sum-zero zero f h = refl
sum-zero (suc n) f h = omega (arith, sum-zero n f (λ i l. h i (omega arith)), h n (omega arith))

-- a sum with one place that counts
pub sum-at : (n : ℕ) (f : ℕ → ℕ) (j : ℕ) → j < n → ((i : ℕ) → i < n → i ≢ j → f i ≡ 0) → sum n f ≡ f j
unfolding sum
sum-at zero f j l h = absurd (omega arith)
sum-at (suc n) f j l h = by (ℕ_discrete j n) (λ k. sum-at n f j k (λ i m. h i (omega arith)))
  where
    by : Dec (j ≡ n) → (j < n → sum n f ≡ f j) → sum n f + f n ≡ f j
    by (yes e) ih = omega (arith, ap f e, sum-zero n f (λ i m. h i (omega arith) (omega arith)))
    by (no e) ih = omega (arith, ih (omega arith), h n (omega arith) (λ q. e (sym q)))

-- what counts only where a test passes
abbrev pub weigh : Bool → ℕ → ℕ
weigh true r = r
weigh false r = 0

weigh-true : (b : Bool) (r : ℕ) → T b → weigh b r ≡ r
weigh-true true r t = refl
weigh-true false r t = absurd t

weigh-false : (b : Bool) (r : ℕ) → (T b → ⊥) → weigh b r ≡ 0
weigh-false true r f = absurd (f tt)
weigh-false false r f = refl

weigh-or : (a b : Bool) (r : ℕ) → weigh (a || b) r ≤ weigh a r + weigh b r
weigh-or true b r = omega arith
weigh-or false b r = omega arith

-- what counts after and what was struck both counted before, or were sent
weigh-step : (after struck before sent : Bool) (r : ℕ) → (T after → (T before × (T struck → ⊥)) ⊎ T sent) → (T struck → T before)
    → weigh after r + weigh struck r ≤ weigh before r + weigh sent r
weigh-step false false b s r h k = omega arith
weigh-step false true b s r h k = omega (arith, weigh-true b r (k tt))
weigh-step true false b s r h k = by (h tt)
  where
    by : (T b × (⊥ → ⊥)) ⊎ T s → r + 0 ≤ weigh b r + weigh s r
    by (inl t) = omega (arith, weigh-true b r t.0)
    by (inr t) = omega (arith, weigh-true s r t)
weigh-step true true b s r h k = by (h tt)
  where
    by : (T b × (Unit {0} → ⊥)) ⊎ T s → r + r ≤ weigh b r + weigh s r
    by (inl t) = absurd (t.1 tt)
    by (inr t) = omega (arith, weigh-true b r (k tt), weigh-true s r t)

-- the ranks of a list
unfoldable pub total : (Msg → ℕ) → List Msg → ℕ
total r [] = 0
total r (m ∷ l) = r m + total r l

module _ (N W : ℕ) (rank : Msg → ℕ) where
  -- the ranks of the messages that exist and pass
  unfoldable pub mass : (Msg → Bool) → ℕ
  mass p = sum (count N W) (λ i. weigh (p (message_at N W i)) (rank (message_at N W i)))

  mass-or : (p q : Msg → Bool) → mass (λ m. p m || q m) ≤ mass p + mass q
  unfolding mass
  mass-or p q = rw (← sum-add) (sum-le _ _ _ (λ i l. weigh-or (p (message_at N W i)) (q (message_at N W i)) (rank (message_at N W i))))

  -- one message
  mass-one : (m : Msg) → T (exists N W m) → mass (same_msg m) ≡ rank m
  unfolding mass
  mass-one m x =
      sum-at _ _ (place N W m) (place-lt N W m x) elsewhere
      ∙ rw (message_at-place N W m x) (weigh-true (same_msg m m) (rank m) (same_self m))
    where
      elsewhere : (i : ℕ) → i < count N W → i ≢ place N W m → weigh (same_msg m (message_at N W i)) (rank (message_at N W i)) ≡ 0
      elsewhere i l ne = weigh-false (same_msg m (message_at N W i)) _ (λ t. ne (cc (place-message_at N W i l, same-eq m _ t)))

  mass-same : (m : Msg) → mass (same_msg m) ≤ rank m
  unfolding mass
  mass-same m = by (dec-T (exists N W m))
    where
      by : Dec (T (exists N W m)) → mass (same_msg m) ≤ rank m
      by (yes x) = omega (arith, mass-one m x)
      by (no f) =
          let ne : (i : ℕ) → i < count N W → T (same_msg m (message_at N W i)) → ⊥ = λ i l t. f (rw (same-eq m _ t) (exists-message_at N W i l)) in
          let e : mass (same_msg m) ≡ 0 = sum-zero _ _ (λ i l. weigh-false (same_msg m (message_at N W i)) _ (ne i l)) in
          omega arith

  mass-among : (l : List Msg) → mass (among l) ≤ total rank l
  unfolding mass total among
  mass-among [] = omega (arith, sum-zero (count N W) (λ i. 0) (λ i l. refl))
  mass-among (m ∷ l) = omega (arith, mass-or (same_msg m) (among l), mass-same m, mass-among l)

  -- m is struck, and at most the messages of l are sent
  pub mass-step : (p p' : Msg → Bool) (m : Msg) (l : List Msg) → T (exists N W m) → T (p m)
      → ((n : Msg) → T (p' n) → (T (p n) × (n ≢ m)) ⊎ Memᴰ n l) → mass p' + rank m ≤ mass p + total rank l
  unfolding mass
  mass-step p p' m l x t h = omega (arith, mass-one m x, mass-among l, all)
    where
      at : (n : Msg) → weigh (p' n) (rank n) + weigh (same_msg m n) (rank n) ≤ weigh (p n) (rank n) + weigh (among l n) (rank n)
      at n = weigh-step (p' n) (same_msg m n) (p n) (among l n) (rank n)
          (λ u. ⊎_map (λ o. (o.0, λ e. o.1 (sym (same-eq m n e)))) (mem-among l) (h n u))
          (λ u. rw (sym (same-eq m n u)) t)

      all : mass p' + mass (same_msg m) ≤ mass p + mass (among l)
      all = rw (← sum-add, ← sum-add) (sum-le _ _ _ (λ i k. at (message_at N W i)))
