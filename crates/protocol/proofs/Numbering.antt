-- The numbering is one-to-one between the messages that exist and the numbers below their count, for any number of seats and any width.
-- Assumes nothing.
use Prim.Native.Nat.{ℕ, zero, suc, ◌+◌, ◌-◌, ◌*◌, ◌/◌, ◌%◌, ◌<◌}
use mathlib.Core.Path.{◌≡◌, refl, ◌∙◌, subst}
use mathlib.Core.Bool.{Bool, true, false, cond, ◌&&◌}
use native.Mathlib.Omega.{arith}
use native.Mathlib.Decide.{dec_lt}
use lib.Dec.{T, eqb, ltb, ltb→lt, lt→ltb}
use borrow.Author.Tests.{lt-ltb, le-ltb}
use Rattle.graph.specs.Side.{Side, left, right, side_number}
use Rattle.base.proofs.Tests.{and_T, and-fst, and-snd, false-T, not-T-false}
use Rattle.protocol.specs.Message.{Msg, meet, probe, pull, going, seek, found, none_found, bit_number}
use Rattle.protocol.specs.Numbering.{pairs, pulls, sides, exists, count, place, pair_at, pull_at, side_at, split, message_at, some_pending}
use Rattle.base.proofs.Any.{any_none, none_any}
use Rattle.protocol.proofs.Digits.{high_digit, low_digit, digits_lt, digits_of}

-- a message exists: its numbers are in range
pub data Exists (N W : ℕ) : Msg → Type 0 where
  in_meet : {t a l : ℕ} → t < N → a < N → l < suc W → Exists N W (meet t a l)
  in_probe : {t a l : ℕ} → t < N → a < N → l < W → Exists N W (probe t a l)
  in_pull : {t l : ℕ} {b : Bool} {d : Side} → t < N → l < W → Exists N W (pull t b l d)
  in_going : {t l : ℕ} {d : Side} → t < N → l < suc W → Exists N W (going t l d)
  in_seek : {t a l : ℕ} → t < N → a < N → l < suc W → Exists N W (seek t a l)
  in_found : {t a l : ℕ} → t < N → a < N → l < suc W → Exists N W (found t a l)
  in_none_found : {t l : ℕ} {d : Side} → t < N → l < suc W → Exists N W (none_found t l d)

-- two tests at once, three tests at once
module _ (a A b B : ℕ) where
  both-lt : T (ltb a A && ltb b B) → (a < A) × (b < B)
  both-lt e = (ltb→lt a A (and-fst (ltb a A) _ e), ltb→lt b B (and-snd (ltb a A) _ e))

  lt_both : a < A → b < B → T (ltb a A && ltb b B)
  lt_both p q = and_T (ltb a A) (ltb b B) (lt→ltb a A p) (lt→ltb b B q)

module _ (a A b B c C : ℕ) where
  three-lt : T (ltb a A && (ltb b B && ltb c C)) → (a < A) × (b < B) × (c < C)
  three-lt e = let h = both-lt b B c C (and-snd (ltb a A) _ e) in (ltb→lt a A (and-fst (ltb a A) _ e), h.0, h.1)

  lt-three : a < A → b < B → c < C → T (ltb a A && (ltb b B && ltb c C))
  lt-three p q r = and_T (ltb a A) _ (lt→ltb a A p) (lt_both b B c C q r)

module _ (N W : ℕ) where
  pub exists-in : (m : Msg) → T (exists N W m) → Exists N W m
  unfolding exists
  exists-in (meet t a l) e = let h = three-lt t N a N l (suc W) e in in_meet h.0 h.1 h.2
  exists-in (probe t a l) e = let h = three-lt t N a N l W e in in_probe h.0 h.1 h.2
  exists-in (pull t b l d) e = let h = both-lt t N l W e in in_pull h.0 h.1
  exists-in (going t l d) e = let h = both-lt t N l (suc W) e in in_going h.0 h.1
  exists-in (seek t a l) e = let h = three-lt t N a N l (suc W) e in in_seek h.0 h.1 h.2
  exists-in (found t a l) e = let h = three-lt t N a N l (suc W) e in in_found h.0 h.1 h.2
  exists-in (none_found t l d) e = let h = both-lt t N l (suc W) e in in_none_found h.0 h.1

  pub in-exists : {m : Msg} → Exists N W m → T (exists N W m)
  unfolding exists
  in-exists (in_meet {t} {a} {l} p q r) = lt-three t N a N l (suc W) p q r
  in-exists (in_probe {t} {a} {l} p q r) = lt-three t N a N l W p q r
  in-exists (in_pull {t} {l} p r) = lt_both t N l W p r
  in-exists (in_going {t} {l} p r) = lt_both t N l (suc W) p r
  in-exists (in_seek {t} {a} {l} p q r) = lt-three t N a N l (suc W) p q r
  in-exists (in_found {t} {a} {l} p q r) = lt-three t N a N l (suc W) p q r
  in-exists (in_none_found {t} {l} p r) = lt_both t N l (suc W) p r

-- bits and sides as digits
abbrev side_as : ℕ → Side
side_as n = cond (eqb n 1) right left

pub bit_number-lt : (b : Bool) → bit_number b < 2
bit_number-lt true = omega arith
bit_number-lt false = omega arith

pub side_number-lt : (d : Side) → side_number d < 2
side_number-lt left = omega arith
side_number-lt right = omega arith

eqb-bit_number : (b : Bool) → eqb (bit_number b) 1 ≡ b
eqb-bit_number true = refl
eqb-bit_number false = refl

side_as-side_number : (d : Side) → side_as (side_number d) ≡ d
side_as-side_number left = refl
side_as-side_number right = refl

bit_number-eqb : (n : ℕ) → n < 2 → bit_number (eqb n 1) ≡ n
bit_number-eqb zero l = refl
bit_number-eqb (suc zero) l = refl
bit_number-eqb (suc (suc n)) l = absurd (omega arith)

side_number-side_as : (n : ℕ) → n < 2 → side_number (side_as n) ≡ n
side_number-side_as zero l = refl
side_number-side_as (suc zero) l = refl
side_number-side_as (suc (suc n)) l = absurd (omega arith)

module _ (N W : ℕ) where
  -- the first block of places, the later ones, and what holds of both
  module _ (n : ℕ) (f g : ℕ → Msg) where
    split-first : {i : ℕ} → i < n → split N W n f g i ≡ f i
    unfolding split
    split-first {i} l = rw (lt-ltb i n l)

    split-later : (i : ℕ) → split N W n f g (n + i) ≡ g i
    unfolding split
    split-later i = let e : n + i - n ≡ i = omega arith in rw (le-ltb (n + i) n (omega arith), e)

    split-all : (P : ℕ → Msg → Type 0) (k : ℕ) → ((i : ℕ) → i < n → P i (f i)) → ((i : ℕ) → i < k → P (n + i) (g i))
        → (i : ℕ) → i < n + k → P i (split N W n f g i)
    split-all P k p q i l = by (dec_lt i n)
      where
        by : Dec (i < n) → P i (split N W n f g i)
        by (yes h) = rw (split-first h) (p i h)
        by (no h) =
            let e : n + (i - n) ≡ i = omega arith in
            subst (λ (j : ℕ). P j (split N W n f g j)) e (rw (split-later (i - n)) (q (i - n) (omega arith)))

  -- digits of a message among those of its kind
  pair_lt : {t a l L : ℕ} → t < N → a < N → l < L → (t * N + a) * L + l < pairs N W L
  pair_lt p q r = digits_lt (digits_lt p q) r

  pull-lt : {t l : ℕ} (b : Bool) (d : Side) → t < N → l < W → ((t * 2 + bit_number b) * W + l) * 2 + side_number d < pulls N W
  pull-lt b d p r = digits_lt (digits_lt (digits_lt p (bit_number-lt b)) r) (side_number-lt d)

  side-lt : {t l : ℕ} (d : Side) → t < N → l < suc W → (t * suc W + l) * 2 + side_number d < sides N W
  side-lt d p r = digits_lt (digits_lt p r) (side_number-lt d)

  in-place-lt : {m : Msg} → Exists N W m → place N W m < count N W
  unfolding place
  in-place-lt (in_meet p q r) = omega (arith, pair_lt p q r)
  in-place-lt (in_probe p q r) = omega (arith, pair_lt p q r)
  in-place-lt (in_pull {b = b} {d = d} p r) = omega (arith, pull-lt b d p r)
  in-place-lt (in_going {d = d} p r) = omega (arith, side-lt d p r)
  in-place-lt (in_seek p q r) = omega (arith, pair_lt p q r)
  in-place-lt (in_found p q r) = omega (arith, pair_lt p q r)
  in-place-lt (in_none_found {d = d} p r) = omega (arith, side-lt d p r)

  pair_at-digits : (f : ℕ → ℕ → ℕ → Msg) (t : ℕ) {a l L : ℕ} → a < N → l < L → pair_at N W f L ((t * N + a) * L + l) ≡ f t a l
  unfolding pair_at
  pair_at-digits f t {a} {l} {L} q r = rw (high_digit (t * N + a) r, low_digit (t * N + a) r, high_digit t q, low_digit t q)

  pull_at-digits : (t : ℕ) (b : Bool) {l : ℕ} (d : Side) → l < W → pull_at N W (((t * 2 + bit_number b) * W + l) * 2 + side_number d) ≡ pull t b l d
  unfolding pull_at
  pull_at-digits t b {l} d r =
      let q = t * 2 + bit_number b in
      rw (high_digit (q * W + l) (side_number-lt d), low_digit (q * W + l) (side_number-lt d), high_digit q r, low_digit q r)
      (rw (high_digit t (bit_number-lt b), low_digit t (bit_number-lt b), eqb-bit_number b, side_as-side_number d))

  side_at-digits : (f : ℕ → ℕ → Side → Msg) (t : ℕ) {l : ℕ} (d : Side) → l < suc W
      → side_at N W f ((t * suc W + l) * 2 + side_number d) ≡ f t l d
  unfolding side_at
  side_at-digits f t {l} d r =
      let q = t * suc W + l in
      rw (high_digit q (side_number-lt d), low_digit q (side_number-lt d), high_digit t r, low_digit t r, side_as-side_number d)

  in-message_at-place : {m : Msg} → Exists N W m → message_at N W (place N W m) ≡ m
  unfolding message_at place
  in-message_at-place (in_meet {t} p q r) = split-first _ _ _ (pair_lt p q r) ∙ pair_at-digits meet t q r
  in-message_at-place (in_probe {t} p q r) = simp split-later (split-first _ _ _ (pair_lt p q r) ∙ pair_at-digits probe t q r)
  in-message_at-place (in_pull {t} {b = b} {d = d} p r) = simp split-later (split-first _ _ _ (pull-lt b d p r) ∙ pull_at-digits t b d r)
  in-message_at-place (in_going {t} {d = d} p r) = simp split-later (split-first _ _ _ (side-lt d p r) ∙ side_at-digits going t d r)
  in-message_at-place (in_seek {t} p q r) = simp split-later (split-first _ _ _ (pair_lt p q r) ∙ pair_at-digits seek t q r)
  in-message_at-place (in_found {t} p q r) = simp split-later (split-first _ _ _ (pair_lt p q r) ∙ pair_at-digits found t q r)
  in-message_at-place (in_none_found {t} {d = d} p r) = simp split-later (side_at-digits none_found t d r)

  -- what holds of every place of a block
  module _ (P : ℕ → Msg → Type 0) where
    pair_at-all : (f : ℕ → ℕ → ℕ → Msg) (L : ℕ) → ((t a l : ℕ) → t < N → a < N → l < L → P ((t * N + a) * L + l) (f t a l))
        → (i : ℕ) → i < pairs N W L → P i (pair_at N W f L i)
    unfolding pair_at
    pair_at-all f L p i h =
        let d = digits_of L (N * N) i h in
        let c = digits_of N N (i / L) d.0 in
        rw (c.2, d.2) at (p (i / L / N) (i / L % N) (i % L) c.0 c.1 d.1)

    side_at-all : (f : ℕ → ℕ → Side → Msg) → ((t l : ℕ) (s : Side) → t < N → l < suc W → P ((t * suc W + l) * 2 + side_number s) (f t l s))
        → (i : ℕ) → i < sides N W → P i (side_at N W f i)
    unfolding side_at
    side_at-all f p i h =
        let d = digits_of 2 (N * suc W) i h in
        let c = digits_of (suc W) N (i / 2) d.0 in
        rw (side_number-side_as (i % 2) d.1, c.2, d.2) at (p (i / 2 / suc W) (i / 2 % suc W) (side_as (i % 2)) c.0 c.1)

    pull_at-all : ((t l : ℕ) (b : Bool) (s : Side) → t < N → l < W → P (((t * 2 + bit_number b) * W + l) * 2 + side_number s) (pull t b l s))
        → (i : ℕ) → i < pulls N W → P i (pull_at N W i)
    unfolding pull_at
    pull_at-all p i h =
        let d = digits_of 2 (N * 2 * W) i h in
        let c = digits_of W (N * 2) (i / 2) d.0 in
        let a = digits_of 2 N (i / 2 / W) c.0 in
        rw (side_number-side_as (i % 2) d.1, bit_number-eqb (i / 2 / W % 2) a.1, a.2, c.2, d.2)
        at (p (i / 2 / W / 2) (i / 2 % W) (eqb (i / 2 / W % 2) 1) (side_as (i % 2)) a.0 c.1)

  -- the message at a place exists and has that place
  abbrev Stands : ℕ → Msg → Type 0
  Stands i m = Exists N W m × (place N W m ≡ i)

  stands : (i : ℕ) → i < count N W → Stands i (message_at N W i)
  unfolding message_at place
  stands =
      let after : ℕ → (ℕ → Msg → Type 0) → ℕ → Msg → Type 0 = λ n P i. P (n + i) in
      let P₂ = after (pairs N W (suc W)) Stands in
      let P₃ = after (pairs N W W) P₂ in
      let P₄ = after (pulls N W) P₃ in
      let P₅ = after (sides N W) P₄ in
      let P₆ = after (pairs N W (suc W)) P₅ in
      let P₇ = after (pairs N W (suc W)) P₆ in
      split-all _ _ _ Stands _ (pair_at-all Stands meet _ (λ t a l p q r. (in_meet p q r, refl)))
      (split-all _ _ _ P₂ _ (pair_at-all P₂ probe _ (λ t a l p q r. (in_probe p q r, refl)))
      (split-all _ _ _ P₃ _ (pull_at-all P₃ (λ t l b s p r. (in_pull p r, refl)))
      (split-all _ _ _ P₄ _ (side_at-all P₄ going (λ t l s p r. (in_going p r, refl)))
      (split-all _ _ _ P₅ _ (pair_at-all P₅ seek _ (λ t a l p q r. (in_seek p q r, refl)))
      (split-all _ _ _ P₆ _ (pair_at-all P₆ found _ (λ t a l p q r. (in_found p q r, refl)))
      (side_at-all P₇ none_found (λ t l s p r. (in_none_found p r, refl))))))))

  pub place-lt : (m : Msg) → T (exists N W m) → place N W m < count N W
  place-lt m e = in-place-lt (exists-in N W m e)

  pub message_at-place : (m : Msg) → T (exists N W m) → message_at N W (place N W m) ≡ m
  message_at-place m e = in-message_at-place (exists-in N W m e)

  pub exists-message_at : (i : ℕ) → i < count N W → T (exists N W (message_at N W i))
  exists-message_at i l = in-exists N W (stands i l).0

  pub place-message_at : (i : ℕ) → i < count N W → place N W (message_at N W i) ≡ i
  place-message_at i l = (stands i l).1

  pub message_at-once : (i j : ℕ) → i < count N W → j < count N W → message_at N W i ≡ message_at N W j → i ≡ j
  message_at-once i j l h e = cc (place-message_at i l, place-message_at j h)

-- a test of every place is a test of every message that exists
module _ (N W : ℕ) (p : Msg → Bool) where
  pub none-pending : some_pending N W p ≡ false → (m : Msg) → T (exists N W m) → p m ≡ false
  unfolding some_pending
  none-pending e m x = not-T-false (λ t. any_none _ _ e (place N W m) (place-lt N W m x) (rw (message_at-place N W m x) t))

  pub pending-none : ((m : Msg) → T (exists N W m) → p m ≡ false) → some_pending N W p ≡ false
  unfolding some_pending
  pending-none h = none_any _ _ (λ i l t. false-T (h (message_at N W i) (exists-message_at N W i l)) t)
