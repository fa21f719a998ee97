-- The smallest pending message at or after five given numbers (specs/Order.antt): it is pending and not before them, and no other such
-- message comes before it; there is none exactly if no message is such; and it stands at the first place that is, since places ascend with the
-- numbers. Assumes nothing.
use Prim.Native.Nat.{ℕ, zero, suc, ◌≤◌, ◌<◌}
use mathlib.Core.Path.{◌≡◌, refl, sym, ◌∙◌, ap}
use mathlib.Core.Logic.{◌↔◌, ◌⊎◌, inl, inr, ⊎_elim}
use mathlib.Core.Option.{Option, none, some}
use mathlib.Core.Bool.{Bool, true, false, not, cond, ◌&&◌}
use native.Mathlib.Omega.{arith}
use lib.Dec.{T, eqb, ltb}
use borrow.Author.Tests.{lt-ltb, le-ltb, not-true}
use Rattle.base.proofs.Tests.{T_true, true-false, not-T-false}
use Rattle.base.proofs.Cases.{lt-or-ge, eq-or-ne, and-true, and-false, and_left, and_right}
use Rattle.protocol.specs.Message.{Msg, meet, probe, pull, going, seek, found, none_found, Name, name, name_of}
use Rattle.protocol.specs.Numbering.{exists, count, place, message_at}
use Rattle.protocol.specs.Order.{or_next, before, smaller, smallest_of, smallest_from, smallest, name_or_zeros}
use Rattle.protocol.specs.inner.PlaceFrom.{place_from}
use Rattle.protocol.proofs.Numbering.{place-lt, message_at-place, exists-message_at, place-message_at}
use Rattle.protocol.proofs.DigitOrder.{compared, or-next-lt, or-next-gt, or-next-eq}
use Rattle.protocol.proofs.PlaceOrder.{place-ascends, at-ascends, place-from, place_from-le}

module _ (N W : ℕ) where
  -- place i is the first of all whose message passes
  record First (q : Msg → Bool) (i : ℕ) : Type 0 where
    within : i < count N W
    passes : q (message_at N W i) ≡ true
    none_below : (j : ℕ) → j < i → q (message_at N W j) ≡ false

  -- what the smallest of the first i places is: none passes, or the first that does
  abbrev Found : (q : Msg → Bool) → (i : ℕ) → Option Msg → Type 0
  Found q i none = (j : ℕ) → j < i → q (message_at N W j) ≡ false
  Found q i (some m) = (r : ℕ) × (r < i) × First q r × (m ≡ message_at N W r)

  module _ (q : Msg → Bool) where
    -- one place more, whose message does not pass, or does
    fails_more : (o : Option Msg) (i : ℕ) → q (message_at N W i) ≡ false → Found q i o → Found q (suc i) o
    fails_more none i e f = λ j h. ⊎_elim (λ (z : j ≡ i). rw z e) (λ z. f j (omega (arith, z))) (eq-or-ne j i)
    fails_more (some m) i e (r, h, g, s) = (r, omega arith, g, s)

    passes-more : (o : Option Msg) (i : ℕ) → i < count N W → q (message_at N W i) ≡ true → Found q i o
        → Found q (suc i) (smaller o (message_at N W i))
    unfolding smaller
    passes-more none i l e f = (i, omega arith, record { within = l; passes = e; none_below = f }, refl)
    passes-more (some m) i l e (r, h, g, s) =
        let no : before (name_of (message_at N W i)) (name_of m) ≡ false
        = rw s (at-ascends N W i r l g.within ∙ le-ltb i r (omega arith)) in
        rw no (r, omega arith, g, s)

    first_found : (i : ℕ) → i ≤ count N W → Found q i (smallest_of N W q i)
    unfolding smallest_of
    first_found zero l = λ j h. absurd (omega arith)
    first_found (suc i) l = by (q (message_at N W i)) refl (first_found i (omega arith))
      where
        by : (b : Bool) → q (message_at N W i) ≡ b → Found q i (smallest_of N W q i)
            → Found q (suc i) (cond b (smaller (smallest_of N W q i) (message_at N W i)) (smallest_of N W q i))
        by true e f = passes-more (smallest_of N W q i) i (omega arith) e f
        by false e f = fails_more (smallest_of N W q i) i e f

  -- m is the smallest message with p at or after n
  pub record Smallest (p : Msg → Bool) (n : Name) (m : Msg) : Type 0 where
    pub there : T (exists N W m)
    pub passes : p m ≡ true
    pub not-before : before (name_of m) n ≡ false
    pub least : (k : Msg) → T (exists N W k) → p k ≡ true → before (name_of k) n ≡ false → before (name_of k) (name_of m) ≡ false

  module _ (p : Msg → Bool) (n : Name) where
    -- passes p and is not before n
    abbrev test : Msg → Bool
    test m = p m && not (before (name_of m) n)

    test-true : (m : Msg) → p m ≡ true → before (name_of m) n ≡ false → test m ≡ true
    test-true m e f = rw (e, f)

    -- at a place from the first on that is not before n, it is p
    test_at : (i : ℕ) → place_from N W n ≤ i → i < count N W → test (message_at N W i) ≡ p (message_at N W i)
    test_at i h l = rw (place-from N W n i l, le-ltb i (place_from N W n) h, and-true (p (message_at N W i)))

    test_below : (i : ℕ) → i < place_from N W n → test (message_at N W i) ≡ false
    test_below i h =
        let l : i < count N W = omega (arith, place_from-le N W n) in
        and-false (p (message_at N W i)) (not (before (name_of (message_at N W i)) n)) (rw (place-from N W n i l, lt-ltb i (place_from N W n) h))

    -- the smallest of all is at the first place that passes
    at_first : {m : Msg} → smallest_from N W p n ≡ some m → (r : ℕ) × First test r × (m ≡ message_at N W r)
    unfolding smallest_from
    at_first {m} e = let f = rw e at (first_found test (count N W) (omega arith)) in (f.0, f.2, f.3)

    at_none : smallest_from N W p n ≡ none → (j : ℕ) → j < count N W → test (message_at N W j) ≡ false
    unfolding smallest_from
    at_none e = rw e at (first_found test (count N W) (omega arith))

    -- two first places are one
    first-once : {i j : ℕ} → First test i → First test j → i ≡ j
    first-once {i} {j} f g = ⊎_elim
        (λ h. true-false f.passes (g.none_below i h))
        (λ h. ⊎_elim (λ k. true-false g.passes (f.none_below j k)) (λ k. omega arith) (lt-or-ge j i))
        (lt-or-ge i j)

    first-smallest : {i : ℕ} → First test i → smallest_from N W p n ≡ some (message_at N W i)
    first-smallest {i} f = by (smallest_from N W p n) refl
      where
        by : (o : Option Msg) → smallest_from N W p n ≡ o → o ≡ some (message_at N W i)
        by none e = true-false f.passes (at_none e i f.within)
        by (some m) e = let g = at_first e in ap some (g.2 ∙ ap (message_at N W) (first-once g.1 f))

    -- it is the message at the first place that passes p, from the first place on that is not before n
    pub smallest-first : (i : ℕ) → place_from N W n ≤ i → i < count N W → p (message_at N W i) ≡ true
        → ((j : ℕ) → place_from N W n ≤ j → j < i → p (message_at N W j) ≡ false) → smallest_from N W p n ≡ some (message_at N W i)
    smallest-first i h l e f = first-smallest (record {
      within = l;
      passes = test_at i h l ∙ e;
      none_below = λ j k. ⊎_elim (λ z. test_below j z) (λ z. test_at j z (omega arith) ∙ f j z k) (lt-or-ge j (place_from N W n));
    })

    pub none_first : ((j : ℕ) → place_from N W n ≤ j → j < count N W → p (message_at N W j) ≡ false) → smallest_from N W p n ≡ none
    none_first f = by (smallest_from N W p n) refl
      where
        by : (o : Option Msg) → smallest_from N W p n ≡ o → o ≡ none
        by none e = refl
        by (some m) e =
            let g = at_first e in
            let r = g.0 in
            let l = g.1.within in
            ⊎_elim
            (λ z. true-false g.1.passes (test_below r z))
            (λ z. true-false (sym (test_at r z l) ∙ g.1.passes) (f r z l))
            (lt-or-ge r (place_from N W n))

    -- what it is by the numbers alone
    pub smallest-some : {m : Msg} → smallest_from N W p n ≡ some m → Smallest p n m
    smallest-some {m} e =
        let g = at_first e in
        let r = g.0 in
        let x : T (exists N W m) = rw g.2 (exists-message_at N W r g.1.within) in
        let t : test m ≡ true = rw g.2 g.1.passes in
        record {
          there = x;
          passes = and_left (p m) (not (before (name_of m) n)) t;
          not-before = not-true (before (name_of m) n) (and_right (p m) (not (before (name_of m) n)) t);
          least = λ k y q b. ⊎_elim
              (λ h. true-false (test-true k q b) (rw (message_at-place N W k y) at (g.1.none_below (place N W k) h)))
              (λ h. place-ascends N W k m y x ∙ le-ltb (place N W k) (place N W m) (rw (g.2, place-message_at N W r g.1.within) h))
              (lt-or-ge (place N W k) r);
        }

    pub some-smallest : {m : Msg} → Smallest p n m → smallest_from N W p n ≡ some m
    some-smallest {m} s =
        rw (message_at-place N W m s.there) at (first-smallest (record {
          within = place-lt N W m s.there;
          passes = rw (message_at-place N W m s.there) (test-true m s.passes s.not-before);
          none_below = λ j h. before-fails j h;
        }))
      where
        before-fails : (j : ℕ) → j < place N W m → test (message_at N W j) ≡ false
        before-fails j h =
            let k = message_at N W j in
            let l : j < count N W = omega (arith, place-lt N W m s.there) in
            let y = exists-message_at N W j l in
            let up = place-ascends N W k m y s.there ∙ lt-ltb (place N W k) (place N W m) (rw (place-message_at N W j l) h) in
            not-T-false (λ t.
            let e = T_true t in
            true-false up (s.least k y (and_left (p k) (not (before (name_of k) n)) e)
            (not-true (before (name_of k) n) (and_right (p k) (not (before (name_of k) n)) e))))

    -- there is none exactly if no message that exists passes at or after n
    pub smallest-none : smallest_from N W p n ≡ none → (m : Msg) → T (exists N W m) → before (name_of m) n ≡ false → p m ≡ false
    smallest-none e m x b =
        let f = rw (message_at-place N W m x) at (at_none e (place N W m) (place-lt N W m x)) in
        not-T-false (λ t. true-false (test-true m (T_true t) b) f)

    pub none-smallest : ((m : Msg) → T (exists N W m) → before (name_of m) n ≡ false → p m ≡ false) → smallest_from N W p n ≡ none
    none-smallest f = none_first (λ j h l.
        f (message_at N W j) (exists-message_at N W j l) (place-from N W n j l ∙ le-ltb j (place_from N W n) h))

    -- any other comes after it
    pub others-after : {m : Msg} → Smallest p n m → (k : Msg) → T (exists N W k) → p k ≡ true → before (name_of k) n ≡ false
        → (k ≡ m) ⊎ (before (name_of m) (name_of k) ≡ true)
    others-after {m} s k y q b = ⊎_elim
        (λ h. inr (place-ascends N W m k s.there y ∙ lt-ltb (place N W m) (place N W k) h))
        (λ h. ⊎_elim
        (λ g. true-false (place-ascends N W k m y s.there ∙ lt-ltb (place N W k) (place N W m) g) (s.least k y q b))
        (λ g.
        let e : place N W k ≡ place N W m = omega arith in
        inl (sym (message_at-place N W k y) ∙ ap (message_at N W) e ∙ message_at-place N W m s.there))
        (lt-or-ge (place N W k) (place N W m)))
        (lt-or-ge (place N W m) (place N W k))

-- kind 0 says that there is none
pub zero-kind : (o : Option Msg) → (name_or_zeros o).kind ≡ 0 → name_or_zeros o ≡ name 0 0 0 0 0
unfolding name_or_zeros
zero-kind none e = refl
zero-kind (some (meet t a l)) e = absurd (omega arith)
zero-kind (some (probe t a l)) e = absurd (omega arith)
zero-kind (some (pull t b l d)) e = absurd (omega arith)
zero-kind (some (going t l d)) e = absurd (omega arith)
zero-kind (some (seek t a l)) e = absurd (omega arith)
zero-kind (some (found t a l)) e = absurd (omega arith)
zero-kind (some (none_found t l d)) e = absurd (omega arith)

-- nothing is before five zeros
or-next-zero : (a : ℕ) {x : Bool} → x ≡ false → or_next a 0 x ≡ false
unfolding or_next
or-next-zero a e = rw (le-ltb a 0 (omega arith), e) (and-false (eqb a 0) false refl)

pub before-zeros : (m : Name) → before m (name 0 0 0 0 0) ≡ false
unfolding before
before-zeros m =
    or-next-zero m.kind (or-next-zero m.to (or-next-zero m.about (or-next-zero m.level (le-ltb m.side 0 (omega arith)))))

module _ (N W : ℕ) where
  -- the smallest of all
  pub record SmallestOfAll (p : Msg → Bool) (m : Msg) : Type 0 where
    pub there : T (exists N W m)
    pub passes : p m ≡ true
    pub least : (k : Msg) → T (exists N W k) → p k ≡ true → before (name_of k) (name_of m) ≡ false

  pub smallest-all : (p : Msg → Bool) (m : Msg) → (smallest N W p ≡ some m) ↔ SmallestOfAll p m
  smallest-all p m = (
    λ e. let s = smallest-some N W p (name 0 0 0 0 0) e in
        record { there = s.there; passes = s.passes; least = λ k x q. s.least k x q (before-zeros (name_of k)) },
    λ s. some-smallest N W p (name 0 0 0 0 0) (record {
      there = s.there;
      passes = s.passes;
      not-before = before-zeros (name_of m);
      least = λ k x q b. s.least k x q;
    }),
  )

  pub none-all : (p : Msg → Bool) → (smallest N W p ≡ none) ↔ ((m : Msg) → T (exists N W m) → p m ≡ false)
  none-all p = (
    λ e m x. smallest-none N W p (name 0 0 0 0 0) e m x (before-zeros (name_of m)),
    λ f. none-smallest N W p (name 0 0 0 0 0) (λ m x b. f m x),
  )

-- the numbers with the side one higher: nothing lies between, so what is not before them comes after n
abbrev pub following : Name → Name
following n = name n.kind n.to n.about n.level (suc n.side)

or-next-not : (a b : ℕ) (x : Bool) → or_next a b (not x) ≡ not (or_next b a x)
or-next-not a b x = compared a b
    (λ h. or-next-lt (not x) h ∙ ap not (sym (or-next-gt x h)))
    (λ h. or-next-gt (not x) h ∙ ap not (sym (or-next-lt x h)))
    (λ h. or-next-eq (not x) h ∙ ap not (sym (or-next-eq x (sym h))))

pub before-following : (m n : Name) → before m (following n) ≡ not (before n m)
unfolding before
before-following m n =
    let s : ltb m.side (suc n.side) ≡ not (ltb n.side m.side) = ⊎_elim
    (λ h. le-ltb m.side (suc n.side) (omega arith) ∙ ap not (sym (lt-ltb n.side m.side h)))
    (λ h. lt-ltb m.side (suc n.side) (omega arith) ∙ ap not (sym (le-ltb n.side m.side h)))
    (lt-or-ge n.side m.side) in
    rw (s, or-next-not m.level n.level, or-next-not m.about n.about, or-next-not m.to n.to, or-next-not m.kind n.kind)
