-- Lists of deliveries and bundles (specs/Bundle.antt), over anything that calls are made of: a bundle delivers at most its limit, and fewer only
-- if nothing is left; a bundle of m + n is one of m and then one of n; and a list that only delivers spreads into deliveries. Assumes nothing.
use Prim.Native.Nat.{ℕ, zero, suc, ◌+◌, ◌≤◌, ◌<◌}
use mathlib.Core.Path.{◌≡◌, refl, sym, ap, ◌∙◌}
use mathlib.Core.Option.{Option, none, some}
use mathlib.Core.Bool.{Bool}
use mathlib.Core.List.{List, [], ◌∷◌, ◌++◌, map}
use native.Mathlib.Omega.{arith}
use native.Mathlib.Nat.{zero-add, suc-add}
use lib.ListN.{length, length-append}
use Rattle.protocol.specs.Message.{Msg, Name, name_of}
use Rattle.protocol.specs.Order.{smallest}
use Rattle.protocol.specs.Calls.{Call, deliver, Outcome, unless_refused}
use Rattle.protocol.specs.Run.{Standing, step, steps, accepted, AllAccepted}
use Rattle.protocol.specs.Bundle.{Item, one, bundle, onward, bundle_of, left_by, spread}

module _ {A : Type 0} (make : A → Call → Outcome A) where
  -- a list of accepted calls is counted whole
  pub all-counted : (a : A) (cs : List Call) → AllAccepted make a cs → accepted make a cs ≡ length cs
  unfolding accepted AllAccepted unless_refused
  all-counted a [] t = refl
  all-counted a (c ∷ cs) t = rw (t.0, all-counted (make a c).after cs t.1) (omega arith)

  length-deliveries : (ns : List Name) → length (map deliver ns) ≡ length ns
  length-deliveries [] = refl
  length-deliveries (n ∷ ns) = ap suc (length-deliveries ns)

  map-append : (ms ns : List Name) → map deliver (ms ++ ns) ≡ map deliver ms ++ map deliver ns
  map-append [] ns = refl
  map-append (m ∷ ms) ns = ap (λ (cs : List Call). deliver m ∷ cs) (map-append ms ns)

  pub deliveries-counted : (a : A) (ns : List Name) → AllAccepted make a (map deliver ns) → accepted make a (map deliver ns) ≡ length ns
  deliveries-counted a ns t = all-counted a (map deliver ns) t ∙ length-deliveries ns

  -- deliveries after deliveries
  pub left-append : (a : A) (ms ns : List Name) → left_by make a (ms ++ ns) ≡ left_by make (left_by make a ms) ns
  unfolding left_by
  left-append a [] ns = refl
  left-append a (m ∷ ms) ns = left-append (make a (deliver m)).after ms ns

  -- the messages of a bundle by what is the smallest
  module _ (N W : ℕ) (pending : A → Msg → Bool) where
    abbrev first : A → Option Msg
    first a = smallest N W (pending a)

    abbrev bundled : ℕ → A → List Name
    bundled n a = bundle_of make N W pending n a

    -- what a delivery leaves
    abbrev past : A → Msg → A
    past a m = (make a (deliver (name_of m))).after

    pub bundle-none : (n : ℕ) (a : A) → first a ≡ none → bundled n a ≡ []
    unfolding bundle_of onward
    bundle-none zero a e = refl
    bundle-none (suc n) a e = rw e

    pub bundle-more : (n : ℕ) (a : A) (m : Msg) → first a ≡ some m → bundled (suc n) a ≡ name_of m ∷ bundled n (past a m)
    unfolding bundle_of onward
    bundle-more n a m e = rw e

    -- what holds of every bundle: limit 0, nothing pending, or the smallest and then the bundle of one less
    module _ (P : ℕ → A → List Name → Type 0) (stop : (a : A) → P 0 a []) (empty : (n : ℕ) (a : A) → first a ≡ none → P n a [])
        (more : (n : ℕ) (a : A) (m : Msg) → first a ≡ some m → P n (past a m) (bundled n (past a m))
        → P (suc n) a (name_of m ∷ bundled n (past a m))) where
      pub bundle-by : (n : ℕ) (a : A) → P n a (bundled n a)
      unfolding bundle_of
      bundle-by zero a = stop a
      bundle-by (suc n) a = by (first a) refl (λ m. bundle-by n (past a m))
        where
          by : (o : Option Msg) → first a ≡ o → ((m : Msg) → P n (past a m) (bundled n (past a m))) → P (suc n) a (bundled (suc n) a)
          by none e ih = rw (bundle-none (suc n) a e) (empty (suc n) a e)
          by (some m) e ih = rw (bundle-more n a m e) (more n a m e (ih m))

    -- at most the limit
    pub bundle-limit : (n : ℕ) (a : A) → length (bundled n a) ≤ n
    bundle-limit = bundle-by (λ n a ns. length ns ≤ n) (λ a. omega arith) (λ n a e. omega arith) (λ n a m e h. omega arith)

    -- fewer only if nothing is left
    pub bundle-less : (n : ℕ) (a : A) → length (bundled n a) < n → first (left_by make a (bundled n a)) ≡ none
    unfolding left_by
    bundle-less = bundle-by (λ n a ns. length ns < n → first (left_by make a ns) ≡ none) (λ a h. absurd (omega arith)) (λ n a e h. e)
        (λ n a m e ih h. ih (omega arith))

    -- one of m and then one of n
    pub bundle-sum : (m n : ℕ) (a : A) → bundled (m + n) a ≡ bundled m a ++ bundled n (left_by make a (bundled m a))
    unfolding left_by
    bundle-sum m n = bundle-by (λ k a ns. bundled (k + n) a ≡ ns ++ bundled n (left_by make a ns))
        (λ a. rw (zero-add n))
        (λ k a e. bundle-none (k + n) a e ∙ sym (bundle-none n a e))
        (λ k a x e ih. rw (suc-add k n) (bundle-more (k + n) a x e ∙ ap (λ (ns : List Name). name_of x ∷ ns) ih)) m

    -- every delivery of a bundle is accepted, where that of the smallest message is and keeps it so
    module _ (I : A → Type 0) (fine : (a : A) (m : Msg) → I a → first a ≡ some m → ((make a (deliver (name_of m))).refused ≡ 0) × I (past a m)) where
      pub bundle-accepted : (n : ℕ) (a : A) → I a → AllAccepted make a (map deliver (bundled n a))
      unfolding AllAccepted
      bundle-accepted = bundle-by (λ n a ns. I a → AllAccepted make a (map deliver ns)) (λ a i. tt) (λ n a e i. tt)
          (λ n a m e ih i. let f = fine a m i e in (f.0, ih f.1))

      -- as many as the bound leave nothing pending, where no list of accepted deliveries is longer than it
      pub bundle-drains : (b n : ℕ) (a : A) → I a → ((ns : List Name) → AllAccepted make a (map deliver ns) → length ns ≤ b) → b ≤ n
          → first (left_by make a (bundled n a)) ≡ none
      bundle-drains b n a i most h = by (first (left_by make a (bundled n a))) refl
        where
          by : (o : Option Msg) → first (left_by make a (bundled n a)) ≡ o → o ≡ none
          by none e = refl
          by (some m) e =
              let q = bundle-sum n 1 a ∙ ap (λ (ns : List Name). bundled n a ++ ns) (bundle-more 0 (left_by make a (bundled n a)) m e) in
              let k = length-append (bundled n a) (name_of m ∷ bundled 0 (past (left_by make a (bundled n a)) m)) in
              sym e ∙ bundle-less n a (omega (arith, ap length q, most (bundled (n + 1) a) (bundle-accepted (n + 1) a i)))

  -- a list that only delivers spreads into deliveries
  module _ (b : A → ℕ → List Name) where
    pub spread-delivers : (a : A) (ds : List (Item Name)) → (ns : List Name) × (spread make b deliver a ds ≡ map deliver ns)
    unfolding spread
    spread-delivers a [] = ([], refl)
    spread-delivers a (one n ∷ ds) = let r = spread-delivers (make a (deliver n)).after ds in (n ∷ r.0, ap (λ (cs : List Call). deliver n ∷ cs) r.1)
    spread-delivers a (bundle k ∷ ds) =
        let r = spread-delivers (left_by make a (b a k)) ds in
        (b a k ++ r.0, ap (λ (cs : List Call). map deliver (b a k) ++ cs) r.1 ∙ sym (map-append (b a k) r.0))

  -- what a list leaves, bundles as their deliveries
  pub steps-append : (s : Standing A) (cs ds : List Call) → steps make s (cs ++ ds) ≡ steps make (steps make s cs) ds
  unfolding steps
  steps-append s [] ds = refl
  steps-append s (c ∷ cs) ds = steps-append (step make s c) cs ds

  pub steps-left : (s : Standing A) (ns : List Name) → (steps make s (map deliver ns)).now ≡ left_by make s.now ns
  unfolding steps step left_by
  steps-left s [] = refl
  steps-left s (n ∷ ns) = steps-left (step make s (deliver n)) ns

  -- a list and then another, each spread where it begins
  module _ {C : Type 0} (b : A → ℕ → List Name) (f : C → Call) where
    abbrev run : Standing A → List (Item C) → Standing A
    run s is = steps make s (spread make b f s.now is)

    -- deliveries first
    abbrev after : Standing A → List Name → List (Item C) → Standing A
    after s ns is = steps make s (map deliver ns ++ spread make b f (left_by make s.now ns) is)

    run-after : (s : Standing A) (ns : List Name) (is : List (Item C)) → after s ns is ≡ run (steps make s (map deliver ns)) is
    run-after s ns is =
        steps-append s (map deliver ns) (spread make b f (left_by make s.now ns) is)
        ∙ ap (λ (a : A). steps make (steps make s (map deliver ns)) (spread make b f a is)) (sym (steps-left s ns))

    pub run-append : (s : Standing A) (is js : List (Item C)) → run s (is ++ js) ≡ run (run s is) js
    unfolding steps spread step
    run-append s [] js = refl
    run-append s (one c ∷ is) js = run-append (step make s (f c)) is js
    run-append s (bundle n ∷ is) js =
        let ns = b s.now n in
        run-after s ns (is ++ js)
        ∙ run-append (steps make s (map deliver ns)) is js
        ∙ ap (λ (t : Standing A). run t js) (sym (run-after s ns is))
