-- Every message has exactly one name, what names none is none, and equality and membership as tests. Assumes nothing.
use Prim.Native.Nat.{ℕ}
use mathlib.Core.Path.{◌≡◌, refl, sym, ◌∙◌, ap, subst}
use mathlib.Core.Logic.{◌⊎◌, inl, inr, ⊎_elim}
use mathlib.Core.Option.{Option, none, some}
use mathlib.Core.Bool.{Bool, true, false, cond, ◌&&◌, ◌||◌}
use mathlib.Core.List.Memᴰ
use mathlib.Core.List.{List, [], ◌∷◌, Memᴰ}
use native.Mathlib.Omega.{arith}
use lib.Dec.{T, eqb, eqb→eq}
use borrow.Author.Tests.{eqb-true, eq-eqb}
use Rattle.graph.specs.Side.{Side, left, right, side_number}
use Rattle.base.proofs.Tests.{and-fst, and-snd, or_cases, or_left, or_right}
use Rattle.protocol.specs.Message.{Msg, meet, probe, pull, going, seek, found, none_found, Name, name, name_of, if_zero, if_bit, named}
use Rattle.protocol.specs.Message.{same_msg, among}

pub some_inj : {x y : Msg} → some x ≡ some y → x ≡ y
some_inj e = cc

pub none-some : {A : Type 0} {o : Option Msg} {x : Msg} → o ≡ none → o ≡ some x → A
none-some p q = absurd (let z : ◌≡◌ {A = ℕ} 0 1 = cc in omega arith)

-- the name of a message names it
pub named-name : (m : Msg) → named (name_of m) ≡ some m
unfolding named if_zero if_bit
named-name (meet t a l) = refl
named-name (probe t a l) = refl
named-name (pull t false l left) = refl
named-name (pull t false l right) = refl
named-name (pull t true l left) = refl
named-name (pull t true l right) = refl
named-name (going t l left) = refl
named-name (going t l right) = refl
named-name (seek t a l) = refl
named-name (found t a l) = refl
named-name (none_found t l left) = refl
named-name (none_found t l right) = refl

-- two branches of a test
test : {A : Type 0} (b : Bool) → (b ≡ true → A) → (b ≡ false → A) → A
test true f g = f refl
test false f g = g refl

-- a message found behind a test on a number is the one named
zero-case : {m : Msg} (n : ℕ) (o : Option Msg) → if_zero n o ≡ some m → (n ≡ 0) × (o ≡ some m)
unfolding if_zero
zero-case {m} n o e = test (eqb n 0) (λ t. (eqb-true n 0 t, rw t at e)) (λ f. none-some refl (rw f at e))

bit-case : {m : Msg} (n : ℕ) (o p : Option Msg) → if_bit n o p ≡ some m → ((n ≡ 0) × (o ≡ some m)) ⊎ ((n ≡ 1) × (p ≡ some m))
unfolding if_bit
bit-case {m} n o p e =
    test (eqb n 0) (λ t. inl (eqb-true n 0 t, rw t at e))
    (λ f. inr (test (eqb n 1) (λ t. (eqb-true n 1 t, rw (f, t) at e)) (λ g. none-some refl (rw (f, g) at e))))

-- the first branch of a test on the kind, or the rest
kind-case : {m : Msg} (k i : ℕ) (o p : Option Msg) → cond (eqb k i) o p ≡ some m → ((k ≡ i) × (o ≡ some m)) ⊎ (p ≡ some m)
kind-case {m} k i o p e = test (eqb k i) (λ t. inl (eqb-true k i t, rw t at e)) (λ f. inr (rw f at e))

module _ {m : Msg} (k t a l s : ℕ) where
  plain : (o : Msg) (i : ℕ) → name_of o ≡ name i t a l 0 → if_zero s (some o) ≡ some m → k ≡ i → name_of m ≡ name k t a l s
  plain o i n e q = let z = zero-case s (some o) e in sym (ap name_of (some_inj z.1)) ∙ n ∙ (λ j. name (sym q j) t a l (sym z.0 j))

  sided : (f : Side → Msg) (i : ℕ) → ((d : Side) → name_of (f d) ≡ name i t a l (side_number d)) → if_bit s (some (f left)) (some (f right)) ≡ some m
      → k ≡ i → name_of m ≡ name k t a l s
  sided f i n e q = by (bit-case s (some (f left)) (some (f right)) e)
    where
      by : ((s ≡ 0) × (some (f left) ≡ some m)) ⊎ ((s ≡ 1) × (some (f right) ≡ some m)) → name_of m ≡ name k t a l s
      by (inl z) = sym (ap name_of (some_inj z.1)) ∙ n left ∙ (λ j. name (sym q j) t a l (sym z.0 j))
      by (inr z) = sym (ap name_of (some_inj z.1)) ∙ n right ∙ (λ j. name (sym q j) t a l (sym z.0 j))

abbrev wanting : (t l s : ℕ) → Bool → Option Msg
wanting t l s b = if_bit s (some (pull t b l left)) (some (pull t b l right))

module _ {m : Msg} (k t a l s : ℕ) where
  about-0 : (f : Side → Msg) (i : ℕ) → ((d : Side) → name_of (f d) ≡ name i t 0 l (side_number d))
      → if_zero a (if_bit s (some (f left)) (some (f right))) ≡ some m → k ≡ i → name_of m ≡ name k t a l s
  about-0 f i n e q =
      let z = zero-case a (if_bit s (some (f left)) (some (f right))) e in
      sided k t 0 l s f i n z.1 q ∙ (λ j. name k t (sym z.0 j) l s)

  wanted : if_bit a (wanting t l s false) (wanting t l s true) ≡ some m → k ≡ 3 → name_of m ≡ name k t a l s
  wanted e q = by (bit-case a (wanting t l s false) (wanting t l s true) e)
    where
      by : ((a ≡ 0) × (wanting t l s false ≡ some m)) ⊎ ((a ≡ 1) × (wanting t l s true ≡ some m)) → name_of m ≡ name k t a l s
      by (inl z) = sided k t 0 l s (λ d. pull t false l d) 3 (λ d. refl) z.1 q ∙ (λ j. name k t (sym z.0 j) l s)
      by (inr z) = sided k t 1 l s (λ d. pull t true l d) 3 (λ d. refl) z.1 q ∙ (λ j. name k t (sym z.0 j) l s)

-- a name of a message is its only one
pub name-named : (n : Name) (m : Msg) → named n ≡ some m → name_of m ≡ n
unfolding named
name-named n m e =
    let k = n.kind in
    let t = n.to in
    let a = n.about in
    let l = n.level in
    let s = n.side in
    ⊎_elim (λ z. plain k t a l s (meet t a l) 1 refl z.1 z.0) (λ e₂.
    ⊎_elim (λ z. plain k t a l s (probe t a l) 2 refl z.1 z.0) (λ e₃.
    ⊎_elim (λ z. wanted k t a l s z.1 z.0) (λ e₄.
    ⊎_elim (λ z. about-0 k t a l s (λ d. going t l d) 4 (λ d. refl) z.1 z.0) (λ e₅.
    ⊎_elim (λ z. plain k t a l s (seek t a l) 5 refl z.1 z.0) (λ e₆.
    ⊎_elim (λ z. plain k t a l s (found t a l) 6 refl z.1 z.0) (λ e₇.
    ⊎_elim (λ z. about-0 k t a l s (λ d. none_found t l d) 7 (λ d. refl) z.1 z.0) (λ e₈. none-some refl e₈)
    (kind-case k 7 _ _ e₇)) (kind-case k 6 _ _ e₆)) (kind-case k 5 _ _ e₅)) (kind-case k 4 _ _ e₄)) (kind-case k 3 _ _ e₃)) (kind-case k 2 _ _ e₂))
    (kind-case k 1 _ _ e)

-- equal names are equal messages
pub same_name : (m n : Msg) → name_of m ≡ name_of n → m ≡ n
same_name m n e = some_inj (sym (named-name m) ∙ ap named e ∙ named-name n)

pub same-eq : (m n : Msg) → T (same_msg m n) → m ≡ n
unfolding same_msg
same-eq m n t = same_name m n (λ i. name (k i) (to i) (a i) (l i) (s i))
  where
    t₁ : T (eqb (name_of m).to (name_of n).to
        && (eqb (name_of m).about (name_of n).about && (eqb (name_of m).level (name_of n).level && eqb (name_of m).side (name_of n).side)))
    t₁ = and-snd (eqb (name_of m).kind (name_of n).kind) _ t

    t₂ : T (eqb (name_of m).about (name_of n).about && (eqb (name_of m).level (name_of n).level && eqb (name_of m).side (name_of n).side))
    t₂ = and-snd (eqb (name_of m).to (name_of n).to) _ t₁

    t₃ : T (eqb (name_of m).level (name_of n).level && eqb (name_of m).side (name_of n).side)
    t₃ = and-snd (eqb (name_of m).about (name_of n).about) _ t₂

    k : (name_of m).kind ≡ (name_of n).kind
    k = eqb→eq _ _ (and-fst (eqb (name_of m).kind (name_of n).kind) _ t)

    to : (name_of m).to ≡ (name_of n).to
    to = eqb→eq _ _ (and-fst (eqb (name_of m).to (name_of n).to) _ t₁)

    a : (name_of m).about ≡ (name_of n).about
    a = eqb→eq _ _ (and-fst (eqb (name_of m).about (name_of n).about) _ t₂)

    l : (name_of m).level ≡ (name_of n).level
    l = eqb→eq _ _ (and-fst (eqb (name_of m).level (name_of n).level) _ t₃)

    s : (name_of m).side ≡ (name_of n).side
    s = eqb→eq _ _ (and-snd (eqb (name_of m).level (name_of n).level) _ t₃)

eqb-self : (n : ℕ) → eqb n n ≡ true
eqb-self n = eq-eqb n n refl

pub same_self : (m : Msg) → T (same_msg m m)
unfolding same_msg
same_self m = let a = name_of m in rw (eqb-self a.kind, eqb-self a.to, eqb-self a.about, eqb-self a.level, eqb-self a.side) tt

pub eq-same : {m n : Msg} → m ≡ n → T (same_msg m n)
eq-same {m} {n} e = subst (λ (x : Msg). T (same_msg m x)) e (same_self m)

-- the test is membership
pub among-mem : (l : List Msg) {m : Msg} → T (among l m) → Memᴰ m l
unfolding among
among-mem [] t = absurd t
among-mem (n ∷ l) {m} t = by (or_cases (same_msg n m) (among l m) t) (λ u. among-mem l u)
  where
    by : T (same_msg n m) ⊎ T (among l m) → (T (among l m) → Memᴰ m l) → Memᴰ m (n ∷ l)
    by (inl u) ih = Memᴰ.head (sym (same-eq n m u))
    by (inr u) ih = Memᴰ.tail (ih u)

pub mem-among : (l : List Msg) {m : Msg} → Memᴰ m l → T (among l m)
unfolding among
mem-among [] h = absurd (Memᴰ.not-nil h)
mem-among (n ∷ l) {m} h = by (Memᴰ.cases_cons h) (λ u. mem-among l u)
  where
    by : (m ≡ n) ⊎ Memᴰ m l → (Memᴰ m l → T (among l m)) → T (same_msg n m || among l m)
    by (inl e) ih = or_left (same_msg n m) (among l m) (eq-same (sym e))
    by (inr u) ih = or_right (same_msg n m) (among l m) (ih u)
