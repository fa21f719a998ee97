-- The clauses of soundness, tests of the bytes, as facts of the bytes. Assumes nothing.
use Prim.Native.Nat.{ℕ, ◌<◌}
use mathlib.Core.Path.{◌≡◌, refl}
use mathlib.Core.Logic.{◌⊎◌, inl, inr, ⊎_elim, ◌↔◌}
use mathlib.Core.Bool.{Bool, true, false, not, ◌&&◌, ◌||◌}
use mathlib.Core.List.{List}
use lib.Dec.{T, eqb, ltb}
use lib.ListN.{get_or}
use borrow.Author.Tests.{lt-ltb, eq-eqb, ltb-true, eqb-true, not-true, not-false}
use Rattle.memory.specs.Bits.{bit_set}
use Rattle.base.proofs.Cases.{true-or-false, and_left, and_right}
use Rattle.base.proofs.All.{all-at, all_from}
use Rattle.graph.specs.Side.{Side, left, right}
use Rattle.graph.specs.Vector.{width}
use Rattle.base.proofs.Tests.{T_true, true-T, true-false}
use Rattle.protocol.specs.Numbering.{message_at}
use Rattle.protocol.specs.State.{is_free, taken}
use Rattle.protocol.specs.Sound.{link_ok, message_ok}
use Rattle.record.specs.Layout.{seats, levels, states, no_link, messages, phase_at, state_at, link_at, pending_from}
use Rattle.record.specs.Meaning.{seats_in}
use Rattle.record.specs.Sound.{phase_fits, states_fit, as_opened, unused_fit, numbers_differ, link_fits, links_fit, messages_fit, sound}

-- tests of both sides
sides : (p : Side → Bool) → p left && p right ≡ true → (d : Side) → p d ≡ true
sides p e left = and_left (p left) (p right) e
sides p e right = and_right (p left) (p right) e

both : {a b : Bool} → a ≡ true → b ≡ true → a && b ≡ true
both e f = rw (e, f)

either : (a b : Bool) → (a ≡ false → b ≡ true) → a || b ≡ true
either true b f = refl
either false b f = f refl

or_else : (a b : Bool) → a || b ≡ true → a ≡ false → b ≡ true
or_else true b e f = true-false refl f
or_else false b e f = e

two-and : (a b : Bool) (m n : ℕ) → (a && (b && eqb m n) ≡ true) ↔ (T a × T b × (m ≡ n))
two-and true true m n = (λ e. (tt, tt, eqb-true m n e), λ f. eq-eqb m n f.2)
two-and true false m n = (λ e. true-false e refl, λ f. absurd f.1)
two-and false b m n = (λ e. true-false e refl, λ f. absurd f.0)

true-not : (b : Bool) → T b → not b ≡ false
true-not b t = rw (T_true {b = b} t)

not-true-T : (b : Bool) → not b ≡ false → T b
not-true-T b e = true-T (not-false b e)

refuted : (b : Bool) → (b ≡ true → ⊥) → not b ≡ true
refuted true f = absurd (f refl)
refuted false f = refl

-- the bytes of a seat's entry are as opened
abbrev pub AsOpened : (l : List ℕ) (s : ℕ) → Type 0
AsOpened l s =
    ((seats_in l).number s ≡ 0) × ((seats_in l).vector s ≡ 0) × ((k : ℕ) (d : Side) → k < levels → get_or l (link_at s k d) 0 ≡ no_link)

-- a link's byte is none, or a seat that fits
abbrev pub LinkFits : (l : List ℕ) (x k : ℕ) (d : Side) → Type 0
LinkFits l x k d = let b = get_or l (link_at x k d) 0 in (b ≡ no_link) ⊎ ((b < seats) × T (link_ok width (seats_in l) x k d b))

-- what the clauses say of the bytes
pub record Fits (l : List ℕ) : Type 0 where
  pub phase : get_or l phase_at 0 < 2
  pub states : (s : ℕ) → s < seats → get_or l (state_at s) 0 < states
  pub unused : (s : ℕ) → s < seats → T (is_free ((seats_in l).state s)) → AsOpened l s
  pub differ : (x y : ℕ) → x < seats → y < x → T (taken (seats_in l) x) → T (taken (seats_in l) y)
      → (seats_in l).number x ≡ (seats_in l).number y → ⊥
  pub links : (x k : ℕ) (d : Side) → x < seats → k < levels → LinkFits l x k d
  pub messages : (i : ℕ) → i < messages → T (bit_set l pending_from i) → T (message_ok width (seats_in l) (message_at seats width i))

module _ (l : List ℕ) where
  pub phase_fits-is : (phase_fits l ≡ true) ↔ (get_or l phase_at 0 < 2)
  unfolding phase_fits
  phase_fits-is = (ltb-true (get_or l phase_at 0) 2, lt-ltb (get_or l phase_at 0) 2)

  pub states_fit-is : (states_fit l ≡ true) ↔ ((s : ℕ) → s < seats → get_or l (state_at s) 0 < states)
  unfolding states_fit
  states_fit-is = (
    λ e s h. ltb-true (get_or l (state_at s) 0) states (all-at seats s _ e h),
    λ f. all_from seats _ (λ s h. lt-ltb (get_or l (state_at s) 0) states (f s h)),
  )

  pub as_opened-is : (s : ℕ) → (as_opened l s ≡ true) ↔ AsOpened l s
  unfolding as_opened
  as_opened-is s = (
    to,
    λ f.
        both (eq-eqb number 0 f.0) (both (eq-eqb vector 0 f.1) (all_from levels _ (λ k h.
        both (eq-eqb (get_or l (link_at s k left) 0) no_link (f.2 k left h)) (eq-eqb (get_or l (link_at s k right) 0) no_link (f.2 k right h))))),
  )
    where
      number : ℕ
      number = (seats_in l).number s

      vector : ℕ
      vector = (seats_in l).vector s

      to : as_opened l s ≡ true → AsOpened l s
      to e =
          let f = and_right (eqb number 0) _ e in
          let g = and_right (eqb vector 0) _ f in (
            eqb-true number 0 (and_left _ _ e),
            eqb-true vector 0 (and_left _ _ f),
            λ k d h.
                eqb-true (get_or l (link_at s k d) 0) no_link (sides (λ d. eqb (get_or l (link_at s k d) 0) no_link) (all-at levels k _ g h) d),
          )

  pub unused_fit-is : (unused_fit l ≡ true) ↔ ((s : ℕ) → s < seats → T (is_free ((seats_in l).state s)) → AsOpened l s)
  unfolding unused_fit
  unused_fit-is = (
    λ e s h t. (as_opened-is s).0 (or_else (taken (seats_in l) s) _ (all-at seats s _ e h) (true-not (is_free ((seats_in l).state s)) t)),
    λ f. all_from seats _ (λ s h. either (taken (seats_in l) s) _ (λ e. (as_opened-is s).1 (f s h (not-true-T (is_free ((seats_in l).state s)) e)))),
  )

  abbrev same_number : (x y : ℕ) → Bool
  same_number x y = taken (seats_in l) x && (taken (seats_in l) y && eqb ((seats_in l).number x) ((seats_in l).number y))

  same_number-is : (x y : ℕ)
      → (same_number x y ≡ true) ↔ (T (taken (seats_in l) x) × T (taken (seats_in l) y) × ((seats_in l).number x ≡ (seats_in l).number y))
  same_number-is x y = two-and (taken (seats_in l) x) (taken (seats_in l) y) ((seats_in l).number x) ((seats_in l).number y)

  pub numbers_differ-is : (numbers_differ l ≡ true) ↔ ((x y : ℕ) → x < seats → y < x → T (taken (seats_in l) x) → T (taken (seats_in l) y)
      → (seats_in l).number x ≡ (seats_in l).number y → ⊥)
  unfolding numbers_differ
  numbers_differ-is = (
    λ e x y h g s t n. true-false ((same_number-is x y).1 (s, t, n)) (not-true (same_number x y) (all-at x y _ (all-at seats x _ e h) g)),
    λ f. all_from seats _ (λ x h. all_from x _ (λ y g. refuted (same_number x y) (λ e.
        let (s, t, n) = (same_number-is x y).0 e in
        f x y h g s t n))),
  )

  pub link_fits-is : (x k : ℕ) (d : Side) → (link_fits l x k d ≡ true) ↔ LinkFits l x k d
  unfolding link_fits
  link_fits-is x k d = (to, from)
    where
      b : ℕ
      b = get_or l (link_at x k d) 0

      to : link_fits l x k d ≡ true → LinkFits l x k d
      to e = ⊎_elim (λ t. inl (eqb-true b no_link t)) (λ f.
          let g = or_else (eqb b no_link) _ e f in
          inr (ltb-true b seats (and_left _ _ g), true-T (and_right (ltb b seats) _ g))) (true-or-false (eqb b no_link))

      from : LinkFits l x k d → link_fits l x k d ≡ true
      from (inl e) = rw (eq-eqb b no_link e)
      from (inr f) = either (eqb b no_link) _ (λ e. both (lt-ltb b seats f.0) (T_true f.1))

  pub links_fit-is : (links_fit l ≡ true) ↔ ((x k : ℕ) (d : Side) → x < seats → k < levels → LinkFits l x k d)
  unfolding links_fit
  links_fit-is = (
    λ e x k d h g. (link_fits-is x k d).0 (sides (link_fits l x k) (all-at levels k _ (all-at seats x _ e h) g) d),
    λ f. all_from seats _ (λ x h. all_from levels _ (λ k g.
        both ((link_fits-is x k left).1 (f x k left h g)) ((link_fits-is x k right).1 (f x k right h g)))),
  )

  pub messages_fit-is : (messages_fit l ≡ true)
      ↔ ((i : ℕ) → i < messages → T (bit_set l pending_from i) → T (message_ok width (seats_in l) (message_at seats width i)))
  unfolding messages_fit
  messages_fit-is = (
    λ e i h t. true-T (or_else (not (bit_set l pending_from i)) _ (all-at messages i _ e h) (true-not (bit_set l pending_from i) t)),
    λ f. all_from messages _ (λ i h. either (not (bit_set l pending_from i)) _ (λ e. T_true (f i h (not-true-T (bit_set l pending_from i) e)))),
  )

  -- all of them
  pub sound_fits : (sound l ≡ true) ↔ Fits l
  unfolding sound
  sound_fits = (
    to,
    λ f. both (phase_fits-is.1 f.phase) (both (states_fit-is.1 f.states) (both (unused_fit-is.1 f.unused)
        (both (numbers_differ-is.1 f.differ) (both (links_fit-is.1 f.links) (messages_fit-is.1 f.messages))))),
  )
    where
      to : sound l ≡ true → Fits l
      to e =
          let e₂ = and_right (phase_fits l) _ e in
          let e₃ = and_right (states_fit l) _ e₂ in
          let e₄ = and_right (unused_fit l) _ e₃ in
          let e₅ = and_right (numbers_differ l) _ e₄ in
          record {
            phase = phase_fits-is.0 (and_left _ _ e);
            states = states_fit-is.0 (and_left _ _ e₂);
            unused = unused_fit-is.0 (and_left _ _ e₃);
            differ = numbers_differ-is.0 (and_left _ _ e₄);
            links = links_fit-is.0 (and_left _ _ e₅);
            messages = messages_fit-is.0 (and_right (links_fit l) _ e₅);
          }
