-- Seats that become free, with what links to them: soundness stays, if what is then pending fits. A turn out of clearing and a crash are
-- this. Assumes nothing.
use Prim.Native.Nat.{ℕ, ◌^◌, ◌<◌}
use mathlib.Core.Path.{◌≡◌, refl, sym, ◌∙◌, ap}
use mathlib.Core.Option.{Option, none, some}
use mathlib.Core.Bool.{Bool, true, false, not, cond}
use lib.Dec.{T}
use lib.Pow.{pow_pos}
use Rattle.graph.specs.Side.{Side}
use Rattle.base.proofs.Tests.{none-some, some_inj}
use Rattle.protocol.specs.Message.{Msg}
use Rattle.protocol.specs.Rules.{free}
use Rattle.protocol.specs.State.{Phase, Seats, Meaning, is_free, taken, seated}
use Rattle.protocol.specs.Freeing.{freeing, unlinked, unlinking}
use Rattle.protocol.specs.Sound.{number_bits, message_ok, Sound}
use Rattle.protocol.proofs.SoundFacts.{Linked, linked-ok, link-linked}
use Rattle.protocol.proofs.KeepCalls.{Kept, Held, linked-kept, seats-kept, differ-kept}

-- a link after seats are freed
unlinked-none : (freed : ℕ → Bool) {o : Option ℕ} → o ≡ none → unlinked freed o ≡ none
unfolding unlinked
unlinked-none freed e = rw e

pub unlinked-some : (freed : ℕ → Bool) (o : Option ℕ) (y : ℕ) → unlinked freed o ≡ some y → (o ≡ some y) × (freed y ≡ false)
unfolding unlinked
unlinked-some freed none y e = none-some refl e
unlinked-some freed (some z) y e = by (freed z) refl e
  where
    by : (b : Bool) → freed z ≡ b → cond b none (some z) ≡ some y → (some z ≡ some y) × (freed y ≡ false)
    by true f e = none-some refl e
    by false f e = (e, ap freed (sym (some_inj e)) ∙ f)

-- a link that is there then was there before, and neither of its ends is freed
pub unlinking-some : (freed : ℕ → Bool) (o : Option ℕ) (x y : ℕ) → cond (freed x) none (unlinked freed o) ≡ some y
    → (o ≡ some y) × (freed x ≡ false) × (freed y ≡ false)
unlinking-some freed o x y e = by (freed x) refl e
  where
    by : (b : Bool) → freed x ≡ b → cond b none (unlinked freed o) ≡ some y → (o ≡ some y) × (freed x ≡ false) × (freed y ≡ false)
    by true f e = none-some refl e
    by false f e = let (g, q) = unlinked-some freed o y e in (g, f, q)

pub some-unlinking : (freed : ℕ → Bool) (o : Option ℕ) (x y : ℕ) → o ≡ some y → freed x ≡ false → freed y ≡ false
    → cond (freed x) none (unlinked freed o) ≡ some y
unfolding unlinked
some-unlinking freed o x y e f g = rw (f, e, g)

zero_or : (b : Bool) (n m : ℕ) → 0 < m → n < m → cond b 0 n < m
zero_or true n m p q = p
zero_or false n m p q = q

module _ {N W : ℕ} {M : Meaning} (h : Sound N W M) (freed : ℕ → Bool) (p : Phase) where
  abbrev r : Seats
  r = M.seats

  abbrev r' : Seats
  r' = freeing freed p M.seats

  -- a lot that is not freed is there as it was, and who is there then was there
  pub freed-kept : (x : ℕ) → T (seated r x) → freed x ≡ false → Kept r r' x
  freed-kept x t e = record { there = rw e t; number = rw e; vector = rw e }

  old : (x : ℕ) → T (taken r' x) → Held r' r x
  old x t = by (freed x) refl t
    where
      by : (b : Bool) → freed x ≡ b → T (not (is_free (cond b free (r.state x)))) → Held r' r x
      by true e t = absurd t
      by false e t = record { there = t; number = rw e }

  unused : (x : ℕ) (b : Bool) → freed x ≡ b → T (is_free (r'.state x))
      → (cond b 0 (r.number x) ≡ 0)
      × (cond b 0 (r.vector x) ≡ 0)
      × ((k : ℕ) (d : Side) → cond b none (unlinked freed (M.link x k d)) ≡ none)
  unused x true e t = (refl, refl, λ k d. refl)
  unused x false e t = let (n, v, l) = h.unused x (rw e at t) in (n, v, λ k d. unlinked-none freed (l k d))

  -- the links that are left
  pub left-linked : (x k y : ℕ) (d : Side) → unlinking freed M.link x k d ≡ some y → Linked W r' x k d y
  left-linked x k y d e =
      let (f, a, b) = unlinking-some freed (M.link x k d) x y e in
      let l = link-linked h f in
      linked-kept (freed-kept x l.0.one a) (freed-kept y l.0.two b) l

  pub freed-sound : (pending : Msg → Bool) → ((m : Msg) → T (pending m) → T (message_ok W r' m))
      → Sound N W (record { seats = r'; link = unlinking freed M.link; pending = pending })
  freed-sound pending fit = record {
    seats = seats-kept h old;
    numbers = λ x. zero_or (freed x) (r.number x) (2 ^ number_bits) (pow_pos number_bits) (h.numbers x);
    vectors = λ x. zero_or (freed x) (r.vector x) (2 ^ W) (pow_pos W) (h.vectors x);
    unused = λ x t. unused x (freed x) refl t;
    differ = differ-kept h old;
    links = λ x k y d e. linked-ok W r' (left-linked x k y d e);
    messages = fit;
  }
