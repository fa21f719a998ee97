-- The seats of a set freed one after the other, their links left as they are. Assumes nothing.
use Prim.Native.Nat.{ℕ, ◌+◌, ◌<◌}
use mathlib.Core.Path.{◌≡◌, refl, sym, ap, ◌∙◌}
use mathlib.Core.Logic.{⊎_elim}
use mathlib.Core.Bool.{true, false, cond, ◌&&◌}
use mathlib.Core.List.{List}
use native.Mathlib.Omega.{arith}
use lib.Dec.{ltb}
use borrow.Author.Tests.{lt-ltb, le-ltb}
use Rattle.base.proofs.Cases.{lt-or-ge, eq-or-ne}
use Rattle.memory.specs.Bits.{has_bit}
use Rattle.protocol.specs.Rules.{free}
use Rattle.protocol.specs.State.{Meaning}
use Rattle.protocol.specs.Page.{at}
use Rattle.protocol.proofs.Calls.{at_same, at_other}
use Rattle.record.specs.Layout.{seats}
use Rattle.record.specs.Meaning.{bytes_of}
use Rattle.record.specs.inner.Entry.{filled}
use Rattle.record.proofs.Frame.{bytes_same}
use Rattle.record.proofs.Entry.{bytes-filled}
use Rattle.clearing.specs.inner.Steps.{freed_to}

-- below one more
pub lt-more : (i n : ℕ) → (i ≡ n → ⊥) → ltb i (n + 1) ≡ ltb i n
lt-more i n e = ⊎_elim
    (λ p. lt-ltb i (n + 1) (omega arith) ∙ sym (lt-ltb i n p))
    (λ p. le-ltb i (n + 1) (omega (arith, e)) ∙ sym (le-ltb i n p))
    (lt-or-ge i n)

module _ (set s : ℕ) where
  -- a field of the seats once seat s is done: a in the set, otherwise as before
  field-freed : {A : Type 0} (a : A) (f : ℕ → A) → has_bit set s ≡ true → (x : ℕ)
      → cond (ltb x (s + 1) && has_bit set x) a (f x) ≡ at s a (λ y. cond (ltb y s && has_bit set y) a (f y)) x
  field-freed a f t x = ⊎_elim
      (λ e. rw (e, lt-ltb s (s + 1) (omega arith), t) (sym (at_same s a (λ y. cond (ltb y s && has_bit set y) a (f y)) s refl)))
      (λ e. rw (lt-more x s e) (sym (at_other s a (λ y. cond (ltb y s && has_bit set y) a (f y)) x e)))
      (eq-or-ne x s)

  field-kept : {A : Type 0} (a : A) (f : ℕ → A) → has_bit set s ≡ false → (x : ℕ)
      → cond (ltb x (s + 1) && has_bit set x) a (f x) ≡ cond (ltb x s && has_bit set x) a (f x)
  field-kept a f t x = ⊎_elim
      (λ e. rw (e, lt-ltb s (s + 1) (omega arith), le-ltb s s (omega arith), t))
      (λ e. rw (lt-more x s e))
      (eq-or-ne x s)

module _ (set s n : ℕ) (h : s < seats) (M : Meaning) {l : List ℕ} (e : l ≡ bytes_of (freed_to set s n M)) where
  -- a seat of the set: its three fields
  pub clear-freed : has_bit set s ≡ true → filled l s 0 0 0 ≡ bytes_of (freed_to set (s + 1) n M)
  unfolding freed_to
  clear-freed t =
      ap (λ (m : List ℕ). filled m s 0 0 0) e
      ∙ sym (bytes-filled (freed_to set s n M) s free 0 0 h)
      ∙ sym (bytes_same (record {
        phase = refl;
        state = λ x p. field-freed set s free M.seats.state t x;
        number = λ x p. field-freed set s 0 M.seats.number t x;
        vector = λ x p. field-freed set s 0 M.seats.vector t x;
        link = λ x k d p g. refl;
        pending = λ i p. refl;
      }))

  -- another
  pub clear_kept : has_bit set s ≡ false → l ≡ bytes_of (freed_to set (s + 1) n M)
  unfolding freed_to
  clear_kept t = e ∙ sym (bytes_same (record {
    phase = refl;
    state = λ x p. field-kept set s free M.seats.state t x;
    number = λ x p. field-kept set s 0 M.seats.number t x;
    vector = λ x p. field-kept set s 0 M.seats.vector t x;
    link = λ x k d p g. refl;
    pending = λ i p. refl;
  }))
