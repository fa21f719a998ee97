-- Which lots leave, as the bytes of a meaning say it, and the set of them as a number. Assumes nothing.
use Prim.Native.Nat.{ℕ, ◌+◌, ◌*◌, ◌%◌, ◌^◌, ◌≤◌, ◌<◌}
use mathlib.Core.Path.{◌≡◌, sym, ap, ◌∙◌}
use mathlib.Core.Logic.{⊎_elim}
use mathlib.Core.Bool.{Bool, true, false, ◌&&◌}
use mathlib.Core.List.{List}
use native.Mathlib.Omega.{arith}
use lib.Bits.{bit_or}
use lib.Dec.{ltb}
use borrow.Author.Tests.{lt-ltb, le-ltb}
use Rattle.base.specs.Loops.{any}
use Rattle.base.proofs.Cases.{lt-or-ge, eq-or-ne, and-false}
use Rattle.base.proofs.Any.{any_same}
use Rattle.memory.specs.Bits.{has_bit}
use Rattle.memory.proofs.Bits.{has_bit-none, has_bit-with_bit, has_bit-with_bit-other, one_shifted, mask-set}
use Rattle.protocol.specs.State.{Meaning, is_leaving, leaves}
use Rattle.record.specs.Layout.{seats}
use Rattle.record.specs.Meaning.{state_of, seats_in, bytes_of}
use Rattle.record.proofs.Values.{state_of-state_byte}
use Rattle.record.proofs.Round.{read-state}
use Rattle.clearing.proofs.Freed.{lt-more}

module _ (M : Meaning) {l : List ℕ} (e : l ≡ bytes_of M) where
  -- a seat, and any
  pub leaves-bytes : (s : ℕ) → s < seats → leaves (seats_in l) s ≡ leaves M.seats s
  unfolding seats_in
  leaves-bytes s h =
      rw (e, lt-ltb s seats h) (ap is_leaving (ap state_of (read-state M s h) ∙ state_of-state_byte (M.seats.state s)))

  pub any-bytes : any seats (leaves (seats_in l)) ≡ any seats (leaves M.seats)
  any-bytes = any_same seats (leaves (seats_in l)) (leaves M.seats) leaves-bytes

-- a seat that does not exist
leaves-above : (l : List ℕ) (x : ℕ) → seats ≤ x → leaves (seats_in l) x ≡ false
unfolding seats_in
leaves-above l x h = rw (le-ltb x seats h)

-- a set gathered seat by seat: those below s that p takes
module _ (p : ℕ → Bool) where
  abbrev pub Gathered : (set s : ℕ) → Type 0
  Gathered set s = (x : ℕ) → has_bit set x ≡ (ltb x s && p x)

  pub Gathered-none : Gathered 0 0
  Gathered-none x = has_bit-none x ∙ sym (rw (le-ltb x 0 (omega arith)))

  pub Gathered-more : (set s m : ℕ) → s < seats → Gathered set s → p s ≡ true → m ≡ bit_or set ((1 * 2 ^ s) % 2 ^ seats) → Gathered m (s + 1)
  Gathered-more set s m h g t e x = rw (e, one_shifted seats s h, mask-set set s) (⊎_elim
      (λ q. rw (q, has_bit-with_bit set s true, lt-ltb s (s + 1) (omega arith), t))
      (λ q. has_bit-with_bit-other set s x true q ∙ g x ∙ sym (rw (lt-more x s q)))
      (eq-or-ne x s))

  pub Gathered-past : (set s m : ℕ) → Gathered set s → p s ≡ false → m ≡ set → Gathered m (s + 1)
  Gathered-past set s m g t e x = rw e (g x ∙ ⊎_elim
      (λ q. rw q (and-false (ltb s s) (p s) t ∙ sym (and-false (ltb s (s + 1)) (p s) t)))
      (λ q. rw (lt-more x s q))
      (eq-or-ne x s))

-- all of them
pub Gathered-all : (l : List ℕ) (set s : ℕ) → s ≡ seats → Gathered (leaves (seats_in l)) set s → (x : ℕ) → has_bit set x ≡ leaves (seats_in l) x
Gathered-all l set s e g x = ⊎_elim
    (λ h. g x ∙ rw (lt-ltb x s (omega (arith, e))))
    (λ h. g x ∙ rw (le-ltb x s (omega (arith, e))) (sym (leaves-above l x h)))
    (lt-or-ge x seats)
