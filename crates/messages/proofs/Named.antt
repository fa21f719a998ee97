-- The message that five numbers name, kind by kind: one if the numbers fit, none if not; its place and its range. Assumes nothing.
use Prim.Native.Nat.{ℕ, zero, suc, ◌<◌}
use mathlib.Core.Path.{◌≡◌, refl}
use mathlib.Core.Logic.{◌≢◌}
use mathlib.Core.Option.{Option, none, some}
use mathlib.Core.Bool.{Bool, true, false, cond, ◌&&◌}
use native.Mathlib.Omega.{arith}
use lib.Dec.{T, eqb, ltb, ltb→lt}
use borrow.Author.Tests.{ne_eqb, le-ltb}
use Rattle.graph.specs.Side.{Side, left, right, side_of_number}
use Rattle.graph.specs.Vector.{width}
use Rattle.base.proofs.Tests.{and-fst, and-snd}
use Rattle.protocol.specs.Message.{Msg, meet, probe, pull, going, seek, found, none_found, name, if_zero, if_bit, named, bit_number}
use Rattle.protocol.specs.Numbering.{exists, place}
use Rattle.record.specs.Layout.{seats, messages}
use Rattle.messages.specs.inner.Places.{place_of, is_message}

-- a message under a condition
abbrev pub when : Bool → Msg → Option Msg
when b m = cond b (some m) none

-- a number that is no bit
not-0 : (n : ℕ) → eqb (suc (suc n)) 0 ≡ false
not-0 n = ne_eqb (suc (suc n)) 0 (λ e. omega arith)

not-1 : (n : ℕ) → eqb (suc (suc n)) 1 ≡ false
not-1 n = ne_eqb (suc (suc n)) 1 (λ e. omega arith)

not-below-2 : (n : ℕ) → ltb (suc (suc n)) 2 ≡ false
not-below-2 n = le-ltb (suc (suc n)) 2 (omega arith)

-- a number that is 0 and one that is a side
named-zero-side : (f : Side → Msg) (a s : ℕ) → if_zero a (if_bit s (some (f left)) (some (f right))) ≡ when (eqb a 0 && ltb s 2) (f (side_of_number s))
unfolding if_zero if_bit
named-zero-side f zero zero = refl
named-zero-side f zero (suc zero) = refl
named-zero-side f zero (suc (suc s)) = rw (not-0 s, not-1 s, not-below-2 s)
named-zero-side f (suc a) s = rw (ne_eqb (suc a) 0 (λ e. omega arith))

-- a number that is a bit and one that is a side
named-bit-side : (t a l s : ℕ)
    → if_bit a (if_bit s (some (pull t false l left)) (some (pull t false l right))) (if_bit s (some (pull t true l left)) (some (pull t true l right)))
    ≡ when (ltb a 2 && ltb s 2) (pull t (eqb a 1) l (side_of_number s))
unfolding if_bit
named-bit-side t zero l zero = refl
named-bit-side t zero l (suc zero) = refl
named-bit-side t zero l (suc (suc s)) = rw (not-0 s, not-1 s, not-below-2 s)
named-bit-side t (suc zero) l zero = refl
named-bit-side t (suc zero) l (suc zero) = refl
named-bit-side t (suc zero) l (suc (suc s)) = rw (not-0 s, not-1 s, not-below-2 s)
named-bit-side t (suc (suc a)) l s = rw (not-0 a, not-1 a, not-below-2 a)

-- the seven kinds, and the rest
module _ {k : ℕ} (t a l s : ℕ) where
  pub named-meet : k ≡ 1 → named (name k t a l s) ≡ when (eqb s 0) (meet t a l)
  unfolding named if_zero
  named-meet e = rw e

  pub named-probe : k ≡ 2 → named (name k t a l s) ≡ when (eqb s 0) (probe t a l)
  unfolding named if_zero
  named-probe e = rw e

  pub named-pull : k ≡ 3 → named (name k t a l s) ≡ when (ltb a 2 && ltb s 2) (pull t (eqb a 1) l (side_of_number s))
  unfolding named
  named-pull e = rw e (named-bit-side t a l s)

  pub named-going : k ≡ 4 → named (name k t a l s) ≡ when (eqb a 0 && ltb s 2) (going t l (side_of_number s))
  unfolding named
  named-going e = rw e (named-zero-side (going t l) a s)

  pub named-seek : k ≡ 5 → named (name k t a l s) ≡ when (eqb s 0) (seek t a l)
  unfolding named if_zero
  named-seek e = rw e

  pub named-found : k ≡ 6 → named (name k t a l s) ≡ when (eqb s 0) (found t a l)
  unfolding named if_zero
  named-found e = rw e

  pub named_none : k ≡ 7 → named (name k t a l s) ≡ when (eqb a 0 && ltb s 2) (none_found t l (side_of_number s))
  unfolding named
  named_none e = rw e (named-zero-side (none_found t l) a s)

  pub named-rest : k ≢ 1 → k ≢ 2 → k ≢ 3 → k ≢ 4 → k ≢ 5 → k ≢ 6 → k ≢ 7 → named (name k t a l s) ≡ none
  unfolding named
  named-rest a b c d e f g = rw (ne_eqb k 1 a, ne_eqb k 2 b, ne_eqb k 3 c, ne_eqb k 4 d, ne_eqb k 5 e, ne_eqb k 6 f, ne_eqb k 7 g)

-- its place
pub named-place : (b : Bool) (m : Msg) → place_of (when b m) ≡ cond (b && exists seats width m) (place seats width m) messages
unfolding place_of
named-place true m = refl
named-place false m = refl

-- a message that exists: the condition holds and the numbers are in range
module _ {o : Option Msg} where
  pub named-fits : (b : Bool) (m : Msg) → o ≡ when b m → T (is_message o) → T b × T (exists seats width m)
  unfolding is_message
  named-fits true m e t = (tt, rw e at t)
  named-fits false m e t = absurd (rw e at t)

-- tests as facts
pub two-below : (a b m n : ℕ) → T (ltb a m && ltb b n) → (a < m) × (b < n)
two-below a b m n t = (ltb→lt a m (and-fst (ltb a m) _ t), ltb→lt b n (and-snd (ltb a m) _ t))

pub three-below : (a b c m n o : ℕ) → T (ltb a m && (ltb b n && ltb c o)) → (a < m) × (b < n) × (c < o)
three-below a b c m n o t = let p = two-below b c n o (and-snd (ltb a m) _ t) in (ltb→lt a m (and-fst (ltb a m) _ t), p.0, p.1)

-- a bit by its number
pub bit_number-bit : (n : ℕ) → n < 2 → bit_number (eqb n 1) ≡ n
bit_number-bit zero h = refl
bit_number-bit (suc zero) h = refl
bit_number-bit (suc (suc n)) h = absurd (omega arith)
