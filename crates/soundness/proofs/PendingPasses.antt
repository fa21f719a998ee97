-- The search for the next pending message: a place passes the test of messages where no bit is set, and a word that was tested passes or
-- fails as a whole. Assumes nothing.
use Prim.Native.Nat.{ℕ, ◌+◌, ◌-◌, ◌≤◌, ◌<◌}
use mathlib.Core.Path.{◌≡◌, refl, sym, ◌∙◌}
use mathlib.Core.Logic.{⊎_elim}
use mathlib.Core.Bool.{Bool, true, false, not, ◌||◌}
use mathlib.Core.List.{List}
use native.Mathlib.Omega.{arith}
use Rattle.base.specs.Loops.{all}
use Rattle.memory.specs.Bits.{bit_set}
use Rattle.base.proofs.Cases.{lt-or-ge, true-or-false}
use Rattle.base.proofs.All.{all-at, all_from}
use Rattle.base.proofs.First.{first}
use Rattle.record.specs.Layout.{messages, pending_from}
use Rattle.messages.specs.inner.Numbers.{first_pending, NoneBefore}
use Rattle.messages.proofs.First.{first-pending-bit}
use Rattle.soundness.specs.inner.Pending.{fits, passes, places_pass}

-- k is at or after `from`, and the places before it pass
pub record Next (l : List ℕ) (from k : ℕ) : Type 0 where
  pub low : from ≤ k
  pub high : k ≤ messages
  pub passed : all k (passes l) ≡ true

pub next-zero : {l : List ℕ} {from k : ℕ} → Next l from k → Next l 0 k
next-zero n = record { low = omega arith; high = n.high; passed = n.passed }

or-true : (b : Bool) → b || true ≡ true
or-true true = refl
or-true false = refl

module _ (l : List ℕ) where
  -- a place passes whose message fits, and one where none is pending
  pub fits-passes : (i : ℕ) → fits l i ≡ true → passes l i ≡ true
  fits-passes i t = rw t (or-true (not (bit_set l pending_from i)))

  pub clear-passes : (i : ℕ) → bit_set l pending_from i ≡ false → passes l i ≡ true
  clear-passes i e = rw e

  -- so do the places before which nothing is pending
  pub none_passes : {i : ℕ} → NoneBefore l i → all i (passes l) ≡ true
  none_passes {i} c = all_from i (passes l) (λ j h. clear-passes j (c.clear j h))

  -- the next pending message, or the end
  pub next-first : (from : ℕ) → from ≤ messages → all from (passes l) ≡ true
      → Next l from (first_pending l from)
  next-first from h a =
      let f = first (messages - from) from (bit_set l pending_from) in
      rw (← first-pending-bit l from h) (record {
        low = f.low;
        high = omega (arith, f.high);
        passed = all_from _ (passes l)
            (λ j b. ⊎_elim (λ q. all-at from j (passes l) a q) (λ q. clear-passes j (f.before j q b)) (lt-or-ge j from));
      })

  -- n places from i on pass, and all before k, which is one of them: so do all up to their end
  pub next_more : {k : ℕ} (i n : ℕ) → Next l 0 k → i ≤ k → places_pass l i n ≡ true → all (i + n) (passes l) ≡ true
  next_more {k} i n a h t = all_from (i + n) (passes l)
      (λ j b. ⊎_elim (λ q. all-at k j (passes l) a.passed q) (λ q. later j (omega arith) b) (lt-or-ge j k))
    where
      later : (j : ℕ) → i ≤ j → j < i + n → passes l j ≡ true
      later j q b = let e : i + (j - i) ≡ j = omega arith in rw e at (all-at n (j - i) (λ j. passes l (i + j)) t (omega arith))

  -- one of n places from i on fails: so does the test of all
  pub next-fails : (i n : ℕ) → i + n ≤ messages → places_pass l i n ≡ false → all messages (passes l) ≡ false
  next-fails i n h f =
      ⊎_elim (λ t. t ∙ sym (all_from n (λ j. passes l (i + j)) (λ j b. all-at messages (i + j) (passes l) t (omega arith))) ∙ f) (λ e. e)
      (true-or-false (all messages (passes l)))

  -- there is none: the test passes
  pub next-none : {i : ℕ} → Next l 0 i → messages ≤ i → all messages (passes l) ≡ true
  next-none {i} n h = let e : messages ≡ i = omega (arith, n.high) in rw e n.passed
