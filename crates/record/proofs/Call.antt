-- The calls on the bytes of a sound meaning are the protocol's calls on the meaning: the same refusal number, and the bytes of the
-- meaning after. Assumes nothing.
use Prim.Native.Nat.{ℕ, zero, suc}
use mathlib.Core.Path.{◌≡◌, refl, sym, ap, ◌∙◌}
use mathlib.Core.Bool.{true}
use mathlib.Core.List.{List}
use lib.ListN.{length}
use Rattle.memory.specs.Bytes.{AreBytes}
use Rattle.graph.specs.Vector.{width}
use Rattle.protocol.specs.State.{Meaning}
use Rattle.protocol.specs.Calls.{Call, refusal, Outcome, accept, unless_refused, call, InRange}
use Rattle.protocol.specs.Sound.{Sound}
use Rattle.protocol.proofs.KeepSound.{call-sound}
use Rattle.record.specs.Layout.{seats, size}
use Rattle.record.specs.Meaning.{meaning, bytes_of}
use Rattle.record.specs.Sound.{sound}
use Rattle.record.proofs.Places.{length-bytes_of}
use Rattle.record.proofs.Refused.{record-goes}
use Rattle.record.proofs.Accepted.{call-later}
use Rattle.record.proofs.Round.{bytes-meaning, meaning-bytes}
use Rattle.record.proofs.Sound.{sound-is, bytes-sound}
use Rattle.record.specs.Call.{call_refusal, called}

-- 1 and 2 do not apply to a record of the right size that is sound
pub record-accepted : (l : List ℕ) → length l ≡ size → sound l ≡ true → (c : Call)
    → call_refusal l c ≡ refusal seats width (meaning l).seats (meaning l).pending c
unfolding call_refusal refusal
record-accepted l e s c = record-goes l _ (call-later l c) (record { sized = e; fine = s })

bytes-unless : (n : ℕ) (M M' : Meaning) → unless_refused n (bytes_of M) (bytes_of M') ≡ bytes_of (unless_refused n M M')
unfolding unless_refused
bytes-unless zero M M' = refl
bytes-unless (suc n) M M' = refl

pub call-refusal : (M : Meaning) → Sound seats width M → (c : Call) → call_refusal (bytes_of M) c ≡ refusal seats width M.seats M.pending c
call-refusal M s c =
    record-accepted (bytes_of M) (length-bytes_of M) (bytes-sound s) c
    ∙ ap (λ (X : Meaning). refusal seats width X.seats X.pending c) (meaning-bytes s)

pub call-bytes : (M : Meaning) → Sound seats width M → (c : Call)
    → called (bytes_of M) c ≡ record { refused = (call seats width M c).refused; after = bytes_of (call seats width M c).after }
unfolding called call
call-bytes M s c =
    ap (λ (X : Meaning). record {
      refused = call_refusal (bytes_of M) c;
      after = unless_refused (call_refusal (bytes_of M) c) (bytes_of M) (bytes_of (accept seats width X c));
    }) (meaning-bytes s)
    ∙ ap (λ (n : ℕ). record { refused = n; after = unless_refused n (bytes_of M) (bytes_of (accept seats width M c)) }) (call-refusal M s c)
    ∙ ap (λ (l : List ℕ). record { refused = refusal seats width M.seats M.pending c; after = l })
    (bytes-unless (refusal seats width M.seats M.pending c) M (accept seats width M c))

-- refused: every byte as before
pub refused-same : (l : List ℕ) (c : Call) (n : ℕ) → (called l c).refused ≡ suc n → (called l c).after ≡ l
unfolding called unless_refused
refused-same l c n e = rw e

-- a call that leaves the bytes as they are where it is accepted leaves every byte
pub call-idle : (l : List ℕ) (c : Call) → (call_refusal l c ≡ 0 → bytes_of (accept seats width (meaning l) c) ≡ l) → (called l c).after ≡ l
unfolding called unless_refused
call-idle l c h = by (call_refusal l c) refl
  where
    by : (n : ℕ) → call_refusal l c ≡ n → unless_refused n l (bytes_of (accept seats width (meaning l) c)) ≡ l
    by zero e = h e
    by (suc n) e = refl

-- on any sound bytes: the table's refusal number, the meaning after, and sound bytes after
module _ (l : List ℕ) (z : length l ≡ size) (b : AreBytes l) (s : sound l ≡ true) where
  fine : Sound seats width (meaning l)
  fine = ((sound-is l z b).0 s).1

  same : called l ≡ called (bytes_of (meaning l))
  same = ap called (sym (bytes-meaning ((sound-is l z b).0 s).0))

  pub sound-refusal : (c : Call) → (called l c).refused ≡ (call seats width (meaning l) c).refused
  sound-refusal c = ap (λ (f : Call → Outcome (List ℕ)). (f c).refused) same
      ∙ ap (λ (o : Outcome (List ℕ)). o.refused) (call-bytes (meaning l) fine c)

  after : (c : Call) → (called l c).after ≡ bytes_of (call seats width (meaning l) c).after
  after c = ap (λ (f : Call → Outcome (List ℕ)). (f c).after) same ∙ ap (λ (o : Outcome (List ℕ)). o.after) (call-bytes (meaning l) fine c)

  pub sound-meaning : (c : Call) → InRange seats width c → meaning (called l c).after ≡ (call seats width (meaning l) c).after
  sound-meaning c r = ap meaning (after c) ∙ meaning-bytes (call-sound seats width (meaning l) fine c r)

  pub sound-kept : (c : Call) → InRange seats width c → sound (called l c).after ≡ true
  sound-kept c r = ap sound (after c) ∙ bytes-sound (call-sound seats width (meaning l) fine c r)
