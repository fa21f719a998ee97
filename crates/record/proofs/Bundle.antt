-- What a bundle does to any bytes (specs/Bundle.antt): each of its deliveries is accepted, so its count is theirs; it delivers at most its limit,
-- and fewer only if nothing is left pending; limit 0 changes nothing; a bundle of m + n is one of m and then one of n; and one of at least the
-- bound leaves nothing pending. Assumes only that the bytes are bytes.
use Prim.Native.Nat.{ℕ, zero, suc, ◌+◌, ◌≤◌, ◌<◌}
use mathlib.Core.Path.{◌≡◌, refl, sym, ap, ◌∙◌, subst}
use mathlib.Core.Option.{none, some}
use mathlib.Core.Bool.{Bool, true}
use mathlib.Core.List.{List, [], ◌∷◌, ◌++◌, map}
use native.Mathlib.Omega.{arith}
use lib.ListN.{length, length-append}
use Rattle.memory.specs.Bytes.{AreBytes}
use Rattle.graph.specs.Vector.{width}
use Rattle.protocol.specs.Message.{Msg, Name, name_of}
use Rattle.protocol.specs.Order.{smallest}
use Rattle.protocol.specs.State.{Meaning, is_pending}
use Rattle.protocol.specs.Refusals.{first}
use Rattle.protocol.specs.Calls.{Call, deliver, Outcome, rows, refusal, call, unless_refused}
use Rattle.protocol.specs.Sound.{Sound}
use Rattle.protocol.specs.Run.{accepted, AllAccepted}
use Rattle.protocol.specs.Bundle.{bundle_of, left_by}
use Rattle.protocol.proofs.Message.{named-name}
use Rattle.protocol.proofs.Numbering.{none-pending, pending-none}
use Rattle.protocol.proofs.Smallest.{smallest-all, none-all}
use Rattle.protocol.proofs.KeepSound.{call-sound}
use Rattle.protocol.proofs.Measure as measure
use Rattle.protocol.proofs.Falls as falls
use Rattle.protocol.proofs.Bundle as theory
use Rattle.record.specs.Layout.{seats}
use Rattle.record.specs.Meaning.{meaning, bytes_of}
use Rattle.record.specs.Reading.{CountAnswer, record_refusal, read_counts}
use Rattle.record.specs.Call.{called}
use Rattle.record.specs.Bundle.{bundle_in, bundled}
use Rattle.record.proofs.Places.{length-bytes_of}
use Rattle.record.proofs.Round.{bytes-meaning, bytes-bytes}
use Rattle.record.proofs.Sound.{sound-is, bytes-sound}
use Rattle.record.proofs.Refused.{Passed, record-passed}
use Rattle.record.proofs.Reading.{pending_count, pending_count-zero, record-accepted, counts-read}
use Rattle.record.proofs.Call.{call-bytes}

-- bytes that are a record which is not refused
pub record Fine (l : List ℕ) : Type 0 where
  pub passed : record_refusal l ≡ 0
  pub bytes : AreBytes l

pub fine-bytes : {M : Meaning} → Sound seats width M → Fine (bytes_of M)
fine-bytes {M} h = record { passed = record-accepted (bytes_of M) (length-bytes_of M) (bytes-sound h); bytes = bytes-bytes M }

module _ (l : List ℕ) (f : Fine l) where
  is-passed : Passed l
  is-passed = record-passed l refl f.passed

  pub is-sound : Sound seats width (meaning l)
  is-sound = ((sound-is l is-passed.sized f.bytes).0 is-passed.fine).1

  same : l ≡ bytes_of (meaning l)
  same = sym (bytes-meaning ((sound-is l is-passed.sized f.bytes).0 is-passed.fine).0)

  -- a call on it is the protocol's on its meaning
  call-here : (c : Call)
      → called l c ≡ record { refused = (call seats width (meaning l) c).refused; after = bytes_of (call seats width (meaning l) c).after }
  call-here c = ap (λ (k : List ℕ). called k c) same ∙ call-bytes (meaning l) is-sound c

  pub delivery-fine : (n : Name) → Fine (called l (deliver n)).after
  delivery-fine n =
      subst Fine (sym (ap (λ (o : Outcome (List ℕ)). o.after) (call-here (deliver n))))
      (fine-bytes (call-sound seats width (meaning l) is-sound (deliver n) tt))

  -- the delivery of the smallest message is accepted
  pub smallest-accepted : (m : Msg) → smallest seats width (meaning l).pending ≡ some m → (called l (deliver (name_of m))).refused ≡ 0
  unfolding call refusal rows first is_pending
  smallest-accepted m e =
      let p : (meaning l).pending m ≡ true = ((smallest-all seats width (meaning l).pending m).0 e).passes in
      ap (λ (o : Outcome (List ℕ)). o.refused) (call-here (deliver (name_of m))) ∙ rw (named-name m, p)

  counted : (read_counts l).pending ≡ pending_count (meaning l)
  counted = ap (λ (a : CountAnswer). a.pending) (counts-read l is-passed.sized is-passed.fine)

  -- nothing is pending where there is no smallest message
  none-count : smallest seats width (meaning l).pending ≡ none → (read_counts l).pending ≡ 0
  none-count e = counted ∙ (pending_count-zero (meaning l)).1 (pending-none seats width (meaning l).pending ((none-all seats width (meaning l).pending).0 e))

  -- and there is none where nothing is
  count_none : (read_counts l).pending ≡ 0 → smallest seats width (meaning l).pending ≡ none
  count_none e = (none-all seats width (meaning l).pending).1
      (none-pending seats width (meaning l).pending ((pending_count-zero (meaning l)).0 (sym counted ∙ e)))

-- no list of deliveries has more accepted ones than the bound, on any such record
accepted-same : (M : Meaning) → Sound seats width M → (ns : List Name)
    → accepted called (bytes_of M) (map deliver ns) ≡ accepted (call seats width) M (map deliver ns)
unfolding accepted
accepted-same M h [] = refl
accepted-same M h (n ∷ ns) =
    ap (λ (o : Outcome (List ℕ)). unless_refused o.refused 0 1 + accepted called o.after (map deliver ns)) (call-bytes M h (deliver n))
    ∙ ap (λ (a : ℕ). unless_refused (call seats width M (deliver n)).refused 0 1 + a)
    (accepted-same (call seats width M (deliver n)).after (call-sound seats width M h (deliver n) tt) ns)

pub deliveries-end : (l : List ℕ) → Fine l → (ns : List Name) → accepted called l (map deliver ns) ≤ measure.bound seats width (meaning l)
deliveries-end l f ns =
    let e = ap (λ (k : List ℕ). accepted called k (map deliver ns)) (same l f) ∙ accepted-same (meaning l) (is-sound l f) ns in
    rw e (falls.deliveries-end seats width ns (meaning l) (is-sound l f))

-- the theory at the bytes
abbrev pending_in : List ℕ → Msg → Bool
pending_in l = (meaning l).pending

abbrev steady : (l : List ℕ) (m : Msg) → Fine l → smallest seats width (meaning l).pending ≡ some m
    → ((called l (deliver (name_of m))).refused ≡ 0) × Fine (called l (deliver (name_of m))).after
steady l m f e = (smallest-accepted l f m e, delivery-fine l f (name_of m))

left-fine : (l : List ℕ) (ns : List Name) → Fine l → Fine (left_by called l ns)
unfolding left_by
left-fine l [] f = f
left-fine l (n ∷ ns) f = left-fine (called l (deliver n)).after ns (delivery-fine l f n)

-- the messages of a bundle on a record that is refused, and on one that is not
bundle-refused : (l : List ℕ) (n k : ℕ) → record_refusal l ≡ suc k → bundle_in l n ≡ []
unfolding bundle_in unless_refused
bundle-refused l n k e = rw e

bundle-fine : (l : List ℕ) (n : ℕ) → record_refusal l ≡ 0 → bundle_in l n ≡ bundle_of called seats width pending_in n l
unfolding bundle_in unless_refused
bundle-fine l n e = rw e

-- step by step: nothing pending, or the smallest and then the bundle of one less
pub bundle-done : (l : List ℕ) (n : ℕ) → record_refusal l ≡ 0 → smallest seats width (meaning l).pending ≡ none
    → bundled l n ≡ record { refused = 0; delivered = 0; after = l }
unfolding bundled left_by
bundle-done l n e q = rw (bundle-fine l n e, theory.bundle-none called seats width pending_in n l q, e)

-- with nothing pending it does nothing
pub bundle-none : (l : List ℕ) → Fine l → (n : ℕ) → (read_counts l).pending ≡ 0 → bundled l n ≡ record { refused = 0; delivered = 0; after = l }
bundle-none l f n e = bundle-done l n f.passed (count_none l f e)

-- the record after it is fine
pub bundle-keeps : (l : List ℕ) → Fine l → (n : ℕ) → Fine (bundled l n).after
unfolding bundled
bundle-keeps l f n = left-fine l (bundle_in l n) f

pub bundle-step : (l : List ℕ) → Fine l → (n : ℕ) (m : Msg) → smallest seats width (meaning l).pending ≡ some m
    → let y = bundled (called l (deliver (name_of m))).after n in
    bundled l (suc n) ≡ record { refused = 0; delivered = suc y.delivered; after = y.after }
unfolding bundled left_by
bundle-step l f n m q =
    rw (
      bundle-fine l (suc n) f.passed,
      theory.bundle-more called seats width pending_in n l m q,
      f.passed,
      bundle-fine (called l (deliver (name_of m))).after n (delivery-fine l f (name_of m)).passed,
    )

-- what holds where the record is refused, and where it is not
either : (l : List ℕ) (P : Type 0) → ((k : ℕ) → record_refusal l ≡ suc k → P) → (record_refusal l ≡ 0 → P) → P
either l P g h = by (record_refusal l) refl
  where
    by : (r : ℕ) → record_refusal l ≡ r → P
    by zero e = h e
    by (suc k) e = g k e

module _ (l : List ℕ) where
  -- a refused bundle leaves the bytes
  pub bundle-same : (n k : ℕ) → (bundled l n).refused ≡ suc k → bundled l n ≡ record { refused = suc k; delivered = 0; after = l }
  unfolding bundled left_by
  bundle-same n k e = rw (bundle-refused l n k e, e)

  none_at_zero : bundle_in l 0 ≡ []
  unfolding bundle_of
  none_at_zero = either l (bundle_in l 0 ≡ []) (λ k e. bundle-refused l 0 k e) (λ e. bundle-fine l 0 e)

  -- limit 0 changes nothing
  pub bundle-zero : bundled l 0 ≡ record { refused = record_refusal l; delivered = 0; after = l }
  unfolding bundled left_by
  bundle-zero = rw none_at_zero

  -- at most the limit
  pub bundle-limit : (n : ℕ) → (bundled l n).delivered ≤ n
  unfolding bundled
  bundle-limit n = either l (length (bundle_in l n) ≤ n)
      (λ k e. rw (bundle-refused l n k e) (omega arith))
      (λ e. rw (bundle-fine l n e) (theory.bundle-limit called seats width pending_in n l))

module _ (l : List ℕ) (b : AreBytes l) where
  -- every delivery of a bundle is accepted
  pub all-accepted : (n : ℕ) → AllAccepted called l (map deliver (bundle_in l n))
  unfolding AllAccepted
  all-accepted n = either l (AllAccepted called l (map deliver (bundle_in l n)))
      (λ k e. rw (bundle-refused l n k e) tt)
      (λ e. rw (bundle-fine l n e) (theory.bundle-accepted called seats width pending_in Fine steady n l (record { passed = e; bytes = b })))

  -- so the count is the number of deliveries made
  pub bundle-count : (n : ℕ) → (bundled l n).delivered ≡ accepted called l (map deliver (bundle_in l n))
  unfolding bundled
  bundle-count n = sym (theory.deliveries-counted called l (bundle_in l n) (all-accepted n))

  -- less only if nothing is left
  pub bundle-less : (n : ℕ) → record_refusal l ≡ 0 → (bundled l n).delivered < n → (read_counts (bundled l n).after).pending ≡ 0
  unfolding bundled
  bundle-less n e h =
      none-count (left_by called l (bundle_in l n)) (left-fine l (bundle_in l n) (record { passed = e; bytes = b }))
      (rw (bundle-fine l n e) (theory.bundle-less called seats width pending_in n l (rw (bundle-fine l n e) at h)))

  -- a bundle of m + n is one of m and then one of n
  messages-sum : (m n : ℕ) → bundle_in l (m + n) ≡ bundle_in l m ++ bundle_in (left_by called l (bundle_in l m)) n
  unfolding left_by
  messages-sum m n = either l (bundle_in l (m + n) ≡ bundle_in l m ++ bundle_in (left_by called l (bundle_in l m)) n)
      (λ k e. rw (bundle-refused l (m + n) k e, bundle-refused l m k e) (sym (bundle-refused l n k e)))
      (λ e.
      let f = left-fine l (bundle_in l m) (record { passed = e; bytes = b }) in
      rw (bundle-fine (left_by called l (bundle_in l m)) n f.passed, bundle-fine l (m + n) e, bundle-fine l m e)
      (theory.bundle-sum called seats width pending_in m n l))

  pub bundle-sum : (m n : ℕ) → let x = bundled l m in let y = bundled x.after n in
      bundled l (m + n) ≡ record { refused = x.refused; delivered = x.delivered + y.delivered; after = y.after }
  unfolding bundled
  bundle-sum m n =
      rw (
        messages-sum m n,
        length-append (bundle_in l m) (bundle_in (left_by called l (bundle_in l m)) n),
        theory.left-append called l (bundle_in l m) (bundle_in (left_by called l (bundle_in l m)) n),
      )

  -- one of at least the bound leaves nothing pending
  pub bundle-drains : (n : ℕ) → record_refusal l ≡ 0 → measure.bound seats width (meaning l) ≤ n → (read_counts (bundled l n).after).pending ≡ 0
  unfolding bundled
  bundle-drains n e h =
      let f : Fine l = record { passed = e; bytes = b } in
      none-count (left_by called l (bundle_in l n)) (left-fine l (bundle_in l n) f)
      (rw (bundle-fine l n e) (theory.bundle-drains called seats width pending_in Fine steady (measure.bound seats width (meaning l)) n l f
      (λ ns t. rw (← theory.deliveries-counted called l ns t) (deliveries-end l f ns)) h))
