-- The first word that has a pending message: by the words noted below the reach, or beyond it; and the smallest message by it. Assumes nothing.
use Prim.Native.Nat.{ℕ, ◌+◌, ◌-◌, ◌*◌, ◌/◌, ◌≤◌, ◌<◌}
use mathlib.Core.Path.{◌≡◌, sym, ◌∙◌}
use mathlib.Core.Logic.{⊎_elim}
use mathlib.Core.Option.{none, some}
use mathlib.Core.Bool.{Bool, true, false}
use mathlib.Core.List.{List}
use native.Mathlib.Omega.{arith}
use lib.Dec.{ltb}
use borrow.Author.Tests.{ltb-true, ltb-false}
use Rattle.std.specs.Prelude as code
use Rattle.std.specs.Prelude.{Some, None, MatchOption}
use lib.ListN.{length, get_or}
use Rattle.base.specs.Loops.{first_from}
use Rattle.base.proofs.Cases.{lt-or-ge, eq-or-ne}
use Rattle.base.proofs.Tests.{T_true, true-false, not-T-false}
use Rattle.memory.specs.Bits.{bit_set, with_bit}
use Rattle.memory.specs.inner.Words.{word_set}
use Rattle.base.proofs.First.{IsFirst, first, first-is, first_any}
use Rattle.memory.proofs.Words.{bit_word, word-clear, clear-word-bits}
use Rattle.graph.specs.Vector.{width}
use Rattle.protocol.specs.Numbering.{message_at}
use Rattle.protocol.specs.Order.{smallest}
use Rattle.record.specs.Layout.{seats, messages, pending_from}
use Rattle.record.specs.Meaning.{meaning}
use Rattle.record.proofs.Form.{meaning-bit}
use Rattle.messages.specs.inner.Numbers.{first_pending}
use Rattle.messages.proofs.First.{first-pending-bit, first-smallest, first-none, first-of-all}
use Rattle.index.specs.inner.Index.{words, parts, is_noted, noting, first_noted}
use Rattle.index.proofs.Noted.{noted-same, noted_other, note-exact, none-noted, exact_none}
use Rattle.bundle.specs.inner.Steps.{first_word, Tracks, IsReady}

-- a test that does not pass
fails : {b : Bool} → (b ≡ true → ⊥) → b ≡ false
fails h = not-T-false (λ t. h (T_true t))

-- a noted word is below the reach: the first noted one is the first that has a message
pub ready : {l x : List ℕ} {t reach w : ℕ} → Tracks l x t reach → w ≡ first_noted x → w < reach → IsReady l x w
ready {l} {x} {reach = reach} {w} k e h = record {
  word = rw (sym is-first) (omega (arith, k.within));
  first = e ∙ is-first;
  noted = rw e is-noted;
}
  where
    f : IsFirst (parts * 64) 0 (is_noted x) (first_from (parts * 64) 0 (is_noted x))
    f = first (parts * 64) 0 (is_noted x)

    is-noted : is_noted x (first_from (parts * 64) 0 (is_noted x)) ≡ true
    is-noted = f.found (omega (arith, k.within, e))

    is-first : first_noted x ≡ first_word l
    is-first = sym (first-is words 0 (word_set l pending_from) (first_noted x) (record {
      low = omega arith;
      high = omega (arith, k.within, e);
      before = λ v p q. fails (λ s. true-false (k.all v (omega (arith, e)) s) (f.before v p q));
      found = λ g. k.has (first_noted x) (omega (arith, e)) is-noted;
    }))

-- o is the first noted word, and b says whether there is one below the reach
abbrev pub IsBelow : (reach : ℕ) → code.Option ℕ → Bool → Type 0
IsBelow reach o b = MatchOption o (b ≡ false) (λ w. b ≡ ltb w reach)

abbrev pub IsFirstNoted : List ℕ → code.Option ℕ → Type 0
IsFirstNoted x o = MatchOption o ((w : ℕ) → w < parts * 64 → is_noted x w ≡ false) (λ w. (w ≡ first_noted x) × (w < parts * 64))

pub noted-ready : {l x : List ℕ} {t reach : ℕ} {b : Bool} (A : Type 0) → Tracks l x t reach → (o : code.Option ℕ) → IsFirstNoted x o → IsBelow reach o b
    → b ≡ true → MatchOption o A (λ w. Tracks l x t reach × IsReady l x w)
noted-ready A k None f e t = true-false t e
noted-ready {reach = reach} A k (Some w) f e t = (k, ready k f.0 (ltb-true w reach (sym e ∙ t)))

pub none-below : (x : List ℕ) {reach : ℕ} {b : Bool} → reach ≤ words → (o : code.Option ℕ) → IsFirstNoted x o → IsBelow reach o b
    → b ≡ false → (w : ℕ) → w < reach → is_noted x w ≡ false
none-below x h None f e t w l = f w (omega arith)
none-below x {reach} h (Some r) f e t w l =
    let g : reach ≤ r = ltb-false r reach (sym e ∙ t) in
    (first (parts * 64) 0 (is_noted x)).before w (omega arith) (omega (arith, f.0))

-- no word below the reach is noted: i is the first place from there on whose message is pending
module _ {l x : List ℕ} {t reach i : ℕ} (k : Tracks l x t reach) (none_below : (w : ℕ) → w < reach → is_noted x w ≡ false)
    (e : i ≡ first_pending l (reach * 64)) where
  at : IsFirst (messages - reach * 64) (reach * 64) (bit_set l pending_from) i
  at = rw (e, ← first-pending-bit l (reach * 64) (omega (arith, k.within))) (first (messages - reach * 64) (reach * 64) (bit_set l pending_from))

  -- no word before that place has a message
  before : (w : ℕ) → w < i / 64 → word_set l pending_from w ≡ false
  before w h = ⊎_elim
      (λ g. fails (λ s. true-false (k.all w g s) (none_below w g)))
      (λ g. clear-word-bits l pending_from w (λ j p. at.before (w * 64 + j) (omega arith) (omega arith)))
      (lt-or-ge w reach)

  clear : (j : ℕ) → j < reach * 64 → bit_set l pending_from j ≡ false
  clear j h = word-clear l pending_from j (fails (λ s. true-false (k.all (j / 64) (omega arith) s) (none_below (j / 64) (omega arith))))

  -- there is one: its word is noted, and the reach is after it
  module _ (h : i < messages) where
    room : i / 64 / 64 < length x
    room = omega (arith, k.exact.long)

    pub extended : Tracks l (noting x (i / 64) true) (with_bit t (i / 64 / 64) true) (i / 64 + 1)
    extended = record {
      exact = note-exact (i / 64) (omega arith) k.exact;
      within = omega arith;
      has = λ w p n. ⊎_elim (λ q. has-own w q) (λ ne. k.has w p (sym (noted_other x (i / 64) true room w ne) ∙ n)) (eq-or-ne w (i / 64));
      all = λ w p s. ⊎_elim (λ q. rw q own) (λ ne. true-false s (before w (omega (arith, ne)))) (eq-or-ne w (i / 64));
    }
      where
        own : is_noted (noting x (i / 64) true) (i / 64) ≡ true
        own = noted-same x (i / 64) true room

        has-own : (w : ℕ) → w ≡ i / 64 → word_set l pending_from w ≡ true
        has-own w q = rw q (bit_word l pending_from i (at.found (omega arith)))

    -- its word is the first that has a message
    pub found-ready : IsReady l (noting x (i / 64) true) (i / 64)
    found-ready = record {
      word = rw (sym is-first) (omega arith);
      first = is-first;
      noted = noted-same x (i / 64) true room;
    }
      where
        is-first : i / 64 ≡ first_word l
        is-first = sym (first-is words 0 (word_set l pending_from) (i / 64) (record {
          low = omega arith;
          high = omega arith;
          before = λ w p q. before w q;
          found = λ g. bit_word l pending_from i (at.found (omega arith));
        }))

  -- there is none: nothing is pending
  pub none_left : i ≡ messages → smallest seats width (meaning l).pending ≡ none
  none_left z = first-none l (reach * 64) (λ j h. meaning-bit l j (omega (arith, k.within)) ∙ clear j h) (sym e ∙ z)

-- an index of zeros, where no word below `from` has a message
pub started : (l x : List ℕ) (from : ℕ) → ((i : ℕ) → get_or x i 0 ≡ 0) → length x ≡ parts → from ≤ first_word l → Tracks l x 0 from
started l x from z e h =
    let f = first words 0 (word_set l pending_from) in
    record {
      exact = exact_none x z e;
      within = omega (arith, f.high);
      has = λ w p n. true-false n (none-noted x z w);
      all = λ w p s. true-false s (f.before w (omega arith) (omega arith));
    }

-- the first pending message of all, at place i: its word is not after the first word, and without one nothing is pending
module _ (l : List ℕ) {i : ℕ} (e : i ≡ first_pending l 0) where
  pub first-place : i / 64 ≤ first_word l
  first-place = ⊎_elim (λ h. absurd (by h)) (λ h. h) (lt-or-ge (first_word l) (i / 64))
    where
      by : first_word l < i / 64 → ⊥
      by h =
          let f = first words 0 (word_set l pending_from) in
          let all = first-of-all l e in
          true-false (f.found (omega (arith, all.high)))
          (clear-word-bits l pending_from (first_word l) (λ j p. all.before (first_word l * 64 + j) (omega arith) (omega arith)))

  pub quiet_none : i ≡ messages → smallest seats width (meaning l).pending ≡ none
  quiet_none z = first-none l 0 (λ j h. absurd (omega arith)) (sym e ∙ z)

-- the first message of the first word
module _ (l : List ℕ) (h : first_word l < words) where
  abbrev w : ℕ
  w = first_word l

  abbrev in_word : ℕ → Bool
  in_word j = bit_set l pending_from (first_word l * 64 + j)

  pub word_some : word_set l pending_from (first_word l) ≡ true
  word_some = (first words 0 (word_set l pending_from)).found (omega arith)

  pub bit_below : first_from 64 0 in_word < 64
  bit_below = first_any 64 in_word word_some

  abbrev pub first_place : ℕ
  first_place = first_word l * 64 + first_from 64 0 in_word

  pub place_set : bit_set l pending_from first_place ≡ true
  place_set = (first 64 0 in_word).found (omega (arith, bit_below))

  pub place-below : first_place < messages
  place-below = omega (arith, bit_below, h)

  inside : (j : ℕ) → first_word l ≤ j / 64 → j < first_place → bit_set l pending_from j ≡ false
  inside j p q =
      let d : j ≡ first_word l * 64 + (j - first_word l * 64) = omega (arith, bit_below) in
      rw d ((first 64 0 in_word).before (j - first_word l * 64) (omega arith) (omega arith))

  at_place : IsFirst messages 0 (bit_set l pending_from) first_place
  at_place = record {
    low = omega arith;
    high = omega (arith, place-below);
    before = λ j p q. ⊎_elim
        (λ g. word-clear l pending_from j ((first words 0 (word_set l pending_from)).before (j / 64) (omega arith) g))
        (λ g. inside j g q)
        (lt-or-ge (j / 64) (first_word l));
    found = λ g. place_set;
  }

  pub least : smallest seats width (meaning l).pending ≡ some (message_at seats width first_place)
  least =
      let e = sym (first-pending-bit l 0 (omega arith)) ∙ first-is messages 0 (bit_set l pending_from) first_place at_place in
      rw (← e) (first-smallest l 0 (λ j p. absurd (omega arith)) (omega arith) (rw e place-below))

-- a word that is ready has a pending message
pub ready-word : {l x : List ℕ} {w : ℕ} → IsReady l x w → (w < words) × (word_set l pending_from w ≡ true)
ready-word {l} r = (rw r.first r.word, rw r.first (word_some l r.word))
