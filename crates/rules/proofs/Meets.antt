-- MEET: from what its handlers read and did, step by step, to the effect of the rule on the bytes. Assumes nothing.
use Prim.Native.Nat.{ℕ, ◌<◌}
use Rattle.std.specs.Prelude as code
use Rattle.std.specs.Prelude.{Some, None, MatchOption, is_some}
use Rattle.std.specs.Option.{option_eq}
use mathlib.Core.Path.{◌≡◌, refl, sym, ap, ◌∙◌}
use mathlib.Core.Logic.{inl}
use mathlib.Core.Option.{Option}
use mathlib.Core.Bool.{Bool, true, false, not, cond}
use mathlib.Core.List.{List, [], ◌∷◌, ◌++◌}
use native.Mathlib.Omega.{arith}
use borrow.Author.Tests.{lt-ltb, eq-eqb}
use lib.Dec.{eqb, ltb}
use lib.ListN.{set}
use lib.Seq.{get_or-set_other}
use Rattle.memory.specs.Bytes.{number_at}
use Rattle.memory.proofs.Bytes.{number_at-set-other}
use Rattle.graph.specs.Side.{Side, left, right, opp, on_side, side_of}
use Rattle.graph.specs.Vector.{width, bit}
use Rattle.protocol.specs.Message.{meet, probe, pull}
use Rattle.protocol.specs.Numbering.{place}
use Rattle.protocol.specs.Rules.{Entry, Effect, to_link, sending, setting, meeting, effect}
use Rattle.protocol.specs.State.{Meaning, entry}
use Rattle.protocol.specs.pages.Deliver.{rule, applied}
use Rattle.record.specs.Layout.{seats, levels, vector_size, link_at, vector_from}
use Rattle.record.specs.Meaning.{meaning, link_of}
use Rattle.record.proofs.Form.{meaning-vector, meaning-link}
use Rattle.record.specs.inner.Entry.{written}
use Rattle.record.specs.Code.{as_link}
use Rattle.rules.specs.inner.Done.{changed, Indexed, indexed, send_at, send_all, carried}
use Rattle.rules.specs.inner.Told.{told}
use Rattle.rules.proofs.Sends.{send-more, send-append}

-- PROBE and PULL after a set below the highest level: x is the record with the PROBE sent, y with the PULL
pub spread-sent : (l : List ℕ) (to about v : ℕ) (other : code.Option ℕ) (d : Side) (n : List ℕ) (u : ℕ) {x y : Indexed} {level i : ℕ} → level < width
    → i ≡ place seats width (probe about to level)
    → x ≡ send_at i (indexed l n u)
    → y ≡ send_all (to_link (as_link other) (λ z. pull z (not (bit width level v)) level d)) x
    → y ≡ send_all (cond (ltb level width)
    (probe about to level ∷ to_link (as_link other) (λ z. pull z (not (bit width level v)) level d)) []) (indexed l n u)
spread-sent l to about v other d n u h ei ex ey = rw (lt-ltb _ _ h, send-more, ← ei, ← ex) ey

-- what is sent after a set, by the link that was there
told_is : (M : Meaning) (to about level : ℕ) (d : Side) (old : Option ℕ) → told M to about level d old
    ≡ meet about to level ∷ (to_link old (λ o. meet about o level) ++ cond (ltb level width)
    (probe about to level ∷ to_link (M.link to level (opp d)) (λ z. pull z (not (bit width level (M.seats.vector to))) level (opp d))) [])
unfolding told setting applied
told_is M to about level left old = rw (eq-eqb to to refl, eq-eqb level level refl)
told_is M to about level right old = rw (eq-eqb to to refl, eq-eqb level level refl)

-- one after the other: x is the record with the MEET about `to`, y with that about the old link, z with the rest
pub told-sent : (l n : List ℕ) (u to about level : ℕ) (old other : code.Option ℕ) (d : Side) (v : ℕ) {x y z : Indexed} {i : ℕ} → to < seats
    → as_link other ≡ (meaning l).link to level (opp d)
    → v ≡ number_at l (vector_from to) vector_size
    → i ≡ place seats width (meet about to level)
    → x ≡ send_at i (indexed l n u)
    → y ≡ send_all (to_link (as_link old) (λ o. meet about o level)) x
    → z ≡ send_all (cond (ltb level width)
    (probe about to level ∷ to_link (as_link other) (λ o. pull o (not (bit width level v)) level (opp d))) []) y
    → z ≡ send_all (told (meaning l) to about level d (as_link old)) (indexed l n u)
told-sent l n u to about level old other d v ht eo ev ei ex ey ez =
    rw (told_is, send-more, send-append, ← eo, meaning-vector l to ht, ← ev, ← ei, ← ex, ← ey) ez

-- a link written leaves the link on the other side and the vector
module _ (l : List ℕ) (to level : ℕ) (d : Side) (v : ℕ) (ht : to < seats) (hl : level < levels) where
  apart : (d : Side) → link_at to level (opp d) ≡ link_at to level d → ⊥
  apart left e = omega arith
  apart right e = omega arith

  same-other : (meaning (set l (link_at to level d) v)).link to level (opp d) ≡ (meaning l).link to level (opp d)
  same-other =
      meaning-link _ to level (opp d) ht hl
      ∙ ap link_of (get_or-set_other l (link_at to level d) (link_at to level (opp d)) v 0 (apart d))
      ∙ sym (meaning-link l to level (opp d) ht hl)

  same-vector : (meaning (set l (link_at to level d) v)).seats.vector to ≡ (meaning l).seats.vector to
  same-vector =
      meaning-vector _ to ht
      ∙ number_at-set-other l (link_at to level d) v (vector_from to) vector_size (inl (omega arith))
      ∙ sym (meaning-vector l to ht)

-- what the rule does, by the link: it is `about`, or another, of which r says whether it is nearer
module _ (num vec : ℕ → ℕ) (e : Entry) (to about level : ℕ) (d : Side) where
  meeting-same : (old : code.Option ℕ) → option_eq eqb old (Some about) ≡ true → meeting width num vec e to about level d (as_link old) ≡ sending []
  unfolding meeting
  meeting-same None q = cc
  meeting-same (Some z) q = let t : eqb z about ≡ true = q in rw t

  abbrev meeting-by : code.Option ℕ → Effect
  meeting-by None = setting width num vec e to about level d
  meeting-by (Some z) = sending (meet z about level ∷ [])

  meeting-other : (old r : code.Option ℕ) → option_eq eqb old (Some about) ≡ false
      → MatchOption old (r ≡ None) (λ z. r ≡ cond (on_side d (num z) (num about)) (Some z) None)
      → meeting width num vec e to about level d (as_link old) ≡ meeting-by r
  unfolding meeting
  meeting-other None r q h = rw h
  meeting-other (Some z) r q h = let t : eqb z about ≡ false = q in rw (t, h) (by (on_side d (num z) (num about)))
    where
      by : (b : Bool) → cond b (sending (meet z about level ∷ [])) (setting width num vec e to about level d) ≡ meeting-by (cond b (Some z) None)
      by true = refl
      by false = refl

-- the link is `about`
pub same-done : (l n : List ℕ) (u to about level : ℕ) (d : Side) (old : code.Option ℕ)
    → d ≡ side_of ((meaning l).seats.number to) ((meaning l).seats.number about)
    → as_link old ≡ (meaning l).link to level d
    → option_eq eqb old (Some about) ≡ true
    → indexed l n u ≡ carried to (rule width (meaning l) (meet to about level)) (indexed l n u)
unfolding carried send_all changed rule effect
same-done l n u to about level d old es eo e = rw (← es, ← eo, meeting-same _ _ _ to about level d old e)

-- what was read and written where it is another: r is the link if it is nearer, c what becomes of it, and w the record after the writing
pub record Met (l : List ℕ) (to about level : ℕ) (d : Side) (old r : code.Option ℕ) (c : code.Option ℕ) (w : List ℕ) : Type 0 where
  pub side : d ≡ side_of ((meaning l).seats.number to) ((meaning l).seats.number about)
  pub link : as_link old ≡ (meaning l).link to level d
  pub other : option_eq eqb old (Some about) ≡ false
  pub nearer : MatchOption old (r ≡ None)
      (λ z. r ≡ cond (on_side d ((meaning l).seats.number z) ((meaning l).seats.number about)) (Some z) None)
  pub change : c ≡ cond (is_some r) None (Some about)
  pub wrote : w ≡ written l to level d c

-- x is all that is left
module _ {l : List ℕ} {to about level : ℕ} {d : Side} {old r : code.Option ℕ} {c : code.Option ℕ} {w : List ℕ} (m : Met l to about level d old r c w) where
  rule-is : rule width (meaning l) (meet to about level)
      ≡ meeting-by (meaning l).seats.number (meaning l).seats.vector (entry (meaning l) to) to about level d r
  unfolding rule effect
  rule-is = rw (← m.side, ← m.link) (meeting-other _ _ _ to about level d old r m.other m.nearer)

  pub passed-done : (n : List ℕ) (u : ℕ) {z : ℕ} {x : Indexed} {i : ℕ} → r ≡ Some z
      → i ≡ place seats width (meet z about level)
      → x ≡ send_at i (indexed w n u)
      → x ≡ carried to (rule width (meaning l) (meet to about level)) (indexed l n u)
  unfolding carried changed send_all
  passed-done n u t ei ex = rw (rule-is, t) (rw (m.wrote, m.change, t, ei) at ex)

  pub set-done : (n : List ℕ) (u : ℕ) {x : Indexed} → r ≡ None
      → to < seats
      → level < levels
      → x ≡ send_all (told (meaning w) to about level d (as_link old)) (indexed w n u)
      → x ≡ carried to (rule width (meaning l) (meet to about level)) (indexed l n u)
  unfolding carried changed setting
  set-done n u t ht hl ex =
      let e = rw (m.wrote, m.change, t, told_is) at ex in
      rw (rule-is, t, ← m.link, ← same-other l to level d about ht hl, ← same-vector l to level d about ht hl) e
