-- What the index says of the words, after a message is taken, a link is written and messages are sent. Assumes nothing.
use Prim.Native.Nat.{ℕ, ◌/◌, ◌<◌}
use mathlib.Core.Path.{◌≡◌, refl, sym, ◌∙◌}
use mathlib.Core.Logic.{⊎_elim}
use mathlib.Core.Bool.{Bool, true, false, not}
use mathlib.Core.List.{List, [], ◌∷◌, Memᴰ}
use native.Mathlib.Omega.{arith}
use lib.Dec.{T}
use lib.ListN.{length}
use Rattle.base.proofs.Cases.{eq-or-ne, not-not}
use Rattle.memory.specs.Bits.{with_bit, clear_bit, set_bit}
use Rattle.memory.specs.inner.Words.{word_set}
use Rattle.memory.proofs.Bitmap.{length-put_bit}
use Rattle.memory.proofs.Words.{word-other, word-set}
use Rattle.graph.specs.Vector.{width}
use Rattle.protocol.specs.Message.{Msg}
use Rattle.protocol.specs.Numbering.{exists, place}
use Rattle.record.specs.Layout.{seats, messages, pending_from, size}
use Rattle.record.proofs.Places.{place-within}
use Rattle.index.specs.inner.Index.{words, is_noted, noting, is_some, Exact}
use Rattle.index.proofs.Noted.{noted-within, noted-same, noted_other, noting-exact, note-exact}
use Rattle.rules.specs.inner.Done.{indexed, send_all}
use Rattle.bundle.specs.inner.Steps.{Tracks, IsStruck}

-- word w, which is noted, is struck out
pub struck-out : {x y : List ℕ} {t u w : ℕ} {last : Bool} → Exact x t → is_noted x w ≡ true → last ≡ true
    → (y ≡ noting x w false) × (u ≡ with_bit t (w / 64) (is_some y (w / 64))) → IsStruck x w last y u
struck-out {x} {w = w} e n q (ey, eu) = record {
  exact = rw (eu, ey) (noting-exact x w false (noted-within x w n) e);
  own = rw (ey, q) (noted-same x w false (noted-within x w n));
  others = λ v ne. rw ey (noted_other x w false (noted-within x w n) v ne);
}

module _ {l x : List ℕ} {t reach : ℕ} (k : Tracks l x t reach) where
  -- bytes with the same pending words
  pub tracks_same : {y : List ℕ} → ((w : ℕ) → w < words → word_set y pending_from w ≡ word_set l pending_from w) → Tracks y x t reach
  tracks_same e = record {
    exact = k.exact;
    within = k.within;
    has = λ w h n. e w h ∙ k.has w h n;
    all = λ w h s. k.all w h (sym (e w (omega (arith, k.within))) ∙ s);
  }

  -- word w has another test than before, and is noted as it says; the others are as before
  own-word : {y z : List ℕ} {u : ℕ} (w : ℕ) → Exact z u → is_noted z w ≡ word_set y pending_from w
      → ((v : ℕ) → (v ≡ w → ⊥) → is_noted z v ≡ is_noted x v)
      → ((v : ℕ) → (v ≡ w → ⊥) → word_set y pending_from v ≡ word_set l pending_from v)
      → Tracks y z u reach
  own-word {y} {z} w e o notes sets = record {
    exact = e;
    within = k.within;
    has = λ v h n. ⊎_elim (λ q. has-own v q n) (λ ne. sets v ne ∙ k.has v h (sym (notes v ne) ∙ n)) (eq-or-ne v w);
    all = λ v h s. ⊎_elim (λ q. all_own v q s) (λ ne. notes v ne ∙ k.all v h (sym (sets v ne) ∙ s)) (eq-or-ne v w);
  }
    where
      has-own : (v : ℕ) → v ≡ w → is_noted z v ≡ true → word_set y pending_from v ≡ true
      has-own v q n = rw q (sym o ∙ (rw q at n))

      all_own : (v : ℕ) → v ≡ w → word_set y pending_from v ≡ true → is_noted z v ≡ true
      all_own v q s = rw q (o ∙ (rw q at s))

  -- the message at place i is taken, and its word struck out if it was the last
  pub tracks-taken : {z : List ℕ} {u : ℕ} (w i : ℕ) → w ≡ i / 64
      → IsStruck x w (not (word_set (clear_bit l pending_from i) pending_from w)) z u → Tracks (clear_bit l pending_from i) z u reach
  tracks-taken w i e s =
      own-word w s.exact (s.own ∙ not-not (word_set (clear_bit l pending_from i) pending_from w)) s.others
      (λ v ne. word-other l pending_from i _ v (λ q. ne (q ∙ sym e)))

  -- the message at place i is sent
  pub tracks-sent : (i : ℕ) → length l ≡ size → i < messages
      → Tracks (set_bit l pending_from i) (noting x (i / 64) true) (with_bit t (i / 64 / 64) true) reach
  tracks-sent i z h =
      let w : i / 64 / 64 < length x = omega (arith, k.exact.long) in
      own-word (i / 64) (note-exact (i / 64) (omega arith) k.exact)
      (noted-same x (i / 64) true w ∙ sym (word-set l pending_from i (omega arith)))
      (noted_other x (i / 64) true w)
      (λ v ne. word-other l pending_from i true v ne)

-- messages that exist are sent
pub tracks-sends : (ms : List Msg) → ((m : Msg) → Memᴰ m ms → T (exists seats width m))
    → {l x : List ℕ} {t reach : ℕ} → length l ≡ size → Tracks l x t reach
    → let b = send_all ms (indexed l x t) in Tracks b.bytes b.index b.top reach
unfolding send_all
tracks-sends [] h z k = k
tracks-sends (m ∷ ms) h {l} z k =
    tracks-sends ms (λ n q. h n (Memᴰ.tail q)) (length-put_bit l pending_from (place seats width m) true ∙ z)
    (tracks-sent k (place seats width m) z (place-within m (h m (Memᴰ.head refl))))
