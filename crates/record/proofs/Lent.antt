-- An entry lent alone, a part of the record that begins in its middle: whatever is written in it, no byte of another entry changes; and a link
-- that is written in it is written in the record. Assumes nothing.
use Prim.Native.Nat.{ℕ, ◌+◌, ◌-◌, ◌≤◌, ◌<◌}
use mathlib.Core.Path.{◌≡◌, sym, ap, ◌∙◌}
use mathlib.Core.Logic.{◌≢◌, ⊎_elim, inl, inr}
use mathlib.Core.List.{List, ◌++◌}
use native.Mathlib.Omega.{arith}
use lib.ListN.{length, length-set, get_or, set, take, drop, get_or-append}
use lib.Seq.{length-take-le, get_or-take, get_or-drop, get_or-append-add, get_or-set_same, get_or-set_other, ext_get_or}
use borrow.Rule.Slice.PartMut.{mid_of, put_mid, post_of, mid_len, same_len_mid, put_same, take_put, drop_put}
use Rattle.memory.specs.Bytes.{number_at}
use Rattle.memory.proofs.Bytes.{number_at-one}
use Rattle.base.proofs.Cases.{lt-or-ge, eq-or-ne}
use Rattle.graph.specs.Side.{Side}
use Rattle.protocol.proofs.Numbering.{side_number-lt}
use Rattle.record.specs.Layout.{seats, levels, link_size, link_offset, entry_size, entry_at, size, link_at}
use Rattle.record.specs.Local.{Outside}
use Rattle.record.specs.inner.Entry.{LinkSet, Written, written}
use Rattle.std.specs.Prelude.{Option, None, Some}

-- the byte of a link set in an entry, at i
pub link_set : (e : List ℕ) (k : ℕ) (d : Side) (v i : ℕ) → length e ≡ entry_size → k < levels → i ≡ link_offset k d
    → LinkSet e (set e i v) k d v
link_set e k d v i z h r = record {
  sized = length-set e i v;
  link = ap (λ (j : ℕ). number_at (set e i v) j link_size) (sym r) ∙ number_at-one (set e i v) i
      ∙ get_or-set_same e i v 0 (let o = side_number-lt d in omega arith);
  others = λ j o. get_or-set_other e i j v 0 (λ q. ⊎_elim (λ p. omega arith) (λ p. omega arith) o);
}

-- the entry of seat s as the code lends it, and the record with another in its place
abbrev lent_size : (s : ℕ) → ℕ
lent_size s = entry_at s + entry_size - entry_at s

abbrev pub lent : List ℕ → (s : ℕ) → List ℕ
lent l s = mid_of (entry_at s) (lent_size s) l

abbrev pub lent_back : List ℕ → (s : ℕ) → List ℕ → List ℕ
lent_back l s e = put_mid (entry_at s) (lent_size s) l e

module _ (l : List ℕ) (s : ℕ) (z : length l ≡ size) (g : s < seats) where
  length-lent : length (lent l s) ≡ entry_size
  length-lent = mid_len (entry_at s) (entry_at s + entry_size) l (omega arith) ∙ omega arith

  -- a byte of it
  get_d-lent : (j : ℕ) → j < entry_size → get_or (lent l s) j 0 ≡ get_or l (entry_at s + j) 0
  get_d-lent j h = get_or-take (lent_size s) (drop (entry_at s) l) j 0 (omega arith) ∙ get_or-drop (entry_at s) l j 0

  module _ (e : List ℕ) (y : length e ≡ entry_size) where
    -- no byte of another entry changes, nor of anything else
    pub others-stay : (i : ℕ) → Outside (entry_at s) entry_size i → get_or (lent_back l s e) i 0 ≡ get_or l i 0
    others-stay i o = ⊎_elim before after o
      where
        before : i < entry_at s → get_or (lent_back l s e) i 0 ≡ get_or l i 0
        before h =
            sym (get_or-take (entry_at s) (lent_back l s e) i 0 h)
            ∙ ap (λ (x : List ℕ). get_or x i 0) (take_put (entry_at s) (lent_size s) l e (omega arith))
            ∙ get_or-take (entry_at s) l i 0 h

        after : entry_at s + entry_size ≤ i → get_or (lent_back l s e) i 0 ≡ get_or l i 0
        after h =
            let n = entry_at s + entry_size in
            let q : n + (i - n) ≡ i = omega arith in
            ap (λ (j : ℕ). get_or (lent_back l s e) j 0) (sym q)
            ∙ sym (get_or-drop n (lent_back l s e) (i - n) 0)
            ∙ ap (λ (x : List ℕ). get_or x (i - n) 0) (drop_put (entry_at s) n l e (omega arith) (omega arith) (omega arith))
            ∙ get_or-drop n l (i - n) 0
            ∙ ap (λ (j : ℕ). get_or l j 0) q

    -- its own bytes are those written
    own-written : (j : ℕ) → j < entry_size → get_or (lent_back l s e) (entry_at s + j) 0 ≡ get_or e j 0
    own-written j h =
        let a = take (entry_at s) l in
        let b = post_of (entry_at s) (lent_size s) l in
        let n : length a ≡ entry_at s = length-take-le (entry_at s) l (omega arith) in
        ap (λ (i : ℕ). get_or (lent_back l s e) (i + j) 0) (sym n)
        ∙ get_or-append-add a (e ++ b) j 0
        ∙ get_or-append e b 0 j (omega arith)

    length_back : length (lent_back l s e) ≡ length l
    length_back = same_len_mid (entry_at s) (lent_size s) l e (y ∙ sym length-lent)

  -- a link written in it is written in the record
  pub written-lent : (e : List ℕ) (k : ℕ) (d : Side) (c : Option ℕ) → k < levels → Written (lent l s) e k d c → lent_back l s e ≡ written l s k d c
  written-lent e k d None h w = ap (lent_back l s) w ∙ put_same (entry_at s) (lent_size s) l
  written-lent e k d (Some v) h w =
      ext_get_or 0 (lent_back l s e) (set l (link_at s k d) v) (length_back e y ∙ sym (length-set l (link_at s k d) v)) (λ i b. same i)
    where
      y : length e ≡ entry_size
      y = w.sized ∙ length-lent

      within : link_offset k d < entry_size
      within = let o = side_number-lt d in omega arith

      -- a byte of the entry beside the link
      beside : (j : ℕ) → j < entry_size → entry_at s + j ≢ link_at s k d → get_or (lent_back l s e) (entry_at s + j) 0 ≡ get_or l (entry_at s + j) 0
      beside j p n =
          own-written e y j p
          ∙ w.others j (⊎_elim (λ q. inl q) (λ q. inr (omega arith)) (lt-or-ge j (link_offset k d)))
          ∙ get_d-lent j p

      other : (i : ℕ) → i ≢ link_at s k d → get_or (lent_back l s e) i 0 ≡ get_or l i 0
      other i n = ⊎_elim
          (λ p. others-stay e y i (inl p))
          (λ p. ⊎_elim
          (λ q. let r : entry_at s + (i - entry_at s) ≡ i = omega arith in rw r at (beside (i - entry_at s) (omega arith) (λ t. n (sym r ∙ t))))
          (λ q. others-stay e y i (inr q))
          (lt-or-ge i (entry_at s + entry_size)))
          (lt-or-ge i (entry_at s))

      same : (i : ℕ) → get_or (lent_back l s e) i 0 ≡ get_or (set l (link_at s k d) v) i 0
      same i = ⊎_elim
          (λ p. ap (λ (n : ℕ). get_or (lent_back l s e) n 0) p ∙ here ∙ ap (λ (n : ℕ). get_or (set l (link_at s k d) v) n 0) (sym p))
          (λ n. other i n ∙ sym (get_or-set_other l (link_at s k d) i v 0 n))
          (eq-or-ne i (link_at s k d))
        where
          here : get_or (lent_back l s e) (link_at s k d) 0 ≡ get_or (set l (link_at s k d) v) (link_at s k d) 0
          here =
              own-written e y (link_offset k d) within
              ∙ sym (number_at-one e (link_offset k d))
              ∙ w.link
              ∙ sym (get_or-set_same l (link_at s k d) v 0 (omega (arith, within)))
