-- A range of bytes that is filled, and a loop that fills the links of each entry of bytes that are 0: it ends at the bytes that open writes. Assumes nothing.
use Prim.Native.Nat.{ℕ, ◌+◌, ◌-◌, ◌*◌, ◌/◌, ◌%◌, ◌≤◌, ◌<◌}
use mathlib.Core.Path.{◌≡◌, sym, ap, ◌∙◌}
use mathlib.Core.Logic.{inl, inr, ◌⊎◌, ⊎_elim, ◌≢◌}
use mathlib.Core.List.{List}
use native.Mathlib.Omega.{arith}
use lib.ListN.{length, get_or, replicate}
use borrow.Rule.Slice.PartMut.{mid_of, put_mid, mid_len}
use Rattle.std.proofs.lemmas.List.{places}
use Rattle.base.proofs.Cases.{lt-or-ge}
use Rattle.memory.specs.Bytes.{digit}
use Rattle.memory.proofs.Zeros.{replicate-zero}
use Rattle.memory.proofs.Digits.{digit-zero, digit-last}
use Rattle.graph.specs.Side.{Side, side_number, side_of_number}
use Rattle.protocol.proofs.Numbering.{side_number-lt}
use Rattle.record.specs.Layout.{seats, levels, no_link, link_size, links_size, links_from, size}
use Rattle.record.specs.Cell.{Cell, phase_cell, state_cell, number_cell, vector_cell, link_cell, pending_cell, cell_from, cell_size}
use Rattle.record.specs.inner.Cell.{InRecord, Holds}
use Rattle.record.specs.inner.Opened.{opened_value, IsOpened}
use Rattle.record.proofs.Places.{side_number-side}
use Rattle.record.proofs.Cells.{cell-once}

-- m is l with v in the n bytes from a on
pub record Filled (l : List ℕ) (a n v : ℕ) (m : List ℕ) : Type 0 where
  pub sized : length m ≡ length l
  pub within : (j : ℕ) → j < n → get_or m (a + j) 0 ≡ v
  pub beside : (i : ℕ) → (i < a) ⊎ (a + n ≤ i) → get_or m i 0 ≡ get_or l i 0

-- the k bytes from a on, which are n, filled by `fill`
filled : (l : List ℕ) (a k n v : ℕ) (ys : List ℕ) → k ≡ n → a + n ≤ length l → ys ≡ replicate (length (mid_of a k l)) v → Filled l a n v (put_mid a k l ys)
filled l a k n v ys e h y =
    let m : length (mid_of a k l) ≡ n = ap (λ (i : ℕ). length (mid_of a i l)) {x = k} {y = a + n - a} (omega arith) ∙ mid_len a (a + n) l h ∙ omega arith in
    let z : ys ≡ replicate n v = rw m at y in
    record {
      sized = grind (arith, places);
      within = λ j p. grind (arith, places);
      beside = λ i p. ⊎_elim (λ q. grind (arith, places)) (λ q. grind (arith, places)) p;
    }

-- the whole filled with 0
pub zero-filled : (n : ℕ) {m : List ℕ} → m ≡ replicate n 0 → (i : ℕ) → get_or m i 0 ≡ 0
zero-filled n e i = rw e (replicate-zero n i)

-- the links of the seats below s are none, and every other byte is 0
pub record NoLinks (s : ℕ) (l : List ℕ) : Type 0 where
  pub sized : length l ≡ size
  pub links : (x j : ℕ) → x < s → j < links_size → get_or l (links_from x + j) 0 ≡ no_link
  pub others : (i : ℕ) → ((x j : ℕ) → x < s → j < links_size → i ≡ links_from x + j → ⊥) → get_or l i 0 ≡ 0

pub links-none : {l : List ℕ} → length l ≡ size → ((i : ℕ) → get_or l i 0 ≡ 0) → NoLinks 0 l
links-none e z = record { sized = e; links = λ x j h g. absurd (omega arith); others = λ i h. z i }

-- and with the k bytes ys of the links of seat s, filled by `fill`
pub links-more : {l : List ℕ} (s : ℕ) {k : ℕ} {ys : List ℕ} → s < seats → NoLinks s l → k ≡ links_size
    → ys ≡ replicate (length (mid_of (links_from s) k l)) no_link → NoLinks (s + 1) (put_mid (links_from s) k l ys)
links-more {l} s {k} {ys} h b e y =
    let f = filled l (links_from s) k links_size no_link ys e (omega (arith, b.sized)) y in
    record {
      sized = f.sized ∙ b.sized;
      links = λ x j q g. ⊎_elim
          (λ p. f.beside (links_from x + j) (inl (omega arith)) ∙ b.links x j p g)
          (λ p. let i : x ≡ s = omega arith in rw i (f.within j g))
          (lt-or-ge x s);
      others = λ i q. ⊎_elim
          (λ p. f.beside i (inl p) ∙ b.others i (λ x j r g t. q x j (omega arith) g t))
          (λ p. ⊎_elim
          (λ r. absurd (q s (i - (links_from s)) (omega arith) (omega arith) (omega arith)))
          (λ r. f.beside i (inr r) ∙ b.others i (λ x j n g t. q x j (omega arith) g t))
          (lt-or-ge i (links_from s + links_size)))
          (lt-or-ge i (links_from s));
    }

-- a byte of another cell is no link
not-link : (c : Cell) (j : ℕ) → InRecord c → j < cell_size c → ((x k : ℕ) (d : Side) → c ≢ link_cell x k d) → (x i : ℕ) → x < seats
    → i < links_size → cell_from c + j ≡ links_from x + i → ⊥
not-link c j p q ne x i h g e =
    let s = side_number-side (i % 2) (omega arith) in
    ne x (i / 2) (side_of_number (i % 2)) (cell-once c (link_cell x (i / 2) (side_of_number (i % 2))) j 0 p (h, omega arith) q (omega arith) (omega arith))

pub links-all : {l : List ℕ} → NoLinks seats l → IsOpened l
links-all {l} b = record { sized = b.sized; cells = cells }
  where
    zeros : (c : Cell) → InRecord c → ((x k : ℕ) (d : Side) → c ≢ link_cell x k d) → Holds l c 0
    zeros c p ne j q = b.others (cell_from c + j) (λ x i h g e. not-link c j p q ne x i h g e) ∙ sym (digit-zero (cell_size c) j)

    link : (s k : ℕ) (d : Side) → s < seats → k < levels → Holds l (link_cell s k d) no_link
    link s k d p g j q =
        let o = side_number-lt d in
        let here : j ≡ 0 = omega arith in
        ap (λ (i : ℕ). get_or l i 0) (omega arith)
        ∙ b.links s (2 * k + side_number d) p (omega arith)
        ∙ sym (ap (digit link_size no_link) here ∙ digit-last 0 no_link)

    cells : (c : Cell) → InRecord c → Holds l c (opened_value c)
    cells phase_cell p = zeros phase_cell p (λ x k d e. let z : ◌≡◌ {A = ℕ} 0 1 = cc in omega arith)
    cells (state_cell s) p = zeros (state_cell s) p (λ x k d e. let z : ◌≡◌ {A = ℕ} 0 1 = cc in omega arith)
    cells (number_cell s) p = zeros (number_cell s) p (λ x k d e. let z : ◌≡◌ {A = ℕ} 0 1 = cc in omega arith)
    cells (vector_cell s) p = zeros (vector_cell s) p (λ x k d e. let z : ◌≡◌ {A = ℕ} 0 1 = cc in omega arith)
    cells (link_cell s k d) p = link s k d p.0 p.1
    cells (pending_cell i) p = zeros (pending_cell i) p (λ x k d e. let z : ◌≡◌ {A = ℕ} 0 1 = cc in omega arith)
