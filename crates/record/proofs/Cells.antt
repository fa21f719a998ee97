-- The places of cells: every cell lies in the record, every byte lies in exactly one cell, a cell's bytes are the digits of its value, and
-- what is in a cell after one was put. Assumes nothing.
use Prim.Native.Nat.{ℕ, ◌+◌, ◌-◌, ◌*◌, ◌/◌, ◌%◌, ◌^◌, ◌≤◌, ◌<◌}
use mathlib.Core.Path.{◌≡◌, sym, ap, ◌∙◌, subst}
use mathlib.Core.Logic.{◌⊎◌, inl, inr, ⊎_elim, ◌≢◌}
use mathlib.Core.List.{List}
use native.Mathlib.Omega.{arith}
use lib.ListN.{length}
use borrow.Author.Tests.{lt-ltb, le-ltb}
use Rattle.memory.specs.Bytes.{digit}
use Rattle.memory.proofs.Bytes.{number_at-agrees, number_at-put_number, get_d-put_number-other}
use Rattle.memory.proofs.Digits.{number_at-digits}
use Rattle.base.proofs.Cases.{lt-or-ge, eq-or-ne}
use Rattle.graph.specs.Side.{Side, side_number, side_of_number}
use Rattle.protocol.specs.State.{Meaning}
use Rattle.protocol.proofs.Numbering.{side_number-lt}
use Rattle.record.specs.Layout.{seats, phase_size, state_size, number_size, vector_size, links_size, entry_size, size}
use Rattle.record.specs.Layout.{state_offset, number_offset, vector_offset, links_offset, phase_at, entries_from, entry_at, links_from, pending_from}
use Rattle.record.specs.Cell.{Cell, phase_cell, state_cell, number_cell, vector_cell, link_cell, pending_cell, cell_from, cell_size, entry_cell, cell_at}
use Rattle.record.specs.Local.{Outside}
use Rattle.record.specs.inner.Cell.{InRecord, cell_in, put_cell, Holds}
use Rattle.record.specs.Meaning.{value_of, byte_of, bytes_of}
use Rattle.record.proofs.Places.{side-side_number, side_number-side, get_d-bytes_of}

-- every cell lies in the record, and has a byte
pub cell-within : (c : Cell) → InRecord c → cell_from c + cell_size c ≤ size
cell-within phase_cell p = omega arith
cell-within (state_cell s) p = omega arith
cell-within (number_cell s) p = omega arith
cell-within (vector_cell s) p = omega arith
cell-within (link_cell s k d) p = omega (arith, side_number-lt d)
cell-within (pending_cell b) p = omega arith

pub cell-first : (c : Cell) → 0 < cell_size c
cell-first phase_cell = omega arith
cell-first (state_cell s) = omega arith
cell-first (number_cell s) = omega arith
cell-first (vector_cell s) = omega arith
cell-first (link_cell s k d) = omega arith
cell-first (pending_cell b) = omega arith

-- the cell of each byte of an entry
module _ (s : ℕ) where
  entry_cell-state : (j : ℕ) → j < state_size → entry_cell s (state_offset + j) ≡ state_cell s
  unfolding entry_cell
  entry_cell-state j h = rw (lt-ltb (state_offset + j) number_offset (omega arith))

  entry_cell-number : (j : ℕ) → j < number_size → entry_cell s (number_offset + j) ≡ number_cell s
  unfolding entry_cell
  entry_cell-number j h =
      let i = number_offset + j in
      rw (le-ltb i number_offset (omega arith), lt-ltb i vector_offset (omega arith))

  entry_cell-vector : (j : ℕ) → j < vector_size → entry_cell s (vector_offset + j) ≡ vector_cell s
  unfolding entry_cell
  entry_cell-vector j h =
      let i = vector_offset + j in
      rw (le-ltb i number_offset (omega arith), le-ltb i vector_offset (omega arith), lt-ltb i links_offset (omega arith))

  entry_cell-link : (k : ℕ) (d : Side) → entry_cell s (links_offset + 2 * k + side_number d) ≡ link_cell s k d
  unfolding entry_cell
  entry_cell-link k d =
      let o = side_number-lt d in
      let i = links_offset + 2 * k + side_number d in
      let a : (i - links_offset) / 2 ≡ k = omega arith in
      let b : (i - links_offset) % 2 ≡ side_number d = omega arith in
      rw (le-ltb i number_offset (omega arith), le-ltb i vector_offset (omega arith), le-ltb i links_offset (omega arith), a, b, side-side_number d)

at_entry : (s j : ℕ) → s < seats → j < entry_size → cell_at (entry_at s + j) ≡ entry_cell s j
unfolding cell_at
at_entry s j p q =
    let i = entry_at s + j in
    let a : (i - entries_from) / entry_size ≡ s = omega arith in
    let b : (i - entries_from) % entry_size ≡ j = omega arith in
    rw (le-ltb i entries_from (omega arith), lt-ltb i pending_from (omega arith), a, b)

at-phase : (j : ℕ) → j < phase_size → cell_at (phase_at + j) ≡ phase_cell
unfolding cell_at
at-phase j h = rw (lt-ltb (phase_at + j) entries_from (omega arith))

at-pending : (b j : ℕ) → j < 1 → cell_at (pending_from + b + j) ≡ pending_cell b
unfolding cell_at
at-pending b j h =
    let i = pending_from + b + j in
    let e : i - pending_from ≡ b = omega arith in
    rw (le-ltb i entries_from (omega arith), le-ltb i pending_from (omega arith), e)

-- the cell of a byte in a cell is that cell
pub cell_at-cell : (c : Cell) → InRecord c → (j : ℕ) → j < cell_size c → cell_at (cell_from c + j) ≡ c
cell_at-cell phase_cell p j h = at-phase j h
cell_at-cell (state_cell s) p j h = ap cell_at (omega arith) ∙ at_entry s (state_offset + j) p (omega arith) ∙ entry_cell-state s j h
cell_at-cell (number_cell s) p j h = ap cell_at (omega arith) ∙ at_entry s (number_offset + j) p (omega arith) ∙ entry_cell-number s j h
cell_at-cell (vector_cell s) p j h = ap cell_at (omega arith) ∙ at_entry s (vector_offset + j) p (omega arith) ∙ entry_cell-vector s j h
cell_at-cell (link_cell s k d) p j h =
    let o = side_number-lt d in
    ap cell_at (omega arith) ∙ at_entry s (links_offset + 2 * k + side_number d) p.0 (omega arith) ∙ entry_cell-link s k d
cell_at-cell (pending_cell b) p j h = at-pending b j h

-- so cells are apart: two cells with a byte in common are one
pub cell-once : (c e : Cell) (i j : ℕ) → InRecord c → InRecord e → i < cell_size c → j < cell_size e → cell_from c + i ≡ cell_from e + j → c ≡ e
cell-once c e i j p q h g a = sym (cell_at-cell c p i h) ∙ ap cell_at a ∙ cell_at-cell e q j g

-- two cells are the same or not
pub same-cell : (c e : Cell) → InRecord c → InRecord e → (c ≡ e) ⊎ (c ≢ e)
same-cell c e p q = ⊎_elim
    (λ a. inl (cell-once c e 0 0 p q (cell-first c) (cell-first e) (ap (λ (i : ℕ). i + 0) a)))
    (λ a. inr (λ f. a (ap cell_from f)))
    (eq-or-ne (cell_from c) (cell_from e))

-- another cell's bytes lie outside
pub cell-outside : (c e : Cell) → InRecord c → InRecord e → e ≢ c → (j : ℕ) → j < cell_size e
    → Outside (cell_from c) (cell_size c) (cell_from e + j)
cell-outside c e p q ne j h = let i = cell_from e + j in ⊎_elim
    (λ a. inl a)
    (λ a. ⊎_elim
    (λ b. absurd (ne (cell-once e c j (i - cell_from c) q p h (omega arith) (omega arith))))
    (λ b. inr b)
    (lt-or-ge i (cell_from c + cell_size c)))
    (lt-or-ge i (cell_from c))

-- every byte of the record lies in a cell
pub by-cell : (P : ℕ → Type 0) → ((c : Cell) (j : ℕ) → InRecord c → j < cell_size c → P (cell_from c + j)) → (i : ℕ) → i < size → P i
by-cell P f i h = ⊎_elim
    (λ q. subst P (omega arith) (f phase_cell (i - phase_at) tt (omega arith)))
    (λ q. ⊎_elim
    (λ r. let k = i - entries_from in subst P (omega arith) (state (k / entry_size) (k % entry_size) (omega arith) (omega arith)))
    (λ r. subst P (omega arith) (f (pending_cell (i - pending_from)) 0 (omega arith) (omega arith)))
    (lt-or-ge i pending_from))
    (lt-or-ge i entries_from)
  where
    links : (s j : ℕ) → s < seats → j < links_size → P (links_from s + j)
    links s j p q =
        let e = side_number-side (j % 2) (omega arith) in
        subst P (omega arith) (f (link_cell s (j / 2) (side_of_number (j % 2))) 0 (p, omega arith) (omega arith))

    vector : (s j : ℕ) → s < seats → vector_offset ≤ j → j < entry_size → P (entry_at s + j)
    vector s j p l q = ⊎_elim
        (λ r. subst P (omega arith) (f (vector_cell s) (j - vector_offset) p (omega arith)))
        (λ r. subst P (omega arith) (links s (j - links_offset) p (omega arith)))
        (lt-or-ge j links_offset)

    number : (s j : ℕ) → s < seats → number_offset ≤ j → j < entry_size → P (entry_at s + j)
    number s j p l q = ⊎_elim
        (λ r. subst P (omega arith) (f (number_cell s) (j - number_offset) p (omega arith)))
        (λ r. vector s j p r q)
        (lt-or-ge j vector_offset)

    state : (s j : ℕ) → s < seats → j < entry_size → P (entry_at s + j)
    state s j p q = ⊎_elim
        (λ r. subst P (omega arith) (f (state_cell s) (j - state_offset) p (omega arith)))
        (λ r. number s j p r q)
        (lt-or-ge j number_offset)

-- what a cell holds after another number was put in it, and in another
module _ (l : List ℕ) (c : Cell) (v : ℕ) (p : InRecord c) where
  pub cell_in-put_cell : length l ≡ size → v < 256 ^ cell_size c → cell_in (put_cell l c v) c ≡ v
  cell_in-put_cell e h = number_at-put_number l (cell_from c) (cell_size c) v (rw e (cell-within c p)) h

  pub cell_in-put_cell-other : (e : Cell) → InRecord e → e ≢ c → cell_in (put_cell l c v) e ≡ cell_in l e
  cell_in-put_cell-other e q ne = number_at-agrees (put_cell l c v) l (cell_from e) (cell_size e) (λ j h.
      get_d-put_number-other l (cell_from c) (cell_size c) v (cell_from e + j) (cell-outside c e p q ne j h))

-- the bytes of a meaning are the digits of its cells' values
module _ (M : Meaning) (c : Cell) (p : InRecord c) where
  pub byte-cell : (j : ℕ) → j < cell_size c → byte_of M (cell_from c + j) ≡ digit (cell_size c) (value_of M c) j
  unfolding byte_of
  byte-cell j h = let e : cell_from c + j - cell_from c ≡ j = omega arith in rw (cell_at-cell c p j h, e)

  pub bytes-hold : Holds (bytes_of M) c (value_of M c)
  bytes-hold j h = get_d-bytes_of M (cell_from c + j) (omega (arith, cell-within c p)) ∙ byte-cell j h

  pub cell-read : value_of M c < 256 ^ cell_size c → cell_in (bytes_of M) c ≡ value_of M c
  cell-read b = number_at-digits (bytes_of M) (cell_from c) (cell_size c) (value_of M c) b bytes-hold
