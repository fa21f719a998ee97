-- What an accepted delivery changes in the bytes (document 01, "Messages"; document 02, #103): of all entries only that of `to`, of that only the
-- bytes that hold the link that its rule sets, and of the pending bits exactly those of the message taken and of the messages that its rule
-- sends; and what this follows from. Assumes nothing.
use Prim.Native.Nat.{ℕ, ◌+◌, ◌*◌, ◌≤◌, ◌<◌}
use mathlib.Core.Path.{◌≡◌, refl, sym, ap, ◌∙◌}
use mathlib.Core.Logic.{inl, inr, ⊎_elim}
use mathlib.Core.Option.{Option, none, some}
use mathlib.Core.Bool.{not, ◌&&◌, ◌||◌}
use mathlib.Core.List.{List}
use native.Mathlib.Omega.{arith}
use lib.Dec.{T}
use lib.ListN.{get_or}
use Rattle.memory.specs.Bytes.{AreBytes, number_at}
use Rattle.base.proofs.Cases.{lt-or-ge}
use Rattle.memory.specs.Bits.{bit_set}
use Rattle.graph.specs.Side.{Side, side_number}
use Rattle.graph.specs.Vector.{width}
use Rattle.protocol.specs.Message.{Msg, Name, name_of, named, same_msg, among}
use Rattle.protocol.specs.Numbering.{exists, place}
use Rattle.protocol.specs.Rules.{Entry, keep, set, Effect}
use Rattle.protocol.specs.State.{Meaning, entry, is_pending}
use Rattle.protocol.specs.Local.{AgreeFor}
use Rattle.protocol.specs.Calls.{deliver, accept, seats_after, sends, unless_refused}
use Rattle.protocol.specs.pages.Deliver.{rule, delivery_sends}
use Rattle.protocol.proofs.Message.{named-name, name-named}
use Rattle.protocol.proofs.Numbering.{side_number-lt}
use Rattle.protocol.proofs.Accepted.{deliver-row}
use Rattle.protocol.proofs.Local.{delivery-local, entry-local, one_link, link_set, pending-exactly}
use Rattle.record.specs.Layout.{seats, levels, state_offset, number_offset, vector_offset, links_offset}
use Rattle.record.specs.Layout.{link_size, entry_size, entry_at, link_at, pending_from, size}
use Rattle.record.specs.Local.{AgreeBytes, Outside, BesideLink}
use Rattle.record.specs.Cell.{Cell, phase_cell, state_cell, number_cell, vector_cell, link_cell, pending_cell, cell_from, cell_size}
use Rattle.record.specs.inner.Cell.{InRecord}
use Rattle.record.specs.Meaning.{meaning, state_byte, link_byte, value_of, bytes_of}
use Rattle.record.proofs.Places.{get_d-bytes_of}
use Rattle.record.proofs.Form.{Form, meaning-pending, exists-pending}
use Rattle.record.proofs.Round.{bytes-meaning, read-message}
use Rattle.record.proofs.Values.{NamesSeat, link_byte-byte}
use Rattle.record.proofs.Cells.{cell-read}
use Rattle.record.proofs.Frame.{frame}
use Rattle.record.proofs.Sound.{sound-is}
use Rattle.record.proofs.Refused.{Passed, rows-passed}
use Rattle.record.proofs.Accepted.{call-later}
use Rattle.record.specs.Call.{call_refusal, called}
use Rattle.record.proofs.Call.{record-accepted}
use Rattle.delivery.proofs.Delivered.{AtLevel, rule-level, to-seat}
use Rattle.delivery.proofs.Agree.{agree-meanings}

-- an accepted call finds the record sound
accepted-passed : (l : List ℕ) (n : Name) → (called l (deliver n)).refused ≡ 0 → Passed l
unfolding called call_refusal
accepted-passed l n e = (rows-passed l _ (call-later l (deliver n)) e).0

-- and the message pending
accepted-pending : (l : List ℕ) (n : Name) → (called l (deliver n)).refused ≡ 0 → T (is_pending (meaning l).pending (named n))
unfolding called
accepted-pending l n e =
    let f = accepted-passed l n e in
    deliver-row seats width (meaning l).seats (meaning l).pending n (sym (record-accepted l f.sized f.fine (deliver n)) ∙ e)

-- an accepted delivery is one of a message, by its name
pub accepted-named : (l : List ℕ) (n : Name) → (called l (deliver n)).refused ≡ 0 → (m : Msg) × (name_of m ≡ n)
unfolding is_pending
accepted-named l n e = by (named n) refl (accepted-pending l n e)
  where
    by : (o : Option Msg) → named n ≡ o → T (is_pending (meaning l).pending o) → (m : Msg) × (name_of m ≡ n)
    by none q t = absurd t
    by (some m) q t = (m, name-named n m q)

-- the message exists
accepted-exists : (l : List ℕ) (m : Msg) → (called l (deliver (name_of m))).refused ≡ 0 → T (exists seats width m)
unfolding is_pending
accepted-exists l m e = exists-pending l m (rw (named-name m) at (accepted-pending l (name_of m) e))

-- a change is one of the two
keep-set : {A : Type 0} {k : ℕ} {d : Side} {o : Option ℕ} → keep ≡ set k d o → A
keep-set e = absurd (let z : ◌≡◌ {A = ℕ} 0 1 = cc in omega arith)

module _ (l : List ℕ) (b : AreBytes l) (m : Msg) (e : (called l (deliver (name_of m))).refused ≡ 0) where
  abbrev M : Meaning
  M = meaning l

  abbrev after : Meaning
  after = accept seats width (meaning l) (deliver (name_of m))

  form : Form l
  form = let f = accepted-passed l (name_of m) e in ((sound-is l f.sized b).0 f.fine).0

  bytes_after : (called l (deliver (name_of m))).after ≡ bytes_of (accept seats width (meaning l) (deliver (name_of m)))
  unfolding called unless_refused
  bytes_after = rw e

  -- before the pending bits, beside the link that the rule sets
  abbrev Stays : ℕ → Type 0
  Stays i = (i < pending_from) × BesideLink l m i

  agree : (c : Cell) (j : ℕ) → InRecord c → j < cell_size c → Stays (cell_from c + j) → value_of after c ≡ value_of M c
  unfolding accept seats_after
  agree phase_cell j p h q = refl
  agree (state_cell s) j p h q = refl
  agree (number_cell s) j p h q = refl
  agree (vector_cell s) j p h q = refl
  agree (link_cell s k d) j p h q = ap link_byte (⊎_elim (λ e. e) (λ (o, e, r). absurd (apart e (q.1 k d o r))) (one_link seats width M m s k d))
    where
      -- it would be the link that is set
      apart : s ≡ (name_of m).to → Outside (link_at (name_of m).to k d) link_size (link_at s k d + j) → ⊥
      apart e u = ⊎_elim (λ v. omega arith) (λ v. omega arith) u
  agree (pending_cell b) j p h q = absurd (omega (arith, q.0))

  -- no byte of the phase or of an entry changes but those that hold the link that the rule sets
  pub beside-link : (i : ℕ) → i < pending_from → BesideLink l m i → get_or (called l (deliver (name_of m))).after i 0 ≡ get_or l i 0
  beside-link i h o =
      let w : i < size = omega arith in
      ap (λ (x : List ℕ). get_or x i 0) bytes_after
      ∙ get_d-bytes_of after i w
      ∙ frame after M Stays agree i w (h, o)
      ∙ sym (get_d-bytes_of M i w)
      ∙ ap (λ (x : List ℕ). get_or x i 0) (bytes-meaning form)

  -- the link is at a level that exists, and names a seat
  set-level : {k : ℕ} {d : Side} {o : Option ℕ} → (rule width (meaning l) m).change ≡ set k d o → (k < levels) × NamesSeat o
  unfolding AtLevel
  set-level q = rw q at (rule-level (meaning l) m (accepted-exists l m e))

  -- so none of another entry, and none at all where the rule sets no link
  pub other-bytes : (i : ℕ) → i < pending_from → Outside (entry_at (name_of m).to) entry_size i
      → get_or (called l (deliver (name_of m))).after i 0 ≡ get_or l i 0
  other-bytes i h o = beside-link i h (λ k d v q. apart k d (set-level q).0)
    where
      apart : (k : ℕ) (d : Side) → k < levels → Outside (link_at (name_of m).to k d) link_size i
      apart k d g = let u = side_number-lt d in ⊎_elim (λ v. inl (omega arith)) (λ v. inr (omega arith)) o

  pub kept-bytes : (rule width (meaning l) m).change ≡ keep → (i : ℕ) → i < pending_from
      → get_or (called l (deliver (name_of m))).after i 0 ≡ get_or l i 0
  kept-bytes q i h = beside-link i h (λ k d o r. keep-set (sym q ∙ r))

  -- those bytes hold it
  pub link-bytes : (k : ℕ) (d : Side) (o : Option ℕ) → (rule width (meaning l) m).change ≡ set k d o
      → number_at (called l (deliver (name_of m))).after (link_at (name_of m).to k d) link_size ≡ link_byte o
  link-bytes k d o q =
      let t = (name_of m).to in
      let f = set-level q in
      let v : after.link t k d ≡ o = link_set seats width M m k d o q in
      ap (λ (x : List ℕ). number_at x (link_at t k d) link_size) bytes_after
      ∙ cell-read after (link_cell t k d) (to-seat m (accepted-exists l m e), f.0) (rw v (link_byte-byte o f.1))
      ∙ ap link_byte v

  -- a bit is set after it: its message is sent, or it was set and its message is not the one taken
  pub pending-bits : (n : Msg) → T (exists seats width n) → bit_set (called l (deliver (name_of m))).after pending_from (place seats width n)
      ≡ (among (rule width (meaning l) m).sent n || (bit_set l pending_from (place seats width n) && not (same_msg m n)))
  pending-bits n x =
      ap (λ (y : List ℕ). bit_set y pending_from (place seats width n)) bytes_after
      ∙ read-message after n x
      ∙ pending-exactly seats width M m n
      ∙ rw (meaning-pending l n x)

-- a byte of the entry of seat t that lies in that of seat s
same-seat : (s t o : ℕ) → o < entry_size → entry_at t ≤ entry_at s + o → entry_at s + o < entry_at t + entry_size → s ≡ t
same-seat s t o h p q = ⊎_elim (λ u. absurd (omega arith)) (λ u. ⊎_elim (λ v. absurd (omega arith)) (λ v. omega arith) (lt-or-ge t s)) (lt-or-ge s t)

-- two records in which the same message is pending and whose bytes agree on the entry of `to` and on number and vector of the lots that
-- its links or the message name
module _ (l l' : List ℕ) (b : AreBytes l) (b' : AreBytes l') (m : Msg) (e : (called l (deliver (name_of m))).refused ≡ 0)
    (e' : (called l' (deliver (name_of m))).refused ≡ 0) (g : AgreeBytes l l' m) where
  exists-m : T (exists seats width m)
  exists-m = accepted-exists l m e

  agreed : AgreeFor (meaning l) (meaning l') m
  agreed = agree-meanings l l' m exists-m g

  -- the entry of `to`
  abbrev Own : ℕ → Type 0
  Own i = (entry_at (name_of m).to ≤ i) × (i < entry_at (name_of m).to + entry_size)

  abbrev left : Meaning
  left = accept seats width (meaning l) (deliver (name_of m))

  abbrev left' : Meaning
  left' = accept seats width (meaning l') (deliver (name_of m))

  entry-same : (s : ℕ) → s ≡ (name_of m).to → entry left s ≡ entry left' s
  entry-same s q = rw q (entry-local seats width (meaning l) (meaning l') m agreed)

  own : (c : Cell) (j : ℕ) → InRecord c → j < cell_size c → Own (cell_from c + j) → value_of left c ≡ value_of left' c
  own phase_cell j p h q = absurd (omega (arith, q.0))
  own (state_cell s) j p h q =
      ap (λ (x : Entry). state_byte x.state) (entry-same s (same-seat s _ (state_offset + j) (omega arith) (omega (arith, q.0)) (omega (arith, q.1))))
  own (number_cell s) j p h q =
      ap (λ (x : Entry). x.number) (entry-same s (same-seat s _ (number_offset + j) (omega arith) (omega (arith, q.0)) (omega (arith, q.1))))
  own (vector_cell s) j p h q =
      ap (λ (x : Entry). x.vector) (entry-same s (same-seat s _ (vector_offset + j) (omega arith) (omega (arith, q.0)) (omega (arith, q.1))))
  own (link_cell s k d) j p h q =
      let o = side_number-lt d in
      ap (λ (x : Entry). link_byte (x.link k d))
      (entry-same s (same-seat s _ (links_offset + 2 * k + side_number d + j) (omega (arith, p.1)) (omega (arith, q.0)) (omega (arith, q.1))))
  own (pending_cell b) j p h q = let t = to-seat m exists-m in absurd (omega (arith, q.1))

  -- the entry's bytes after are the same
  pub same-entry : (i : ℕ) → i < entry_size → get_or (called l (deliver (name_of m))).after (entry_at (name_of m).to + i) 0
      ≡ get_or (called l' (deliver (name_of m))).after (entry_at (name_of m).to + i) 0
  same-entry i h =
      let a = entry_at (name_of m).to + i in
      let t = to-seat m exists-m in
      let w : a < size = omega arith in
      ap (λ (x : List ℕ). get_or x a 0) (bytes_after l b m e)
      ∙ get_d-bytes_of left a w
      ∙ frame left left' Own own a w (omega arith, omega arith)
      ∙ sym (get_d-bytes_of left' a w)
      ∙ ap (λ (x : List ℕ). get_or x a 0) (sym (bytes_after l' b' m e'))

  -- and the same messages are sent
  pub same_sent : sends seats width (meaning l) (deliver (name_of m)) ≡ sends seats width (meaning l') (deliver (name_of m))
  unfolding sends delivery_sends
  same_sent = rw (named-name m) (ap (λ (f : Effect). f.sent) (delivery-local width (meaning l) (meaning l') m agreed))
