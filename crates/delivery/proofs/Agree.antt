-- Two records whose bytes agree on what a delivery may depend on have meanings that agree on it. Assumes nothing.
use Prim.Native.Nat.{ℕ, ◌+◌, ◌*◌, ◌≤◌, ◌<◌}
use mathlib.Core.Path.{◌≡◌, sym, ap, ◌∙◌}
use mathlib.Core.Logic.{⊎_elim}
use mathlib.Core.List.{List}
use native.Mathlib.Omega.{arith}
use lib.Dec.{T}
use lib.ListN.{get_or}
use Rattle.memory.proofs.Bytes.{number_at-agrees}
use Rattle.base.proofs.Cases.{lt-or-ge}
use Rattle.base.proofs.Tests.{none-some}
use Rattle.graph.specs.Side.{Side, side_number}
use Rattle.graph.specs.Vector.{width}
use Rattle.protocol.specs.Message.{Msg, meet, probe, seek, found, name_of}
use Rattle.protocol.specs.Numbering.{exists}
use Rattle.protocol.specs.State.{entry}
use Rattle.protocol.specs.Local.{Names, AgreeFor}
use Rattle.protocol.specs.Local.{by_link as link-names, by_meet as meet-names, by_probe as probe-names, by_seek as seek-names, by_found as found-names}
use Rattle.protocol.proofs.Numbering.{side_number-lt}
use Rattle.record.specs.Layout.{seats, levels, number_size, vector_size, state_offset, number_offset, vector_offset, links_offset}
use Rattle.record.specs.Layout.{entry_size, entry_at, link_at}
use Rattle.record.specs.Meaning.{link_of, state_of, meaning}
use Rattle.record.specs.Local.{NamesLot, by_link, by_meet, by_probe, by_seek, by_found, SameBytes, AgreeBytes}
use Rattle.record.proofs.Form.{meaning-state, meaning-number, meaning-vector, meaning-link, no-level-link}
use Rattle.record.proofs.Links.{link_of-seat}
use Rattle.messages.proofs.Named.{three-below}
use Rattle.delivery.proofs.Delivered.{to-seat}

-- a lot that the meaning of the entry or the message names is one that the bytes name
named-lot : (l : List ℕ) (m : Msg) → T (exists seats width m) → (z : ℕ) → Names (entry (meaning l) (name_of m).to) m z
    → (z < seats) × NamesLot l m z
unfolding exists
named-lot l m x z (link-names {k = k} {d = d} e) = ⊎_elim here (λ h. none-some (no-level-link l (name_of m).to k d h) e) (lt-or-ge k levels)
  where
    here : k < levels → (z < seats) × NamesLot l m z
    here h =
        let q = link_of-seat _ z (sym (meaning-link l (name_of m).to k d (to-seat m x) h) ∙ e) in
        (q.0, by_link k d h q.0 q.1)
named-lot l (meet t a k) x z meet-names = ((three-below t a k _ _ _ x).1, by_meet)
named-lot l (probe t a k) x z probe-names = ((three-below t a k _ _ _ x).1, by_probe)
named-lot l (seek t a k) x z seek-names = ((three-below t a k _ _ _ x).1, by_seek)
named-lot l (found t a k) x z found-names = ((three-below t a k _ _ _ x).1, by_found)

module _ (l l' : List ℕ) (m : Msg) (x : T (exists seats width m)) (g : AgreeBytes l l' m) where
  abbrev t : ℕ
  t = (name_of m).to

  seat : (name_of m).to < seats
  seat = to-seat m x

  -- a part of the entry
  same : (o n : ℕ) → o + n ≤ entry_size → SameBytes l l' (entry_at (name_of m).to + o) n
  same o n h i p = let e : entry_at t + o + i ≡ entry_at t + (o + i) = omega arith in rw e (g.entries (o + i) (omega arith))

  same-link : (k : ℕ) (d : Side) → (meaning l).link (name_of m).to k d ≡ (meaning l').link (name_of m).to k d
  same-link k d = ⊎_elim here (λ h. no-level-link l t k d h ∙ sym (no-level-link l' t k d h)) (lt-or-ge k levels)
    where
      byte : k < levels → get_or l (link_at t k d) 0 ≡ get_or l' (link_at t k d) 0
      byte h =
          let o = side_number-lt d in
          let e : link_at t k d ≡ entry_at t + (links_offset + 2 * k + side_number d) = omega arith in
          rw e (g.entries (links_offset + 2 * k + side_number d) (omega arith))

      here : k < levels → (meaning l).link t k d ≡ (meaning l').link t k d
      here h = meaning-link l t k d seat h ∙ ap link_of (byte h) ∙ sym (meaning-link l' t k d seat h)

  same-state : (meaning l).seats.state (name_of m).to ≡ (meaning l').seats.state (name_of m).to
  same-state =
      let e : entry_at t + state_offset + 0 ≡ entry_at t + state_offset = omega arith in
      meaning-state l t seat ∙ ap state_of (rw e at (same state_offset 1 (omega arith) 0 (omega arith))) ∙ sym (meaning-state l' t seat)

  -- number and vector of a lot
  number_of : (z : ℕ) → z < seats → SameBytes l l' (entry_at z + number_offset) number_size
      → (meaning l).seats.number z ≡ (meaning l').seats.number z
  number_of z h q = meaning-number l z h ∙ number_at-agrees l l' _ number_size q ∙ sym (meaning-number l' z h)

  vector-of : (z : ℕ) → z < seats → SameBytes l l' (entry_at z + vector_offset) vector_size
      → (meaning l).seats.vector z ≡ (meaning l').seats.vector z
  vector-of z h q = meaning-vector l z h ∙ number_at-agrees l l' _ vector_size q ∙ sym (meaning-vector l' z h)

  pub agree-meanings : AgreeFor (meaning l) (meaning l') m
  agree-meanings = record {
    entries = λ i. record {
      state = same-state i;
      number = number_of t seat (same number_offset number_size (omega arith)) i;
      vector = vector-of t seat (same vector_offset vector_size (omega arith)) i;
      link = λ k d. same-link k d i;
    };
    numbers = λ z w. let p = named-lot l m x z w in number_of z p.0 (g.numbers z p.1);
    vectors = λ z w. let p = named-lot l m x z w in vector-of z p.0 (g.vectors z p.1);
  }
