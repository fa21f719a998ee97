-- How long the texts of answers are at most. Assumes only that bytes are bytes.
use Prim.Native.Nat.{ℕ, ◌*◌, ◌^◌, ◌≤◌, ◌<◌}
use mathlib.Core.Path.{◌≡◌, refl}
use mathlib.Core.Logic.{◌⊎◌, inl, inr}
use mathlib.Core.Option.{Option, none, some}
use mathlib.Core.Bool.{Bool, true, false, not, cond}
use mathlib.Core.List.{List, [], ◌++◌}
use native.Mathlib.Omega.{arith}
use lib.Dec.{eqb}
use lib.ListN.{length, length-append}
use borrow.Author.Tests.{eqb-true}
use Rattle.base.proofs.Cases.{true-or-false}
use Rattle.base.proofs.Count.{count-le}
use Rattle.memory.specs.Bytes.{AreBytes}
use Rattle.memory.specs.Bits.{bit_set}
use Rattle.graph.specs.Vector.{width}
use Rattle.protocol.specs.Refusals.{first}
use Rattle.protocol.specs.State.{seated}
use Rattle.record.specs.Layout.{seats, levels, messages, pending_from, size}
use Rattle.record.specs.Meaning.{seats_in, meaning}
use Rattle.record.specs.Sound.{sound}
use Rattle.record.specs.Reading.{CountAnswer, record_refusal, read_counts}
use Rattle.record.proofs.Refused.{Passed}
use Rattle.record.proofs.Reading.{counts-passed}
use Rattle.record.proofs.Sound.{sound-is}
use Rattle.check_links.specs.Check.{members_in}
use Rattle.check_links.proofs.Whole.{lots-laws}
use Rattle.command.specs.Ascii.{ascii}
use Rattle.command.proofs.Decimal.{shown-length}
use Rattle.listing.specs.Text.{graph_text}
use Rattle.listing.proofs.Long.{graph-length}
use Rattle.program.specs.Text.{bad_text, refused_text, done_text, holder_text, hops_text, phase_text, counts_text}
use Rattle.program.specs.Print.{has_lists, print_text}
use Rattle.program.specs.inner.Room.{lot_room, room}

pub refused-length : (n : ℕ) → n < 256 → length (refused_text n) ≤ 7
unfolding refused_text ascii
refused-length n h = let a = shown-length 2 n (omega arith) in simp length-append (omega (arith, a))

pub bad-length : length bad_text ≤ room
unfolding bad_text ascii
bad-length = omega arith

pub ok-length : length (done_text 0) ≤ room
unfolding done_text ascii
ok-length = omega arith

holder-length : (o : Option ℕ) → ((s : ℕ) → o ≡ some s → s < 256) → length (holder_text o) ≤ 10
unfolding holder_text ascii
holder-length none h = omega arith
holder-length (some s) h = omega (arith, shown-length 2 s (omega (arith, h s refl)))

pub found-length : (o : Option ℕ) → ((s : ℕ) → o ≡ some s → s < 256) → (h : ℕ) → h < 2 ^ 64 → length (holder_text o ++ hops_text h) ≤ room
unfolding hops_text ascii
found-length o g h f = let n = shown-length 19 h (omega arith) in simp length-append (omega (arith, n, holder-length o g))

phase-length : (p : ℕ) → length (phase_text p) ≤ 8
unfolding phase_text ascii
phase-length p = by (eqb p 0)
  where
    by : (b : Bool) → length (cond b (ascii "open") (ascii "clearing")) ≤ 8
    by true = omega arith
    by false = omega arith

counts-length : (a : CountAnswer) → a.lots < 1000 → a.pending < 10 ^ 10 → length (counts_text a) ≤ 64
unfolding counts_text ascii
counts-length a h g =
    let x = shown-length 2 a.lots (omega arith) in
    let y = shown-length 9 a.pending g in
    simp length-append (omega (arith, x, y, phase-length a.phase))

-- the numbers of the counts
record-most : (l : List ℕ) → record_refusal l < 256
unfolding record_refusal first
record-most l = by (eqb (length l) size) (sound l)
  where
    by : (b c : Bool) → cond (not b) 1 (cond (not c) 2 0) < 256
    by true true = omega arith
    by true false = omega arith
    by false c = omega arith

record CountsFit (a : CountAnswer) : Type 0 where
  refused : a.refused < 256
  lots : a.lots < 1000
  pending : a.pending < 10 ^ 10

one-fits : (b : Bool) (x y : CountAnswer) → CountsFit x → CountsFit y → CountsFit (cond b x y)
one-fits true x y f g = f
one-fits false x y f g = g

counts-fit : (l : List ℕ) → CountsFit (read_counts l)
unfolding read_counts
counts-fit l = one-fits (eqb (record_refusal l) 0) _ _
    (record {
      refused = omega arith;
      lots = omega (arith, count-le seats (seated (seats_in l)));
      pending = omega (arith, count-le messages (λ i. bit_set l pending_from i));
    })
    (record { refused = record-most l; lots = omega arith; pending = omega arith })

-- P
lists_length : (l : List ℕ) → AreBytes l → Passed l → length (graph_text seats width (members_in l)) ≤ levels * (lot_room * seats)
unfolding meaning
lists_length l b p =
    graph-length (lots-laws l p.sized b p.fine) (omega arith) (omega arith) ((sound-is l p.sized b).0 p.fine).1.numbers

pub print-length : (l : List ℕ) → AreBytes l → length (print_text l) ≤ room
unfolding print_text
print-length l b = by (true-or-false (eqb (read_counts l).refused 0))
  where
    f : CountsFit (read_counts l)
    f = counts-fit l

    with-lists : Passed l → (t : Bool) → length (counts_text (read_counts l) ++ cond t (graph_text seats width (members_in l)) []) ≤ room
    with-lists p true = simp length-append (omega (arith, counts-length (read_counts l) f.lots f.pending, lists_length l b p))
    with-lists p false = simp length-append (omega (arith, counts-length (read_counts l) f.lots f.pending))

    by : (eqb (read_counts l).refused 0 ≡ true) ⊎ (eqb (read_counts l).refused 0 ≡ false) → length (print_text l) ≤ room
    by (inl e) = rw e (with-lists (counts-passed l (eqb-true (read_counts l).refused 0 e)) (has_lists l))
    by (inr e) = rw e (omega (arith, refused-length (read_counts l).refused f.refused))
