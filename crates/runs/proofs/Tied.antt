-- On the bytes of a sound meaning lots are tied by what reads exactly if they are by the meaning's links and messages. Assumes nothing.
use Prim.Native.Nat.{ℕ, ◌<◌}
use mathlib.Core.Path.{◌≡◌, refl, sym, ap, ◌∙◌}
use mathlib.Core.Logic.{◌↔◌}
use mathlib.Core.Option.{some}
use mathlib.Core.Bool.{Bool, true, false, cond}
use mathlib.Core.List.{List}
use native.Mathlib.Omega.{arith}
use lib.Dec.{T, eqb}
use Rattle.base.specs.Loops.{one_if}
use Rattle.base.proofs.Tests.{T_true, true-false}
use borrow.Author.Tests.{eq-eqb}
use Rattle.graph.specs.Side.{Side, left, right, side_number, side_of_number}
use Rattle.graph.specs.Vector.{width}
use Rattle.protocol.specs.Message.{Msg, meet, name_of}
use Rattle.protocol.specs.State.{Meaning}
use Rattle.protocol.specs.Sound.{Sound}
use Rattle.protocol.specs.Tied.{Tied}
use Rattle.protocol.specs.Tied as by-meaning
use Rattle.protocol.proofs.SoundFacts.{link-linked, two-level, seated-below}
use Rattle.record.specs.Layout.{seats}
use Rattle.record.specs.Meaning.{meaning, bytes_of, link_of, link_byte}
use Rattle.record.specs.Reading.{LinkAnswer, link_refusal, read_link, MessageAnswer, read_message}
use Rattle.record.proofs.Places.{length-bytes_of}
use Rattle.record.proofs.Round.{meaning-bytes, link_seat}
use Rattle.record.proofs.Sound.{bytes-sound}
use Rattle.record.proofs.Values.{link_of-link_byte}
use Rattle.record.proofs.Links.{link_of-some}
use Rattle.record.proofs.Reading.{message-named}
use Rattle.runs.specs.Tied.{TiedIn, same, linked, met, turned, through}
use Rattle.runs.proofs.Readings.{read-link}

-- what an accepted reading of a link has read
link-answered : (l : List ℕ) (x k y : ℕ) (d : Side) → read_link l x k (side_number d) ≡ record { refused = 0; seat = y }
    → link_byte ((meaning l).link x k d) ≡ y
unfolding read_link
link-answered l x k y d e = by (eqb n 0) refl e
  where
    n : ℕ
    n = link_refusal l x k (side_number d)

    side : (d : Side) → side_of_number (side_number d) ≡ d
    side left = refl
    side right = refl

    answered : Bool → LinkAnswer
    answered t =
        cond t (record { refused = 0; seat = link_byte ((meaning l).link x k (side_of_number (side_number d))) }) (record { refused = n; seat = 0 })

    by : (t : Bool) → eqb n 0 ≡ t → answered t ≡ record { refused = 0; seat = y } → link_byte ((meaning l).link x k d) ≡ y
    by true p f = ap (λ (s : Side). link_byte ((meaning l).link x k s)) (sym (side d)) ∙ ap (λ (a : LinkAnswer). a.seat) f
    by false p f = let z : n ≡ 0 = ap (λ (a : LinkAnswer). a.refused) f in true-false (eq-eqb n 0 z) p

one-true : (b : Bool) → one_if b ≡ 1 → T b
one-true true e = tt
one-true false e = absurd (omega arith)

module _ (M : Meaning) (h : Sound seats width M) where
  abbrev b : List ℕ
  b = bytes_of M

  message-is : (m : Msg) → read_message b (name_of m) ≡ record { refused = 0; pending = one_if (M.pending m) }
  message-is m = message-named b (length-bytes_of M) (bytes-sound h) m ∙ rw (meaning-bytes h)

  link-is : (x k y : ℕ) (d : Side) → read_link b x k (side_number d) ≡ record { refused = 0; seat = y } → y < seats → M.link x k d ≡ some y
  link-is x k y d e l =
      let byte : link_byte (M.link x k d) ≡ y = rw (meaning-bytes h) at (link-answered b x k y d e) in
      sym (link_of-link_byte (M.link x k d) (λ z f. link_seat h x k z d f)) ∙ ap link_of byte ∙ link_of-some y l

  reads-tied : {x y : ℕ} → TiedIn b x y → Tied M x y
  reads-tied same = by-meaning.same
  reads-tied (linked {x} {y} k d e l) = by-meaning.linked {k = k} (link-is x k y d e l)
  reads-tied (met {x} {y} k e) =
      by-meaning.met k (one-true (M.pending (meet x y k)) (ap (λ (a : MessageAnswer). a.pending) (sym (message-is (meet x y k)) ∙ e)))
  reads-tied (turned i) = by-meaning.turned (reads-tied i)
  reads-tied (through i j) = by-meaning.through (reads-tied i) (reads-tied j)

  tied-reads : {x y : ℕ} → Tied M x y → TiedIn b x y
  tied-reads by-meaning.same = same
  tied-reads (by-meaning.linked {x} {y} {k} {d} e) =
      let two = (link-linked h e).0 in
      let l = two-level two in
      let reads : read_link b x k (side_number d) ≡ record { refused = 0; seat = link_byte (M.link x k d) } =
      read-link M h x k d (seated-below h x two.one) (omega arith) two.one in
      linked {y = y} k d (rw e at reads) (link_seat h x k y d e)
  tied-reads (by-meaning.met {x} {y} k t) = let p : M.pending (meet x y k) ≡ true = T_true t in met k (rw p at (message-is (meet x y k)))
  tied-reads (by-meaning.turned i) = turned (tied-reads i)
  tied-reads (by-meaning.through i j) = through (tied-reads i) (tied-reads j)

  pub tied-bytes : (x y : ℕ) → Tied M x y ↔ TiedIn (bytes_of M) x y
  tied-bytes x y = (λ i. tied-reads i, λ i. reads-tied i)
