-- Messages sent one after the other, links that the bytes have, and GOING from a lot. Assumes nothing.
use Prim.Native.Nat.{ℕ, ◌+◌, ◌<◌}
use mathlib.Core.Path.{◌≡◌, sym, ap, ◌∙◌}
use mathlib.Core.Option.{none, some}
use mathlib.Core.Bool.{true, false, cond}
use mathlib.Core.List.{List, [], ◌++◌}
use native.Mathlib.Numerals.{add-one}
use native.Mathlib.Omega.{arith}
use lib.Dec.{T}
use borrow.Author.Tests.{lt-ltb}
use Rattle.base.specs.Loops.{all}
use Rattle.memory.specs.Bits.{set_bit}
use Rattle.graph.specs.Side.{Side, opp}
use Rattle.graph.specs.Graph.{Links}
use Rattle.graph.specs.Vector.{width}
use Rattle.base.proofs.Tests.{true-T}
use Rattle.protocol.specs.Message.{Msg, going}
use Rattle.protocol.specs.Numbering.{exists, place}
use Rattle.protocol.specs.Rules.{to_link}
use Rattle.protocol.specs.State.{Seats, Meaning, leaves}
use Rattle.protocol.specs.Page.{each}
use Rattle.protocol.specs.pages.Turn.{farewell}
use Rattle.record.specs.Layout.{seats, levels, no_link, pending_from}
use Rattle.record.specs.Meaning.{link_of, seats_in, meaning, bytes_of}
use Rattle.record.specs.inner.Entry.{bare_at}
use Rattle.record.proofs.Values.{NamesSeat, link_of-link_byte}
use Rattle.record.proofs.Bare.{bare-byte}
use Rattle.record.proofs.Form.{meaning-link}
use Rattle.record.proofs.Links.{link_of-none}
use Rattle.record.proofs.Round.{read-link}
use Rattle.protocol.proofs.Calls.{after_nothing}
use Rattle.record.proofs.Pending.{after-append}
use Rattle.record.proofs.Update.{with_pending}
use Rattle.record.proofs.Sent.{bytes-with_message}
use Rattle.clearing.proofs.Leaving.{leaves-bytes}
use Rattle.clearing.specs.inner.Steps.{Linked, Step, same, saying, lot_farewells, farewells_from}

-- what the lot on seat y says if it leaves
abbrev pub leavers_say : Seats → Links → (y : ℕ) → List Msg
leavers_say s L y = cond (leaves s y) (lot_farewells L y) []

-- GOING exists
pub going-exists : (x k : ℕ) (d : Side) → x < seats → k < levels → T (exists seats width (going x k d))
unfolding exists
going-exists x k d h g = true-T {b = exists seats width (going x k d)} (rw (lt-ltb x seats h, lt-ltb k levels g))

module _ (M : Meaning) where
  pub saying-nothing : saying M [] ≡ M
  saying-nothing = ap (with_pending M) (after_nothing M.pending)

  pub saying-append : (a b : List Msg) → saying (saying M a) b ≡ saying M (a ++ b)
  saying-append a b = ap (with_pending M) (sym (after-append a b none M.pending))

-- one list more
each_more : (n : ℕ) (f : ℕ → List Msg) → each (n + 1) f ≡ each n f ++ f n
unfolding each
each_more n f = rw add-one

-- steps that send, by what they send from the seats and links: nothing, two after each other, and lists one after the other
module _ {l m k : List ℕ} where
  pub Step-then : (f g : Seats → Links → List Msg) → Step same (λ M. saying M (f M.seats M.link)) l m
      → Step same (λ M. saying M (g M.seats M.link)) m k → Step same (λ M. saying M (f M.seats M.link ++ g M.seats M.link)) l k
  Step-then f g a b = λ M c e.
      let N = saying M (f M.seats M.link) in
      b N c (a M c e) ∙ ap bytes_of (saying-append M (f M.seats M.link) (g M.seats M.link))

  pub Step-next : (f : Seats → Links → ℕ → List Msg) (n : ℕ) → Step same (λ M. saying M (each n (f M.seats M.link))) l m
      → Step same (λ M. saying M (f M.seats M.link n)) m k → Step same (λ M. saying M (each (n + 1) (f M.seats M.link))) l k
  Step-next f n a b = λ M c e.
      Step-then (λ s L. each n (f s L)) (λ s L. f s L n) a b M c e ∙ ap (λ (z : List Msg). bytes_of (saying M z)) (sym (each_more n (f M.seats M.link)))

pub Step-none : (f : Seats → Links → ℕ → List Msg) (l : List ℕ) → Step same (λ M. saying M (each 0 (f M.seats M.link))) l l
unfolding each
Step-none f l = λ M c e. e ∙ sym (ap bytes_of (saying-nothing M))

pub Step-all : (f : Seats → Links → ℕ → List Msg) {n : ℕ} (m : ℕ) {l k : List ℕ} → n ≡ m
    → Step same (λ M. saying M (each n (f M.seats M.link))) l k → Step same (λ M. saying M (each m (f M.seats M.link))) l k
Step-all f m e a = λ M c h. a M c h ∙ ap (λ (i : ℕ). bytes_of (saying M (each i (f M.seats M.link)))) e

-- a link that the bytes of a meaning have is its link
pub link-named : (M : Meaning) (x k : ℕ) (d : Side) → x < seats → k < levels → NamesSeat (M.link x k d) → {l : List ℕ} → l ≡ bytes_of M
    → (meaning l).link x k d ≡ M.link x k d
link-named M x k d h g n e =
    ap (λ (m : List ℕ). (meaning m).link x k d) e
    ∙ meaning-link (bytes_of M) x k d h g
    ∙ ap link_of (read-link M x h k d g n)
    ∙ link_of-link_byte (M.link x k d) n

-- a seat whose links are all none
pub bare-link : (l : List ℕ) (x : ℕ) → x < seats → all levels (bare_at l x) ≡ true → (k : ℕ) (d : Side) → k < levels → (meaning l).link x k d ≡ none
bare-link l x h bare k d g = meaning-link l x k d h g ∙ ap link_of (bare-byte l x bare k d g) ∙ link_of-none no_link (omega arith)

-- GOING from y to its link, as the bytes have it, and no link
module _ (M : Meaning) (c : Linked M) (y k : ℕ) (d : Side) (h : y < seats) (g : k < levels) {l : List ℕ} (e : l ≡ bytes_of M) where
  abbrev named : (meaning l).link y k d ≡ M.link y k d
  named = link-named M y k d h g (λ z q. c y k z d q) e

  pub tell-sent : (b : ℕ) → b < seats → some b ≡ (meaning l).link y k d
      → set_bit l pending_from (place seats width (going b k (opp d))) ≡ bytes_of (saying M (farewell M.link y k d))
  unfolding farewell to_link
  tell-sent b p f = rw (← named, ← f, e) (sym (bytes-with_message M (going b k (opp d)) (going-exists b k (opp d) p g)))

  pub tell_none : none ≡ (meaning l).link y k d → l ≡ bytes_of (saying M (farewell M.link y k d))
  unfolding farewell to_link
  tell_none f = rw (← named, ← f) (e ∙ sym (ap bytes_of (saying-nothing M)))

-- all GOING from y if it leaves, and none
module _ (M : Meaning) (y : ℕ) (h : y < seats) {l : List ℕ} (e : l ≡ bytes_of M) where
  pub tell-leaver : leaves (seats_in l) y ≡ true → bytes_of (saying M (lot_farewells M.link y)) ≡ bytes_of (saying M (farewells_from M y))
  tell-leaver t = rw (sym (leaves-bytes M e y h) ∙ t)

  pub tell-other : leaves (seats_in l) y ≡ false → l ≡ bytes_of (saying M (farewells_from M y))
  tell-other t = rw (sym (leaves-bytes M e y h) ∙ t) (e ∙ sym (ap bytes_of (saying-nothing M)))
