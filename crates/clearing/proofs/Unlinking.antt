-- Links of and to a set of seats made none one after the other, and the start and the end of freeing. Assumes nothing.
use Prim.Native.Nat.{ℕ, zero, suc, ◌+◌, ◌*◌, ◌/◌, ◌≤◌, ◌<◌}
use mathlib.Core.Path.{◌≡◌, refl, sym, ap, ◌∙◌}
use mathlib.Core.Logic.{◌⊎◌, inl, inr, ⊎_elim}
use mathlib.Core.Option.{Option, none, some}
use mathlib.Core.Bool.{Bool, true, false, cond, ◌||◌}
use mathlib.Core.List.{List}
use native.Mathlib.Omega.{arith}
use lib.ListN.{set as put}
use lib.Seq.{set-get_or}
use borrow.Author.Tests.{lt-ltb, le-ltb}
use Rattle.base.specs.Loops.{all}
use Rattle.base.proofs.Cases.{eq-or-ne}
use Rattle.base.proofs.Tests.{none-some}
use Rattle.memory.specs.Bits.{has_bit}
use Rattle.graph.specs.Side.{Side, left, right, side_number, side_of_number}
use Rattle.protocol.specs.Rules.{set as link_to}
use Rattle.protocol.specs.State.{Meaning}
use Rattle.protocol.specs.Freeing.{unlinked, unlinking}
use Rattle.protocol.specs.pages.Deliver.{applied}
use Rattle.protocol.proofs.Calls.{applied-at, applied-frame}
use Rattle.protocol.proofs.Numbering.{side_number-lt}
use Rattle.record.specs.Layout.{seats, levels, link_at, no_link}
use Rattle.record.specs.Meaning.{link_byte, meaning, bytes_of}
use Rattle.record.specs.inner.Entry.{bare_at}
use Rattle.record.proofs.Values.{NamesSeat}
use Rattle.record.proofs.Places.{side-side_number}
use Rattle.record.proofs.Round.{read-link}
use Rattle.record.proofs.Frame.{same-links, bytes_same}
use Rattle.record.proofs.Update.{bytes-with_link}
use Rattle.clearing.proofs.Freed.{lt-more}
use Rattle.clearing.proofs.Telling.{link-named, bare-link}
use Rattle.clearing.specs.inner.Steps.{Linked, link_place, freed, freed_to}

-- places are apart
place-once : (x k y j : ℕ) (d e : Side) → k < levels → j < levels
    → link_place y j (side_number e) ≡ link_place x k (side_number d) → (y ≡ x) × (j ≡ k) × (e ≡ d)
place-once x k y j d e h g q =
    let a = side_number-lt d in
    let b = side_number-lt e in
    let o : side_number e ≡ side_number d = omega arith in
    let p : y * levels + j ≡ x * levels + k = omega arith in
    let u : (y * levels + j) / levels ≡ y = omega arith in
    let v : (x * levels + k) / levels ≡ x = omega arith in
    let z : y ≡ x = sym u ∙ ap (λ (n : ℕ). n / levels) p ∙ v in
    (z, omega arith, sym (side-side_number e) ∙ ap side_of_number o ∙ side-side_number d)

module _ (set : ℕ) where
  -- whether a link from x becomes none, as the code tests it
  abbrev goes : (x : ℕ) → Option ℕ → Bool
  goes x none = false
  goes x (some y) = has_bit set x || has_bit set y

  -- a link of seat x when the set is freed
  unlinked-link : (x : ℕ) (o : Option ℕ) → cond (has_bit set x) none (unlinked (has_bit set) o) ≡ cond (goes x o) none o
  unfolding unlinked
  unlinked-link x none = by (has_bit set x)
    where
      by : (a : Bool) → ◌≡◌ {A = Option ℕ} (cond a none none) none
      by true = refl
      by false = refl
  unlinked-link x (some y) = by (has_bit set x) (has_bit set y)
    where
      by : (a b : Bool) → cond a none (cond b none (some y)) ≡ cond (a || b) none (some y)
      by true b = refl
      by false true = refl
      by false false = refl

  module _ (s x k : ℕ) (d : Side) (h : x < seats) (g : k < levels) (M : Meaning) (c : Linked M) where
    -- the place of the link of x at level k on side d
    abbrev here : ℕ
    here = link_place x k (side_number d)

    -- the link is still that of the meaning
    old-link : (freed_to set s here M).link x k d ≡ M.link x k d
    unfolding freed_to
    old-link = rw (le-ltb here here (omega arith))

    old-seat : NamesSeat ((freed_to set s here M).link x k d)
    old-seat y q = c x k y d (sym old-link ∙ q)

    -- one byte is set
    relink : (o : Option ℕ) → NamesSeat o → unlinking (has_bit set) M.link x k d ≡ o
        → bytes_of (freed_to set s (here + 1) M) ≡ put (bytes_of (freed_to set s here M)) (link_at x k d) (link_byte o)
    unfolding freed_to
    relink o n e =
        bytes_same (same-links refl refl (λ y j c p q. by y j c q (eq-or-ne (link_place y j (side_number c)) here)))
        ∙ bytes-with_link (freed_to set s here M) x k d o h g n
      where
        at_here : (freed_to set s (here + 1) M).link x k d ≡ applied x (link_to k d o) (freed_to set s here M).link x k d
        at_here = rw (lt-ltb here (here + 1) (omega arith)) (e ∙ sym (applied-at x k d o (freed_to set s here M).link))

        by : (y j : ℕ) (c : Side) → j < levels → (link_place y j (side_number c) ≡ here) ⊎ (link_place y j (side_number c) ≡ here → ⊥)
            → (freed_to set s (here + 1) M).link y j c ≡ applied x (link_to k d o) (freed_to set s here M).link y j c
        by y j c q (inl f) =
            let i = place-once x k y j d c g q f in
            let a = i.0 in
            let b = i.1 in
            let v = i.2 in
            rw (a, b, v) at_here
        by y j c q (inr f) = rw (lt-more (link_place y j (side_number c)) here f) (sym (⊎_elim
            (λ w. w)
            (λ w.
            let a = w.1 in
            let z = w.2 in
            let b : j ≡ k = cc in
            let v : c ≡ d = cc in
            absurd (f (rw (a, b, v))))
            (applied-frame x (link_to k d o) (freed_to set s here M).link y j c)))

    -- the link as the bytes have it: it becomes none, or is kept
    module _ {l : List ℕ} (e : l ≡ bytes_of (freed_to set s here M)) (o : Option ℕ) (f : o ≡ (meaning l).link x k d) where
      link-is : M.link x k d ≡ o
      link-is = sym (f ∙ link-named (freed_to set s here M) x k d h g old-seat e ∙ old-link)

      pub cut-link : goes x o ≡ true → put l (link_at x k d) no_link ≡ bytes_of (freed_to set s (here + 1) M)
      cut-link t =
          let gone : unlinking (has_bit set) M.link x k d ≡ none = unlinked-link x (M.link x k d) ∙ rw (link-is, t) in
          rw e (sym (relink none (λ y q. none-some refl q) gone))

      pub uncut-link : goes x o ≡ false → l ≡ bytes_of (freed_to set s (here + 1) M)
      uncut-link t =
          let kept : unlinking (has_bit set) M.link x k d ≡ M.link x k d = unlinked-link x (M.link x k d) ∙ rw (link-is, t) in
          let byte = read-link (freed_to set s here M) x h k d g old-seat ∙ ap link_byte old-link in
          e
          ∙ sym (set-get_or (bytes_of (freed_to set s here M)) (link_at x k d) 0)
          ∙ ap (put (bytes_of (freed_to set s here M)) (link_at x k d)) byte
          ∙ sym (relink (M.link x k d) (λ y q. c x k y d q) kept)

  -- a lot without links: none of its bytes changes, level by level
  module _ (x : ℕ) (h : x < seats) (M : Meaning) (c : Linked M) (l : List ℕ) (bare : all levels (bare_at l x) ≡ true) where
    unlinked-to : (k : ℕ) → k ≤ levels → l ≡ bytes_of (freed_to set (x + 1) (link_place x 0 0) M)
        → l ≡ bytes_of (freed_to set (x + 1) (link_place x k 0) M)
    unlinked-to zero g e = e
    unlinked-to (suc k) g e =
        let to = λ (n : ℕ). bytes_of (freed_to set (x + 1) n M) in
        let q : k < levels = omega arith in
        let a = unlinked-to k (omega arith) e in
        let b = uncut-link (x + 1) x k left h q M c a none (sym (bare-link l x h bare k left q)) refl in
        let n : link_place x k 0 + 1 ≡ link_place x k 1 = omega arith in
        let d = uncut-link (x + 1) x k right h q M c (b ∙ ap to n) none (sym (bare-link l x h bare k right q)) refl in
        let m : link_place x k 1 + 1 ≡ link_place x (suc k) 0 = omega arith in
        d ∙ ap to m

    pub unlinked-seat : l ≡ bytes_of (freed_to set (x + 1) (link_place x 0 0) M) → l ≡ bytes_of (freed_to set (x + 1) (link_place (x + 1) 0 0) M)
    unlinked-seat e =
        let n : link_place x levels 0 ≡ link_place (x + 1) 0 0 = omega arith in
        unlinked-to levels (omega arith) e ∙ ap (λ (i : ℕ). bytes_of (freed_to set (x + 1) i M)) n

  -- before the first seat, and after the last
  pub freed_to-none : (M : Meaning) → bytes_of (freed_to set 0 0 M) ≡ bytes_of M
  unfolding freed_to
  freed_to-none M = bytes_same (record {
    phase = refl;
    state = λ x p. rw (le-ltb x 0 (omega arith));
    number = λ x p. rw (le-ltb x 0 (omega arith));
    vector = λ x p. rw (le-ltb x 0 (omega arith));
    link = λ x k d p g. rw (le-ltb (link_place x k (side_number d)) 0 (omega arith));
    pending = λ i p. refl;
  })

  pub freed_to-all : (M : Meaning) → bytes_of (freed_to set seats (link_place seats 0 0) M) ≡ bytes_of (freed set M)
  unfolding freed_to
  freed_to-all M = bytes_same (record {
    phase = refl;
    state = λ x p. rw (lt-ltb x seats p);
    number = λ x p. rw (lt-ltb x seats p);
    vector = λ x p. rw (lt-ltb x seats p);
    link = λ x k d p g. rw (lt-ltb (link_place x k (side_number d)) (link_place seats 0 0) (omega (arith, side_number-lt d)));
    pending = λ i p. refl;
  })
