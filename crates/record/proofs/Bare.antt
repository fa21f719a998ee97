-- A seat without links: its links are none exactly if their bytes, which stand together, are all `no_link`. Assumes nothing.
use Prim.Native.Nat.{ℕ, ◌+◌, ◌*◌, ◌<◌}
use mathlib.Core.Path.{◌≡◌, refl, ◌∙◌}
use mathlib.Core.Bool.{Bool, true, ◌&&◌}
use mathlib.Core.List.{List}
use native.Mathlib.Omega.{arith}
use lib.Dec.{T, eqb, eqb→eq}
use lib.ListN.{get_or}
use Rattle.memory.specs.Bytes.{fulls}
use Rattle.base.specs.Loops.{all}
use Rattle.base.proofs.Tests.{true-T, and-fst, and-snd}
use Rattle.base.proofs.All.{all_same, all-product, all-at}
use Rattle.graph.specs.Side.{Side, left, right}
use Rattle.record.specs.Layout.{levels, no_link, links_size, links_from, link_at}
use Rattle.record.specs.inner.Entry.{bare_at}

two : (q : ℕ → Bool) → all 2 q ≡ q 0 && q 1
unfolding all
two q = refl

pub links-full : (l : List ℕ) (s : ℕ) → fulls l (links_from s) links_size ≡ all levels (bare_at l s)
links-full l s =
    all-product levels 2 (λ j. eqb (get_or l (links_from s + j) 0) no_link)
    ∙ all_same levels _ _ (λ k h. two (λ j. eqb (get_or l (links_from s + (k * 2 + j)) 0) no_link) ∙ at k)
  where
    byte : ℕ → Bool
    byte i = eqb (get_or l i 0) no_link

    at : (k : ℕ) → byte (links_from s + (k * 2 + 0)) && byte (links_from s + (k * 2 + 1)) ≡ bare_at l s k
    at k =
        let p : links_from s + (k * 2 + 0) ≡ link_at s k left = omega arith in
        let q : links_from s + (k * 2 + 1) ≡ link_at s k right = omega arith in
        rw (p, q)

-- each of these bytes
pub bare-byte : (l : List ℕ) (s : ℕ) → all levels (bare_at l s) ≡ true → (k : ℕ) (d : Side) → k < levels → get_or l (link_at s k d) 0 ≡ no_link
bare-byte l s e k d g = by d (true-T (all-at levels k (bare_at l s) e g))
  where
    by : (d : Side) → T (bare_at l s k) → get_or l (link_at s k d) 0 ≡ no_link
    by left t = eqb→eq _ _ (and-fst (eqb (get_or l (link_at s k left) 0) no_link) _ t)
    by right t = eqb→eq _ _ (and-snd (eqb (get_or l (link_at s k left) 0) no_link) (eqb (get_or l (link_at s k right) 0) no_link) t)
