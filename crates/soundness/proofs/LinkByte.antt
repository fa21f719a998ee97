-- The link clause by the byte of a link; of a seated lot, of a seat without a lot, and of a free seat as open leaves it. Assumes nothing.
use Prim.Native.Nat.{ℕ, ◌<◌}
use mathlib.Core.Path.{◌≡◌, refl, sym, ap, ap₂}
use mathlib.Core.Bool.{Bool, true, false, not, ◌&&◌, ◌||◌}
use mathlib.Core.List.{List}
use lib.Dec.{eqb, ltb, leb}
use lib.ListN.{get_or}
use borrow.Author.Tests.{ne_eqb}
use Rattle.base.specs.Loops.{all}
use Rattle.base.proofs.Cases.{and_left, and_right}
use Rattle.base.proofs.All.{all_same, all-at, all_from}
use Rattle.graph.specs.Side.{Side, left, right, on_side}
use Rattle.graph.specs.Vector.{width, shared}
use Rattle.base.proofs.Tests.{true-T}
use Rattle.graph.proofs.Order.{lt-ne, on-lt}
use Rattle.protocol.specs.State.{Seats, taken, seated}
use Rattle.protocol.specs.Sound.{pair_ok, link_ok}
use Rattle.record.specs.Layout.{seats, levels, states, no_link, state_at, link_at}
use Rattle.record.specs.Meaning.{seats_in}
use Rattle.record.specs.Sound.{as_opened, link_fits}
use Rattle.record.specs.inner.Entry.{bare_at}
use Rattle.soundness.specs.inner.Parts.{seat_fits}

pub link-byte : (l : List ℕ) (x k : ℕ) (d : Side) (b : ℕ) → b ≡ get_or l (link_at x k d) 0
    → link_fits l x k d ≡ eqb b no_link || (ltb b seats && link_ok width (seats_in l) x k d b)
unfolding link_fits
link-byte l x k d b e = rw e

-- a seated lot and a seat on its side are two, so that need not be tested
pub link-ok : (r : Seats) (x k y : ℕ) (d : Side) → seated r x ≡ true
    → link_ok width r x k d y ≡ seated r y && (leb k (shared width (r.vector x) (r.vector y)) && on_side d (r.number x) (r.number y))
unfolding link_ok pair_ok
link-ok r x k y d e = rw e (by (seated r y) (not (eqb x y)) (leb k (shared width (r.vector x) (r.vector y))) (on_side d (r.number x) (r.number y)) other)
  where
    other : on_side d (r.number x) (r.number y) ≡ true → not (eqb x y) ≡ true
    other o = ap not (ne_eqb x y (λ q. lt-ne (on-lt r.number d x y (true-T o)) q))

    by : (s n b o : Bool) → (o ≡ true → n ≡ true) → (s && (n && b)) && o ≡ s && (b && o)
    by false n b o h = refl
    by true true b o h = refl
    by true false true true h = h refl
    by true false true false h = refl
    by true false false o h = refl

-- a seat without a lot passes exactly if it has no links
pub empty-links : (l : List ℕ) (x : ℕ) → seated (seats_in l) x ≡ false
    → all levels (λ k. link_fits l x k left && link_fits l x k right) ≡ all levels (bare_at l x)
unfolding link_fits link_ok pair_ok
empty-links l x e = all_same levels _ _ (λ k h. ap₂ ◌&&◌ (one k left) (one k right))
  where
    by : (a b : Bool) → a || (b && false) ≡ a
    by true b = refl
    by false true = refl
    by false false = refl

    one : (k : ℕ) (d : Side) → link_fits l x k d ≡ eqb (get_or l (link_at x k d) 0) no_link
    one k d = rw e (by (eqb (get_or l (link_at x k d) 0) no_link) (ltb (get_or l (link_at x k d) 0) seats))

-- a free seat has none
pub free-links : (l : List ℕ) (x : ℕ) → all seats (seat_fits l) ≡ true → x < seats → taken (seats_in l) x ≡ false
    → true ≡ all levels (λ k. link_fits l x k left && link_fits l x k right)
unfolding as_opened link_fits
free-links l x u h f = sym (all_from levels _ (λ k g. both k (all-at levels k free none g)))
  where
    free : ℕ → Bool
    free k = eqb (get_or l (link_at x k left) 0) no_link && eqb (get_or l (link_at x k right) 0) no_link

    opened : as_opened l x ≡ true
    opened =
        let t : taken (seats_in l) x || as_opened l x ≡ true =
        and_right (ltb (get_or l (state_at x) 0) states) _ (all-at seats x (seat_fits l) u h) in
        rw f at t

    none : all levels free ≡ true
    none =
        let v = eqb ((seats_in l).vector x) 0 in
        and_right v (all levels free) (and_right (eqb ((seats_in l).number x) 0) (v && all levels free) opened)

    both : (k : ℕ) → free k ≡ true → link_fits l x k left && link_fits l x k right ≡ true
    both k e =
        let p = eqb (get_or l (link_at x k left) 0) no_link in
        let q = eqb (get_or l (link_at x k right) 0) no_link in
        rw (and_left p q e, and_right p q e)
