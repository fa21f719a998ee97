-- The places ascend with the names: a message comes before another exactly if its place does; and the messages that come before five
-- given numbers are those at the first `place_from` places. Assumes nothing.
use Prim.Native.Nat.{ℕ, zero, suc, ◌+◌, ◌*◌, ◌≤◌, ◌<◌}
use mathlib.Core.Path.{◌≡◌, refl, sym, ◌∙◌}
use mathlib.Core.Logic.{⊎_elim}
use mathlib.Core.Bool.{Bool}
use native.Mathlib.Omega.{arith}
use native.Mathlib.Decide.{le_ind}
use lib.Dec.{T, ltb}
use borrow.Author.Tests.{lt-ltb, le-ltb}
use Rattle.base.proofs.Cases.{lt-or-ge}
use Rattle.protocol.specs.Message.{Msg, meet, probe, pull, going, seek, found, none_found, Name, name_of}
use Rattle.protocol.specs.Numbering.{exists, count, place, message_at}
use Rattle.protocol.specs.Order.{or_next, before}
use Rattle.protocol.specs.inner.PlaceFrom.{digits_from, from_kind, place_from}
use Rattle.protocol.proofs.Digits.{digits_lt}
use Rattle.protocol.proofs.DigitOrder.{compared, or-next-lt, or-next-gt, or-next-eq, ltb-add, below_in, below-le, below-order, below_last}
use Rattle.protocol.proofs.Numbering.{Exists, in_meet, in_probe, in_pull, in_going, in_seek, in_found, in_none_found, exists-in}
use Rattle.protocol.proofs.Numbering.{bit_number-lt, side_number-lt, place-lt, exists-message_at, place-message_at}

-- how many values each of a kind's last three numbers has: 1 where it is unused
record Radix : Type 0 where
  abouts : ℕ
  levels : ℕ
  sides : ℕ

abbrev radix : (a l s : ℕ) → Radix
radix a l s = record { abouts = a; levels = l; sides = s }

-- a name's place among those of its kind
abbrev value : Radix → Name → ℕ
value r n = ((n.to * r.abouts + n.about) * r.levels + n.level) * r.sides + n.side

-- the same, the size of each digit apart
value-sizes : (r : Radix) (n : Name) → value r n
    ≡ n.to * (r.abouts * (r.levels * r.sides)) + (n.about * (r.levels * r.sides) + (n.level * r.sides + n.side))
value-sizes r n = omega arith

-- a name's numbers are digits
record Fits (N : ℕ) (r : Radix) (n : Name) : Type 0 where
  to : n.to < N
  about : n.about < r.abouts
  level : n.level < r.levels
  side : n.side < r.sides

-- m comes before n by the numbers after the kind
abbrev after : (m n : Name) → Bool
after m n = or_next m.to n.to (or_next m.about n.about (or_next m.level n.level (ltb m.side n.side)))

module _ (N W : ℕ) where
  -- how many names of a kind come before n by those numbers
  abbrev from : Radix → Name → ℕ
  from r n = digits_from N W r.abouts r.levels r.sides n

  from_le : (r : Radix) (n : Name) → from r n ≤ N * (r.abouts * (r.levels * r.sides))
  unfolding digits_from
  from_le r n =
      below-le n.to N (below-le n.about r.abouts (below-le n.level r.levels
      (let e : r.sides * 1 ≡ r.sides = omega arith in rw e at (below-le n.side r.sides {size = 1} {rest = 0} (omega arith)))))

  from-order : {m : Name} (r : Radix) (n : Name) → Fits N r m → ltb (value r m) (from r n) ≡ after m n
  unfolding digits_from
  from-order {m} r n f =
      let A = r.abouts in
      let L = r.levels in
      let S = r.sides in
      let e : S * 1 ≡ S = omega arith in
      let sides = rw e at (below-le n.side S {size = 1} {rest = 0} (omega arith)) in
      let levels = below-le n.level L sides in
      let abouts = below-le n.about A levels in
      let level = digits_lt f.level f.side in
      let about = digits_lt f.about level in
      rw (
        value-sizes r m,
        below-order n.to f.to about abouts,
        below-order n.about f.about level levels,
        below-order n.level f.level f.side sides,
        below_last n.side f.side,
      )

  -- where n's numbers are digits too, it is their place
  from-value : (r : Radix) (n : Name) → Fits N r n → from r n ≡ value r n
  unfolding digits_from
  from-value r n f =
      rw (value-sizes r n)
      (rw (below_in n.side r.sides 1 0 f.side)
      (rw (below_in n.level r.levels r.sides (n.side * 1 + 0) f.level)
      (rw (below_in n.about r.abouts (r.levels * r.sides) (n.level * r.sides + (n.side * 1 + 0)) f.about)
      (rw (below_in n.to N (r.abouts * (r.levels * r.sides)) (n.about * (r.levels * r.sides) + (n.level * r.sides + (n.side * 1 + 0))) f.to)
      (omega arith)))))

  -- by kind; no message is of kind 0
  radix_of : ℕ → Radix
  radix_of zero = radix 0 0 0
  radix_of (suc zero) = radix N (suc W) 1
  radix_of (suc (suc zero)) = radix N W 1
  radix_of (suc (suc (suc zero))) = radix 2 W 2
  radix_of (suc (suc (suc (suc zero)))) = radix 1 (suc W) 2
  radix_of (suc (suc (suc (suc (suc zero))))) = radix N (suc W) 1
  radix_of (suc (suc (suc (suc (suc (suc zero)))))) = radix N (suc W) 1
  radix_of (suc (suc (suc (suc (suc (suc (suc k))))))) = radix 1 (suc W) 2

  size : ℕ → ℕ
  size k = N * ((radix_of k).abouts * ((radix_of k).levels * (radix_of k).sides))

  -- the place of a kind's first message
  start : ℕ → ℕ
  start zero = 0
  start (suc k) = start k + size k

  start-le : {k j : ℕ} → k ≤ j → start k ≤ start j
  unfolding start
  start-le {k} {j} h = le_ind (λ i. start k ≤ start i) (omega arith) (λ i l p. omega arith) j h

  fits : {m : Msg} → Exists N W m → Fits N (radix_of (name_of m).kind) (name_of m)
  unfolding radix_of
  fits (in_meet p q r) = record { to = p; about = q; level = r; side = omega arith }
  fits (in_probe p q r) = record { to = p; about = q; level = r; side = omega arith }
  fits (in_pull {b = b} {d = d} p r) = record { to = p; about = bit_number-lt b; level = r; side = side_number-lt d }
  fits (in_going {d = d} p r) = record { to = p; about = omega arith; level = r; side = side_number-lt d }
  fits (in_seek p q r) = record { to = p; about = q; level = r; side = omega arith }
  fits (in_found p q r) = record { to = p; about = q; level = r; side = omega arith }
  fits (in_none_found {d = d} p r) = record { to = p; about = omega arith; level = r; side = side_number-lt d }

  rank : Name → ℕ
  rank n = start n.kind + value (radix_of n.kind) n

  place-rank : (m : Msg) → place N W m ≡ rank (name_of m)
  unfolding place rank start size radix_of
  place-rank (meet t a l) = omega arith
  place-rank (probe t a l) = omega arith
  place-rank (pull t b l d) = omega arith
  place-rank (going t l d) = omega arith
  place-rank (seek t a l) = omega arith
  place-rank (found t a l) = omega arith
  place-rank (none_found t l d) = omega arith

  -- names in order, by their kinds first
  rank_from : Name → ℕ
  rank_from n = start n.kind + from (radix_of n.kind) n

  rank-order : {m : Name} (n : Name) → Fits N (radix_of m.kind) m → before m n ≡ ltb (rank m) (rank_from n)
  unfolding before rank rank_from start size
  rank-order {m} n f = compared m.kind n.kind smaller larger equal
    where
      r : Radix
      r = radix_of m.kind

      high : value r m < size m.kind
      high = rw (value-sizes r m) (digits_lt f.to (digits_lt f.about (digits_lt f.level f.side)))

      smaller : m.kind < n.kind → or_next m.kind n.kind (after m n) ≡ ltb (rank m) (rank_from n)
      smaller h = or-next-lt (after m n) h ∙ sym (lt-ltb (rank m) (rank_from n) (omega (arith, high, start-le h)))

      larger : n.kind < m.kind → or_next m.kind n.kind (after m n) ≡ ltb (rank m) (rank_from n)
      larger h =
          or-next-gt (after m n) h ∙ sym (le-ltb (rank m) (rank_from n) (omega (arith, from_le (radix_of n.kind) n, start-le h)))

      equal : m.kind ≡ n.kind → or_next m.kind n.kind (after m n) ≡ ltb (rank m) (rank_from n)
      equal e = or-next-eq (after m n) e ∙ sym (from-order r n f) ∙ sym (ltb-add (start m.kind) (value r m) (from r n)) ∙ rw e

  -- a message comes before another exactly if its place does
  pub place-ascends : (m n : Msg) → T (exists N W m) → T (exists N W n) → before (name_of m) (name_of n) ≡ ltb (place N W m) (place N W n)
  unfolding rank rank_from
  place-ascends m n x y =
      let f = fits (exists-in N W n y) in
      rank-order (name_of n) (fits (exists-in N W m x))
      ∙ rw (place-rank m, place-rank n, from-value (radix_of (name_of n).kind) (name_of n) f)

  -- by places
  pub at-ascends : (i j : ℕ) → i < count N W → j < count N W → before (name_of (message_at N W i)) (name_of (message_at N W j)) ≡ ltb i j
  at-ascends i j h g =
      place-ascends (message_at N W i) (message_at N W j) (exists-message_at N W i h) (exists-message_at N W j g)
      ∙ rw (place-message_at N W i h, place-message_at N W j g)

  -- by kind, five numbers begin where their kind does; after the last kind nothing is left
  pub place_from-le : (n : Name) → place_from N W n ≤ count N W
  unfolding from_kind
  place_from-le n = by n.kind
    where
      by : (k : ℕ) → from_kind N W k n ≤ count N W
      by zero = omega arith
      by (suc zero) = omega (arith, from_le (radix N (suc W) 1) n)
      by (suc (suc zero)) = omega (arith, from_le (radix N W 1) n)
      by (suc (suc (suc zero))) = omega (arith, from_le (radix 2 W 2) n)
      by (suc (suc (suc (suc zero)))) = omega (arith, from_le (radix 1 (suc W) 2) n)
      by (suc (suc (suc (suc (suc zero))))) = omega (arith, from_le (radix N (suc W) 1) n)
      by (suc (suc (suc (suc (suc (suc zero)))))) = omega (arith, from_le (radix N (suc W) 1) n)
      by (suc (suc (suc (suc (suc (suc (suc zero))))))) = omega (arith, from_le (radix 1 (suc W) 2) n)
      by (suc (suc (suc (suc (suc (suc (suc (suc k)))))))) = omega arith

  from-kind : (k : ℕ) (n : Name) → k ≤ 7 → from_kind N W k n ≡ start k + from (radix_of k) n
  unfolding from_kind start size radix_of
  from-kind zero n h = omega (arith, from_le (radix 0 0 0) n)
  from-kind (suc zero) n h = omega arith
  from-kind (suc (suc zero)) n h = omega arith
  from-kind (suc (suc (suc zero))) n h = omega arith
  from-kind (suc (suc (suc (suc zero)))) n h = omega arith
  from-kind (suc (suc (suc (suc (suc zero))))) n h = omega arith
  from-kind (suc (suc (suc (suc (suc (suc zero)))))) n h = omega arith
  from-kind (suc (suc (suc (suc (suc (suc (suc zero))))))) n h = omega arith
  from-kind (suc (suc (suc (suc (suc (suc (suc (suc k)))))))) n h = absurd (omega arith)

  pub from-rest : (k : ℕ) (n : Name) → 8 ≤ k → from_kind N W k n ≡ count N W
  unfolding from_kind
  from-rest zero n h = absurd (omega arith)
  from-rest (suc zero) n h = absurd (omega arith)
  from-rest (suc (suc zero)) n h = absurd (omega arith)
  from-rest (suc (suc (suc zero))) n h = absurd (omega arith)
  from-rest (suc (suc (suc (suc zero)))) n h = absurd (omega arith)
  from-rest (suc (suc (suc (suc (suc zero))))) n h = absurd (omega arith)
  from-rest (suc (suc (suc (suc (suc (suc zero)))))) n h = absurd (omega arith)
  from-rest (suc (suc (suc (suc (suc (suc (suc zero))))))) n h = absurd (omega arith)
  from-rest (suc (suc (suc (suc (suc (suc (suc (suc k)))))))) n h = refl

  kind-lt : (m : Msg) → (name_of m).kind < 8
  kind-lt (meet t a l) = omega arith
  kind-lt (probe t a l) = omega arith
  kind-lt (pull t b l d) = omega arith
  kind-lt (going t l d) = omega arith
  kind-lt (seek t a l) = omega arith
  kind-lt (found t a l) = omega arith
  kind-lt (none_found t l d) = omega arith

  placed-from : (m : Msg) (n : Name) → T (exists N W m) → before (name_of m) n ≡ ltb (place N W m) (place_from N W n)
  unfolding rank_from before
  placed-from m n x = ⊎_elim
      (λ h. rank-order n (fits (exists-in N W m x)) ∙ rw (place-rank m, from-kind n.kind n (omega arith)))
      (λ h.
      or-next-lt (after (name_of m) n) (omega (arith, kind-lt m))
      ∙ sym (rw (from-rest n.kind n h) (lt-ltb (place N W m) (count N W) (place-lt N W m x))))
      (lt-or-ge n.kind 8)

  -- the first places are those of the messages that come before n
  pub place-from : (n : Name) (i : ℕ) → i < count N W → before (name_of (message_at N W i)) n ≡ ltb i (place_from N W n)
  place-from n i h = rw (place-message_at N W i h) at (placed-from (message_at N W i) n (exists-message_at N W i h))
