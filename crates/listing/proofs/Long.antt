-- How long the text of all lists is at most: each lot counts once for each level, with its number and what stands before its list. Assumes the
-- laws of the lots and numbers of 64 bits.
use Prim.Native.Nat.{ℕ, zero, suc, ◌+◌, ◌*◌, ◌^◌, ◌≤◌, ◌<◌}
use mathlib.Core.Option.{none, some}
use mathlib.Core.List.{List, [], ◌∷◌, map}
use native.Mathlib.Nat.{mul-le-mul_left}
use native.Mathlib.Omega.{arith}
use lib.ListN.{length, length-append}
use Rattle.base.proofs.Tabulate.{length-tabulate}
use Rattle.graph.specs.Graph.{Lots, Laws, graph}
use Rattle.command.specs.Ascii.{ascii}
use Rattle.command.specs.Text.{shown, spaced}
use Rattle.command.proofs.Decimal.{shown-length}
use Rattle.listing.specs.Lists.{onward, right_from, firsts_after}
use Rattle.listing.specs.Text.{text_of_all, text_below, bits_text, list_text, level_text, lists_text, graph_text}
use Rattle.listing.proofs.Few.{lots_in, level-few}

-- a number of 64 bits with the space before it, and the level, the bits and the signs of a list
abbrev pub lot_text : (W : ℕ) → ℕ
lot_text W = 21 + (W + 6)

bits-length : (W k v : ℕ) → k ≤ W → length (bits_text W k v) ≤ suc W
unfolding bits_text ascii
bits-length W zero v h = omega arith
bits-length W (suc k) v h = rw (length-tabulate (suc k) _) (omega arith)

numbers-length : (number : ℕ → ℕ) → ((x : ℕ) → number x < 2 ^ 64) → (xs : List ℕ)
    → length (spaced (map (λ z. shown (number z)) xs)) ≤ 21 * length xs
unfolding spaced
numbers-length number small [] = omega arith
numbers-length number small (x ∷ xs) =
    let n = shown-length 19 (number x) (omega (arith, small x)) in
    omega (arith, length-append (shown (number x)) (spaced (map (λ z. shown (number z)) xs)), n, numbers-length number small xs)

module _ {N W : ℕ} {G : Lots} (laws : Laws N G) (some-seat : 0 < N) (narrow : W < 99) (small : (x : ℕ) → G.number x < 2 ^ 64) (k : ℕ)
    (h : k ≤ W) where
  run : ℕ → List ℕ
  run x = right_from (graph N W G) N k (some x)

  -- a list has a lot
  run-some : (n x : ℕ) → 0 < n → 0 < length (right_from (graph N W G) n k (some x))
  unfolding right_from onward
  run-some zero x l = absurd (omega arith)
  run-some (suc n) x l = omega arith

  list_length : (x : ℕ) → length (list_text N W G (graph N W G) k x) ≤ lot_text W * length (run x)
  unfolding list_text ascii run
  list_length x =
      let ns = spaced (map (λ z. shown (G.number z)) (run x)) in
      let bs = bits_text W k (G.vector x) in
      let a = shown-length 1 k (omega arith) in
      let b = bits-length W k (G.vector x) h in
      let c = numbers-length G.number small (run x) in
      let d = run-some N x some-seat in
      let e = mul-le-mul_left (W + 6) d in
      simp length-append (omega (arith, a, b, c, e))

  texts-length : (xs : List ℕ) → length (text_of_all (list_text N W G (graph N W G) k) xs) ≤ lot_text W * lots_in laws k h xs
  unfolding text_of_all lots_in run
  texts-length [] = omega arith
  texts-length (x ∷ xs) =
      omega (arith, length-append (list_text N W G (graph N W G) k x) (text_of_all (list_text N W G (graph N W G) k) xs), list_length x, texts-length xs)

  level-length : length (level_text N W G (graph N W G) k) ≤ lot_text W * N
  unfolding level_text
  level-length = omega (arith, texts-length (firsts_after W G (graph N W G) N N k none), mul-le-mul_left (lot_text W) (level-few laws k h))

below_length : (n : ℕ) (f : ℕ → List ℕ) (c : ℕ) → ((k : ℕ) → k < n → length (f k) ≤ c) → length (text_below n f) ≤ n * c
unfolding text_below
below_length zero f c h = omega arith
below_length (suc n) f c h =
    omega (arith, length-append (text_below n f) (f n), below_length n f c (λ k l. h k (omega arith)), h n (omega arith))

-- THE TEXT OF ALL LISTS
pub graph-length : {N W : ℕ} {G : Lots} → Laws N G → 0 < N → W < 99 → ((x : ℕ) → G.number x < 2 ^ 64)
    → length (graph_text N W G) ≤ suc W * (lot_text W * N)
unfolding lists_text
graph-length {N} {W} {G} laws some-seat narrow small =
    below_length (suc W) (level_text N W G (graph N W G)) (lot_text W * N) (λ k l. level-length laws some-seat narrow small k (omega arith))
