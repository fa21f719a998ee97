-- Examples of scans past leaving lots (document 02, #104), and beside them scans that differ by one mark or one number. Assumes nothing.
use Rattle.std.specs.Prelude.{ℕ, ◌≡◌, List, [], ◌∷◌, ◌++◌}
use Rattle.std.proofs.Math.Option.{none, some}
use Rattle.protocol.specs.Calls.{Call, leave}
use Rattle.find.specs.Find.{FindAnswer, find_in}
use Rattle.runs.specs.Run.{bytes_run}
use Rattle.cases.specs.Lists.{q_calls}
use Rattle.cases.specs.Cases.{found}

-- what a scan of x from seat s answers in Q with some lots marked
abbrev pub scanned : List ℕ → (marks : List Call) (s x : ℕ) → FindAnswer
scanned l marks s x = find_in (bytes_run l (q_calls ++ marks)).now s x

-- on any bytes l that open accepts; lots 100, 200 and 300 sit on seats 0, 1 and 2
pub record Leavers (l : List ℕ) : Type 0 where
  -- lot 200 leaves: it is passed, by its own number and up to 299; unmarked it is named
  pub one : (scanned l (leave 1 ∷ []) 0 200 ≡ found (some 0) 2)
      × (scanned l (leave 1 ∷ []) 0 299 ≡ found (some 0) 2)
      × (scanned l [] 0 250 ≡ found (some 1) 1)
  -- and it is not passed below it and above it
  pub beside : (scanned l (leave 1 ∷ []) 0 199 ≡ found (some 0) 0) × (scanned l (leave 1 ∷ []) 0 300 ≡ found (some 2) 1)
  -- a leaving start is not asked for: it is passed where it is the holder, and else not
  pub start : (scanned l (leave 1 ∷ []) 1 250 ≡ found (some 0) 1) × (scanned l (leave 1 ∷ []) 1 300 ≡ found (some 2) 1)
  -- two leavers in a row, and one
  pub two : (scanned l (leave 1 ∷ leave 2 ∷ []) 0 300 ≡ found (some 0) 3) × (scanned l (leave 2 ∷ []) 0 300 ≡ found (some 1) 2)
  -- a walk from 300 ends at 200, above 150: its left link 100 leaves, or 200 does
  pub above : (scanned l (leave 0 ∷ []) 2 150 ≡ found none 2) × (scanned l (leave 1 ∷ []) 2 150 ≡ found (some 0) 2)
  -- all lots that are not above the number leave: none, with the hops made; one further right stays
  pub all : (scanned l (leave 0 ∷ leave 1 ∷ leave 2 ∷ []) 0 250 ≡ found none 2) × (scanned l (leave 0 ∷ leave 1 ∷ []) 0 250 ≡ found none 2)
