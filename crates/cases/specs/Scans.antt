-- Examples of scans that wait (document 02, #102), and beside them scans that just do not: after lists of calls, and on records that no call
-- makes. Assumes nothing.
use Rattle.std.specs.Prelude.{ℕ, ◌≡◌, List, [], ◌∷◌, ◌++◌}
use Rattle.graph.specs.Side.{left, right}
use Rattle.protocol.specs.State.{open_phase}
use Rattle.protocol.specs.Calls.{Call, join, leave, turn}
use Rattle.find.specs.Find.{find_refusal}
use Rattle.runs.specs.Run.{bytes_run}
use Rattle.cases.specs.Lists.{q_calls, i_calls, k_calls}
use Rattle.cases.specs.Small.{LinkOf, linked, small_bytes, three}

-- the refusal of a scan from seat s after a list of calls
abbrev pub scanned : List ℕ → List Call → (s : ℕ) → ℕ
scanned l cs s = find_refusal (bytes_run l cs).now s

-- the links of the three lots at level 0: 100 200 300
abbrev pub level0 : List LinkOf
level0 = linked 0 0 right 1 ∷ linked 1 0 left 0 ∷ linked 1 0 right 2 ∷ linked 2 0 left 1 ∷ []

-- on any bytes l that open accepts; lots 100, 200 and 300 sit on seats 0, 1 and 2
pub record Scans (l : List ℕ) : Type 0 where
  -- 13 while a message is pending; in Q, settled, not
  pub pending : (scanned l i_calls 0 ≡ 13) × (scanned l q_calls 0 ≡ 0)
  -- a lot that is marked in phase open makes no scan wait, from another lot or from itself
  pub leaving : (scanned l (q_calls ++ leave 1 ∷ []) 0 ≡ 0) × (scanned l (q_calls ++ leave 1 ∷ []) 1 ≡ 0)
  -- 13 in clearing: with messages pending, and with none, a sole lot having no neighbours; after the second turn not
  pub clearing : (scanned l (q_calls ++ leave 1 ∷ turn ∷ []) 0 ≡ 13)
      × (scanned l (join 0 100 0 255 ∷ leave 0 ∷ turn ∷ []) 0 ≡ 13)
      × (scanned l k_calls 0 ≡ 0)
  -- 3 and 8 before 13: seat 64, and the last seat, which is free; a scan from a lot on the last seat
  pub order : (scanned l i_calls 64 ≡ 3) × (scanned l i_calls 63 ≡ 8) × (scanned l (join 63 100 0 255 ∷ []) 63 ≡ 0)

-- 13 where the check says no, in phase open with nothing pending: links at level 0 alone, where 100 and 300 share a bit. (Without links each lot is a
-- component of its own since #106: `Components` of Crashes.antt.)
pub record ScansUnlinked : Type 0 where
  pub level_0_alone : find_refusal (small_bytes open_phase three level0 []) 0 ≡ 13
