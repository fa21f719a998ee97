-- The lots that an accepted scan steps onto, on the bytes, and what is promised of the left steps (document 02, #104). Assumes nothing.
use Rattle.std.specs.Prelude.{ℕ, ◌+◌, ◌≤◌, ◌<◌, ◌≡◌, ◌⊎◌, true, length}
use Rattle.std.proofs.Math.Option.{none}
use mathlib.Core.List.{List, ◌∷◌, Memᴰ}
use Rattle.base.specs.Loops.{count}
use Rattle.graph.specs.Side.{left}
use Rattle.graph.specs.Vector.{width}
use Rattle.protocol.specs.State.{seated, stays}
use Rattle.record.specs.Layout.{seats}
use Rattle.record.specs.Meaning.{seats_in, meaning}
use Rattle.search.specs.Walk.{last_of, path, left_steps}
use Rattle.search.specs.Right.{Once}
use Rattle.find.specs.Find.{find_in}

-- the left steps of a scan of x from the lot e, where its walk ended
abbrev pub left_from : List ℕ → (x e : ℕ) → List ℕ
left_from l x e = left_steps (stays (seats_in l)) (seats_in l).number (meaning l).link x seats e

module _ (l : List ℕ) (s x : ℕ) where
  -- the lots that the walk moves to, and where it ends
  abbrev pub moves : List ℕ
  moves = path (seats_in l).number (meaning l).link x seats width s

  abbrev pub end : ℕ
  end = last_of s moves

  -- the left steps from there, and where they end
  abbrev pub lefts : List ℕ
  lefts = left_from l x end

  abbrev pub last : ℕ
  last = last_of end lefts

  pub record LeftSteps : Type 0 where
    -- each move and each left step is a hop
    pub hops : (find_in l s x).hops ≡ length moves + length lefts
    -- each lot once
    pub once : Once (end ∷ lefts)
    -- they end, at a staying lot or where there is no left link
    pub ends : (stays (seats_in l) last ≡ true) ⊎ ((meaning l).link last 0 left ≡ none)
    -- none goes onto a lot above the scanned number, so that there only whether a lot stays is asked
    pub below : (z : ℕ) → Memᴰ z lefts → (seats_in l).number z ≤ x
    -- at most the seated lots less one
    pub few : length lefts < count seats (seated (seats_in l))
