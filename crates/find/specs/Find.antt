-- Find on the bytes (document 01, "Find"; document 02, #102, #104 and #106): the refusal number, 1, 2, 3, 8, 13, or 0; the holder and the hops of the
-- search on the meaning, for the lots that stay. A refused answer has none and 0. Assumes nothing.
use Rattle.std.specs.Prelude.{ℕ, Bool, not, cond, ◌&&◌, List, [], ◌∷◌, eqb}
use Rattle.std.proofs.Math.Option.{Option, none}
use Rattle.graph.specs.Vector.{width}
use Rattle.protocol.specs.Refusals.{unsettled, Row, row, first}
use Rattle.protocol.specs.State.{stays}
use Rattle.record.specs.Layout.{seats}
use Rattle.record.specs.Meaning.{seats_in, meaning}
use Rattle.record.specs.Reading.{size_row, sound_row, seat_row, empty_row}
use Rattle.search.specs.Walk.{Found, find}
use Rattle.check_links.specs.Check.{components_in}
use Rattle.check_links.specs.Settled.{settled}

pub record FindAnswer : Type 0 where
  pub refused : ℕ
  pub holder : Option ℕ
  pub hops : ℕ

-- the lots among which the holder is sought in a scan from the lot on seat s (document 02, #104 and #106): those that stay, of its component
abbrev pub sought_from : List ℕ → (s z : ℕ) → Bool
sought_from l s z = stays (seats_in l) z && eqb (components_in l s) (components_in l z)

-- what a search found
abbrev pub searched : Found → FindAnswer
searched f = record { refused = 0; holder = f.holder; hops = f.hops }

-- the search for x from the lot on seat s, on the meaning
abbrev pub scan_of : List ℕ → (s x : ℕ) → Found
scan_of l s x = find (stays (seats_in l)) (seats_in l).number (meaning l).link x seats width s

-- unsettled: the phase is clearing, messages are pending, or the check says no
abbrev pub unsettled_row : List ℕ → Row
unsettled_row l = row unsettled (not (settled l))

-- the refusal of a scan from seat s
unfoldable pub find_refusal : List ℕ → (s : ℕ) → ℕ
find_refusal l s = first (size_row l ∷ sound_row l ∷ seat_row s ∷ empty_row l s ∷ unsettled_row l ∷ [])

-- what find answers to a scan of x from the lot on seat s
unfoldable pub find_in : List ℕ → (s x : ℕ) → FindAnswer
find_in l s x =
    let n = find_refusal l s in
    cond (eqb n 0) (searched (scan_of l s x)) (record { refused = n; holder = none; hops = 0 })
