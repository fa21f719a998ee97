-- The check on the bytes (document 01, "Check"; document 02, #106): the refusal number or 0, and whether every component of the members, all lots in
-- phase open and the staying ones in clearing, is the skip graph of its own lots. (By Theorem 5 of document 000 that is exactly Constraints 1 to
-- 6.) Components are those of the links: a pending MEET is no link. Assumes nothing.
use Rattle.std.specs.Prelude.{ℕ, Bool, false, cond, List, eqb}
use Rattle.graph.specs.Vector.{width}
use Rattle.graph.specs.Graph.{Lots}
use Rattle.graph.specs.Components.{component_of}
use Rattle.protocol.specs.State.{member, members}
use Rattle.record.specs.Layout.{seats}
use Rattle.record.specs.Meaning.{seats_in, meaning}
use Rattle.record.specs.Reading.{record_refusal}
use Rattle.search.specs.Check.{check}

-- the component of each lot: the members joined to it by links among them, directly or through others
unfoldable pub components_in : List ℕ → ℕ → ℕ
components_in l = component_of width (member (seats_in l)) (meaning l).link seats

-- the members, with the component of each
abbrev pub members_in : List ℕ → Lots
members_in l = members (components_in l) (seats_in l)

pub record CheckAnswer : Type 0 where
  pub refused : ℕ
  pub yes : Bool

unfoldable pub check_in : List ℕ → CheckAnswer
check_in l = let n = record_refusal l in
    cond (eqb n 0) (record { refused = 0; yes = check seats width (members_in l) (meaning l).link }) (record { refused = n; yes = false })
