-- Delivery (document 01, "Messages"): takes a pending message away and does its rule, on the entry of its `to` and no other.
-- Assumes nothing.
use Rattle.std.specs.Prelude.{ℕ, Bool, true, false, not, cond, ◌&&◌, List, [], ◌∷◌, eqb}
use Rattle.std.proofs.Math.Option.{Option, none, some}
use Rattle.graph.specs.Side.{Side, left, right}
use Rattle.graph.specs.Graph.{Links}
use Rattle.protocol.specs.Message.{Msg, Name, name_of, named}
use Rattle.protocol.specs.Rules.{Change, keep, set, Effect, effect}
use Rattle.protocol.specs.State.{Meaning, entry, is_pending}
use Rattle.protocol.specs.Refusals.{no_such_message, row}
use Rattle.protocol.specs.Page.{Page, same_components}

-- the rule of a message, on the entry of its `to`
unfoldable pub rule : ℕ → Meaning → Msg → Effect
rule W M m = effect W M.seats.number M.seats.vector (entry M (name_of m).to) m

unfoldable pub delivery_sends : (W : ℕ) → Meaning → Option Msg → List Msg
delivery_sends W M none = []
delivery_sends W M (some m) = (rule W M m).sent

abbrev pub same_side : Side → Side → Bool
same_side left left = true
same_side left right = false
same_side right left = false
same_side right right = true

-- the links with a change at lot t
unfoldable pub applied : ℕ → Change → Links → Links
applied t keep L x k d = L x k d
applied t (set l s o) L x k d = cond (eqb x t && (eqb k l && same_side d s)) o (L x k d)

unfoldable pub delivery_links : (W : ℕ) → Meaning → Option Msg → Links
delivery_links W M none x k d = M.link x k d
delivery_links W M (some m) x k d = applied (name_of m).to (rule W M m).change M.link x k d

abbrev pub deliver_page : (N W : ℕ) → Name → Page
deliver_page N W n = record {
  rows = λ r p. row no_such_message (not (is_pending p (named n))) ∷ [];
  seats = λ r. r;
  links = λ M. delivery_links W M (named n);
  sends = λ M. delivery_sends W M (named n);
  takes = named n;
  component = same_components;
  fits = Unit {0};
}
