-- The kinds of messages by their numbers: what five numbers of a kind name, under which condition, and the ranges of the numbers where the
-- message exists. Assumes nothing.
use Prim.Native.Nat.{ℕ, ◌<◌}
use mathlib.Core.Path.{◌≡◌, refl}
use mathlib.Core.Bool.{Bool, ◌&&◌}
use lib.Dec.{T, eqb, ltb, ltb→lt}
use Rattle.base.proofs.Tests.{and-snd}
use Rattle.graph.specs.Side.{side_of_number}
use Rattle.graph.specs.Vector.{width}
use Rattle.protocol.specs.Message.{Msg, meet, probe, pull, going, seek, found, none_found, Name, name, named}
use Rattle.protocol.specs.Numbering.{exists}
use Rattle.record.specs.Layout.{seats, levels}
use Rattle.messages.proofs.Named.{when, named-meet, named-probe, named-pull, named-going, named-seek, named-found, named_none, two-below, three-below}

-- the numbers n name m if a condition holds
pub record Kind (n : Name) (m : Msg) : Type 0 where
  pub condition : Bool
  pub is_named : named n ≡ when condition m

-- two lots and a level
module _ (t a l s : ℕ) where
  abbrev pub meet-kind : Kind (name 1 t a l s) (meet t a l)
  meet-kind = record { condition = eqb s 0; is_named = named-meet t a l s refl }

  abbrev pub probe-kind : Kind (name 2 t a l s) (probe t a l)
  probe-kind = record { condition = eqb s 0; is_named = named-probe t a l s refl }

  abbrev pub seek-kind : Kind (name 5 t a l s) (seek t a l)
  seek-kind = record { condition = eqb s 0; is_named = named-seek t a l s refl }

  abbrev pub found-kind : Kind (name 6 t a l s) (found t a l)
  found-kind = record { condition = eqb s 0; is_named = named-found t a l s refl }

  pub meet-in : T (exists seats width (meet t a l)) → (t < seats) × (a < seats) × (l < levels)
  unfolding exists
  meet-in x = three-below t a l _ _ _ x

  pub probe-in : T (exists seats width (probe t a l)) → (t < seats) × (a < seats) × (l < width)
  unfolding exists
  probe-in x = three-below t a l _ _ _ x

  pub seek-in : T (exists seats width (seek t a l)) → (t < seats) × (a < seats) × (l < levels)
  unfolding exists
  seek-in x = three-below t a l _ _ _ x

  pub found_in : T (exists seats width (found t a l)) → (t < seats) × (a < seats) × (l < levels)
  unfolding exists
  found_in x = three-below t a l _ _ _ x

  -- a lot, a bit, a level and a side
  abbrev pub pull-kind : Kind (name 3 t a l s) (pull t (eqb a 1) l (side_of_number s))
  pull-kind = record { condition = ltb a 2 && ltb s 2; is_named = named-pull t a l s refl }

  pub pull-in : T (ltb a 2 && ltb s 2) → T (exists seats width (pull t (eqb a 1) l (side_of_number s))) → (t < seats) × (a < 2) × (l < width) × (s < 2)
  unfolding exists
  pull-in f x = let p = two-below a s _ _ f in let q = two-below t l _ _ x in (q.0, p.0, q.1, p.1)

  -- a lot, a level and a side
  abbrev pub going-kind : Kind (name 4 t a l s) (going t l (side_of_number s))
  going-kind = record { condition = eqb a 0 && ltb s 2; is_named = named-going t a l s refl }

  abbrev pub none-kind : Kind (name 7 t a l s) (none_found t l (side_of_number s))
  none-kind = record { condition = eqb a 0 && ltb s 2; is_named = named_none t a l s refl }

  pub going-in : T (eqb a 0 && ltb s 2) → T (exists seats width (going t l (side_of_number s))) → (t < seats) × (l < levels) × (s < 2)
  unfolding exists
  going-in f x = let q = two-below t l _ _ x in (q.0, q.1, ltb→lt s 2 (and-snd (eqb a 0) _ f))

  pub none_in : T (eqb a 0 && ltb s 2) → T (exists seats width (none_found t l (side_of_number s))) → (t < seats) × (l < levels) × (s < 2)
  unfolding exists
  none_in f x = let q = two-below t l _ _ x in (q.0, q.1, ltb→lt s 2 (and-snd (eqb a 0) _ f))
