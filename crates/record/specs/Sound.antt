-- Soundness of the bytes of a record (document 01, "Sound", with the reservations of document 02, #105), a clause for each of its sentences, in
-- their order. There is no other byte or bit. Assumes nothing.
use Rattle.std.specs.Prelude.{ℕ, Bool, not, ◌&&◌, ◌||◌, List, eqb, ltb, get_or}
use Rattle.memory.specs.Bits.{bit_set}
use Rattle.base.specs.Loops.{all}
use Rattle.graph.specs.Side.{Side, left, right}
use Rattle.graph.specs.Vector.{width}
use Rattle.protocol.specs.Numbering.{message_at}
use Rattle.protocol.specs.State.{taken}
use Rattle.protocol.specs.Sound.{link_ok, message_ok}
use Rattle.record.specs.Layout.{seats, levels, states, no_link, messages, phase_at, state_at, link_at, pending_from}
use Rattle.record.specs.Meaning.{seats_in}

module _ (l : List ℕ) where
  -- phase 0 or 1
  unfoldable pub phase_fits : Bool
  phase_fits = ltb (get_or l phase_at 0) 2

  -- states 0 to 3
  unfoldable pub states_fit : Bool
  states_fit = all seats (λ s. ltb (get_or l (state_at s) 0) states)

  -- a free seat's entry is as opened
  unfoldable pub as_opened : ℕ → Bool
  as_opened s =
      eqb ((seats_in l).number s) 0
      && (eqb ((seats_in l).vector s) 0
      && all levels (λ k. eqb (get_or l (link_at s k left) 0) no_link && eqb (get_or l (link_at s k right) 0) no_link))

  unfoldable pub unused_fit : Bool
  unused_fit = all seats (λ s. taken (seats_in l) s || as_opened s)

  -- numbers differ, of lots and of reservations together
  unfoldable pub numbers_differ : Bool
  numbers_differ = all seats (λ x. all x (λ y. not (taken (seats_in l) x && (taken (seats_in l) y && eqb ((seats_in l).number x) ((seats_in l).number y)))))

  -- a link is none, or one of a seated lot that names another on its own side sharing the level's bits: so a reserved entry has no links
  unfoldable pub link_fits : (x k : ℕ) → Side → Bool
  link_fits x k d = let b = get_or l (link_at x k d) 0 in eqb b no_link || (ltb b seats && link_ok width (seats_in l) x k d b)

  unfoldable pub links_fit : Bool
  links_fit = all seats (λ x. all levels (λ k. link_fits x k left && link_fits x k right))

  -- pending messages name seated lots, fit their kind and stand in their kind's phase
  unfoldable pub messages_fit : Bool
  messages_fit = all messages (λ i. not (bit_set l pending_from i) || message_ok width (seats_in l) (message_at seats width i))

  unfoldable pub sound : Bool
  sound = phase_fits && (states_fit && (unused_fit && (numbers_differ && (links_fit && messages_fit))))
