-- What the code reads of a lot, as the listing takes it: its bits and its number. Assumes nothing.
use Prim.Native.Nat.{ℕ, ◌-◌, ◌/◌, ◌^◌, ◌<◌}
use mathlib.Core.Path.{◌≡◌}
use mathlib.Core.List.{List}
use Rattle.graph.specs.Vector.{width}
use Rattle.memory.specs.Bytes.{number_at}
use Rattle.record.specs.Layout.{seats, vector_from, vector_size}
use Rattle.record.proofs.SeatBytes.{number-bytes, vector-bytes}
use Rattle.record.proofs.Links.{link_of-some, link_of-none}
use Rattle.check_links.specs.Check.{members_in}
use Rattle.listing.specs.Lists.{shared_bits}
use Rattle.answers.proofs.Words.{words}
use Rattle.answers.proofs.Turns.{turns}

pub bits-read : (l : List ℕ) (k s : ℕ) → s < seats → shared_bits width (members_in l) k s ≡ number_at l (vector_from s) vector_size / 2 ^ (width - k)
unfolding shared_bits
bits-read l k s h = rw (vector-bytes l s h)

-- for the check
pub ruleset lots = (words, turns, bits-read, number-bytes, vector-bytes, link_of-some, link_of-none)
