-- What MEET sends after it set a link of `to`, by the meaning after that and the link that was there: what `setting` of protocol's
-- specs/Rules.antt sends, which speaks of the entry before. Assumes nothing.
use Rattle.std.specs.Prelude.{ℕ, List}
use Rattle.std.proofs.Math.Option.{Option}
use Rattle.graph.specs.Side.{Side}
use Rattle.graph.specs.Vector.{width}
use Rattle.protocol.specs.Message.{Msg}
use Rattle.protocol.specs.Rules.{set, setting}
use Rattle.protocol.specs.State.{Meaning, entry}
use Rattle.protocol.specs.pages.Deliver.{applied}

-- the meaning with the link as it was
abbrev pub before : Meaning → (to level : ℕ) → Side → (old : Option ℕ) → Meaning
before M t l d old = record { seats = M.seats; link = applied t (set l d old) M.link; pending = M.pending }

unfoldable pub told : Meaning → (to about level : ℕ) → Side → (old : Option ℕ) → List Msg
told M t a l d old = (setting width M.seats.number M.seats.vector (entry (before M t l d old) t) t a l d).sent
