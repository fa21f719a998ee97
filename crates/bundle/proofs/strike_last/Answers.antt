-- `bundle::strike_last` meets its contract. Assumes nothing.
use Rattle.bundle.proofs.Tracks.{struck-out}
use Rattle.bundle.proofs.strike_last.Goals as goal

pub returns-then-last : goal.returns-then-last
returns-then-last c = struck-out c.requires.0 c.requires.2 c.if-last.true (c.strike.ensures.0, c.strike.ensures.2 c.requires.0)
