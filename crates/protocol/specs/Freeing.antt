-- Seats that become free (document 01, "Turn"): their entries are as opened, and links to them become none. Assumes nothing.
use Rattle.std.specs.Prelude.{ℕ, Bool, cond}
use Rattle.std.proofs.Math.Option.{Option, none, some}
use Rattle.graph.specs.Graph.{Links}
use Rattle.protocol.specs.Rules.{free}
use Rattle.protocol.specs.State.{Phase, Seats}

-- the set of seats that are freed
module _ (freed : ℕ → Bool) where
  -- the seats, in phase p
  abbrev pub freeing : Phase → Seats → Seats
  freeing p r = record {
    phase = p;
    state = λ x. cond (freed x) free (r.state x);
    number = λ x. cond (freed x) 0 (r.number x);
    vector = λ x. cond (freed x) 0 (r.vector x);
  }

  -- a link that names a freed seat becomes none
  unfoldable pub unlinked : Option ℕ → Option ℕ
  unlinked none = none
  unlinked (some y) = cond (freed y) none (some y)

  -- the links: a freed seat has none
  abbrev pub unlinking : Links → Links
  unlinking L x k d = cond (freed x) none (unlinked (L x k d))
