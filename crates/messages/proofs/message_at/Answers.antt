-- `messages::message_at` meets its contract: each kind has its block of places. Assumes nothing.
use borrow.Author.Rules.{rules}
use Rattle.messages.proofs.Standing.{meet-stands, probe-stands, pull-stands, going-stands, seek-stands, found-stands, none-stands}
use Rattle.messages.proofs.message_at.Goals as goal

pub returns-then-i-lt-PROBES : goal.returns-then-i-lt-PROBES
returns-then-i-lt-PROBES c = meet-stands (search rules) c.pair_at.ensures

pub returns-then-i-lt-PULLS : goal.returns-then-i-lt-PULLS
returns-then-i-lt-PULLS c = probe-stands (search rules) (search rules) c.pair_at-then-i-lt-PULLS.ensures

pub returns-then-i-lt-GOINGS : goal.returns-then-i-lt-GOINGS
returns-then-i-lt-GOINGS c = pull-stands (search rules) (search rules) c.pull_at.ensures

pub returns-then-i-lt-SEEKS : goal.returns-then-i-lt-SEEKS
returns-then-i-lt-SEEKS c = going-stands (search rules) (search rules) c.side_at.ensures

pub returns-then-i-lt-FOUNDS : goal.returns-then-i-lt-FOUNDS
returns-then-i-lt-FOUNDS c = seek-stands (search rules) (search rules) c.pair_at-then-i-lt-FOUNDS.ensures

pub returns-then-i-lt-NONES : goal.returns-then-i-lt-NONES
returns-then-i-lt-NONES c = found-stands (search rules) (search rules) c.pair_at-then-i-lt-NONES.ensures

pub returns : goal.returns
returns c = none-stands (search rules) (search rules) c.side_at-2.ensures
