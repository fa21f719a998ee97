-- `reading::opening::no_links` meets its contract. The loop's invariant: the links of the seats passed are none, and every other byte is 0.
-- Assumes nothing.
use Rattle.reading.proofs.Filled.{NoLinks}
use Rattle.reading.proofs.opening.no_links.Given as goal

abbrev pub invariant-loop-s : goal.invariant-loop-s
invariant-loop-s l = NoLinks l.s l.rec
