-- `messages::place_of` meets its contract, kind by kind. Assumes nothing.
use Rattle.base.proofs.Cases.{and_assoc}
use Rattle.protocol.specs.Message.{named}
use Rattle.protocol.specs.Numbering.{exists}
use Rattle.messages.specs.inner.Places.{place_of}
use Rattle.messages.proofs.Named.{named-meet, named-probe, named-pull, named-going, named-seek, named-found, named_none}
use Rattle.messages.proofs.Named.{named-rest, named-place}
use Rattle.messages.proofs.place_of.Goals as goal

pub returns-then-pair_fits : goal.returns-then-pair_fits
unfolding exists
returns-then-pair_fits c = rw (
  named-meet _ _ _ _ c.in-1.is,
  named-place,
  ← c.pair_fits.ensures,
  c.if-pair_fits.true,
) c.meet_place.ensures

pub returns-else-pair_fits : goal.returns-else-pair_fits
unfolding exists
returns-else-pair_fits c = rw (named-meet _ _ _ _ c.in-1.is, named-place, ← c.pair_fits.ensures, c.if-pair_fits.false)

pub returns-then-pair_fits-2 : goal.returns-then-pair_fits-2
unfolding exists
returns-then-pair_fits-2 c = rw (
  named-probe _ _ _ _ c.in-2.is,
  named-place,
  ← c.pair_fits-in-2.ensures,
  c.if-pair_fits-2.true,
) c.probe_place.ensures

pub returns-else-pair_fits-2 : goal.returns-else-pair_fits-2
unfolding exists
returns-else-pair_fits-2 c = rw (named-probe _ _ _ _ c.in-2.is, named-place, ← c.pair_fits-in-2.ensures, c.if-pair_fits-2.false)

pub returns-then-pull_fits : goal.returns-then-pull_fits
unfolding exists
returns-then-pull_fits c = rw (
  named-pull _ _ _ _ c.in-3.is,
  named-place,
  and_assoc,
  ← c.pull_fits.ensures,
  c.if-pull_fits.true,
) (rw c.of_number.ensures at c.pull_place.ensures)

pub returns-else-pull_fits : goal.returns-else-pull_fits
unfolding exists
returns-else-pull_fits c = rw (
  named-pull _ _ _ _ c.in-3.is,
  named-place,
  and_assoc,
  ← c.pull_fits.ensures,
  c.if-pull_fits.false,
)

pub returns-then-side_fits : goal.returns-then-side_fits
unfolding exists
returns-then-side_fits c = rw (
  named-going _ _ _ _ c.in-4.is,
  named-place,
  and_assoc,
  ← c.side_fits.ensures,
  c.if-side_fits.true,
) (rw c.of_number-then-side_fits.ensures at c.going_place.ensures)

pub returns-else-side_fits : goal.returns-else-side_fits
unfolding exists
returns-else-side_fits c = rw (
  named-going _ _ _ _ c.in-4.is,
  named-place,
  and_assoc,
  ← c.side_fits.ensures,
  c.if-side_fits.false,
)

pub returns-then-pair_fits-3 : goal.returns-then-pair_fits-3
unfolding exists
returns-then-pair_fits-3 c = rw (
  named-seek _ _ _ _ c.in-5.is,
  named-place,
  ← c.pair_fits-in-5.ensures,
  c.if-pair_fits-3.true,
) c.seek_place.ensures

pub returns-else-pair_fits-3 : goal.returns-else-pair_fits-3
unfolding exists
returns-else-pair_fits-3 c = rw (named-seek _ _ _ _ c.in-5.is, named-place, ← c.pair_fits-in-5.ensures, c.if-pair_fits-3.false)

pub returns-then-pair_fits-4 : goal.returns-then-pair_fits-4
unfolding exists
returns-then-pair_fits-4 c = rw (
  named-found _ _ _ _ c.in-6.is,
  named-place,
  ← c.pair_fits-in-6.ensures,
  c.if-pair_fits-4.true,
) c.found_place.ensures

pub returns-else-pair_fits-4 : goal.returns-else-pair_fits-4
unfolding exists
returns-else-pair_fits-4 c = rw (named-found _ _ _ _ c.in-6.is, named-place, ← c.pair_fits-in-6.ensures, c.if-pair_fits-4.false)

pub returns-then-side_fits-2 : goal.returns-then-side_fits-2
unfolding exists
returns-then-side_fits-2 c = rw (
  named_none _ _ _ _ c.in-7.is,
  named-place,
  and_assoc,
  ← c.side_fits-in-7.ensures,
  c.if-side_fits-2.true,
) (rw c.of_number-then-side_fits-2.ensures at c.none_place.ensures)

pub returns-else-side_fits-2 : goal.returns-else-side_fits-2
unfolding exists
returns-else-side_fits-2 c = rw (
  named_none _ _ _ _ c.in-7.is,
  named-place,
  and_assoc,
  ← c.side_fits-in-7.ensures,
  c.if-side_fits-2.false,
)

pub returns-in-0 : goal.returns-in-0
unfolding place_of named
returns-in-0 c = rw c.in-0.in-0-own.keys8

pub returns-in-0-2 : goal.returns-in-0-2
unfolding place_of
returns-in-0-2 c = let r = c.in-0.in-0-own.rest.0 in
    rw (named-rest _ _ _ _ r.0.0.0.0.0.0.1 r.0.0.0.0.0.1 r.0.0.0.0.1 r.0.0.0.1 r.0.0.1 r.0.1 r.1)
