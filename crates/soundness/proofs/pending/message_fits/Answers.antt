-- `soundness::pending::message_fits` meets its contract, kind by kind. Assumes nothing.
use borrow.Author.Rules.{rules}
use Rattle.messages.proofs.Standing.{stands-meet, stands-probe, stands-pull, stands-going, stands-seek, stands-found, stands-none}
use Rattle.messages.proofs.Standing.{stands-kind, probe-below, pull-below}
use Rattle.soundness.proofs.pending.message_fits.Goals as goal

pub pull_fits-requires : goal.pull_fits-requires
pull_fits-requires c =
    let h = pull-below c.message_at-m.ensures c.requires c.in-3.is in
    search rules

pub returns-in-1 : goal.returns-in-1
returns-in-1 c = let s = c.message_at-m.ensures in
    rw (stands-meet s c.in-1.is) c.pair_message_fits.ensures.meet

pub returns-in-2 : goal.returns-in-2
returns-in-2 c = let s = c.message_at-m.ensures in
    rw (stands-probe s c.in-2.is) (c.pair_message_fits-in-2.ensures.probe (probe-below s c.requires c.in-2.is))

pub returns-in-3 : goal.returns-in-3
returns-in-3 c = let s = c.message_at-m.ensures in
    rw (stands-pull s c.in-3.is) (c.pull_fits.ensures _ _)

pub returns-in-4 : goal.returns-in-4
returns-in-4 c = let s = c.message_at-m.ensures in
    rw (stands-going s c.in-4.is) (c.going_fits.ensures _)

pub returns-in-5 : goal.returns-in-5
returns-in-5 c = let s = c.message_at-m.ensures in
    rw (stands-seek s c.in-5.is) c.seek_fits.ensures

pub returns-in-6 : goal.returns-in-6
returns-in-6 c = let s = c.message_at-m.ensures in
    rw (stands-found s c.in-6.is) c.found_fits.ensures

pub returns-in-7 : goal.returns-in-7
returns-in-7 c = let s = c.message_at-m.ensures in
    rw (stands-none s c.in-7.is) (c.none_fits.ensures _)

pub returns-in_default : goal.returns-in_default
returns-in_default c = let r = c.in_default.in_default-own.rest in
    let s = c.message_at-m.ensures in
    stands-kind s r.0.0.0.0.0.0.1 r.0.0.0.0.0.1 r.0.0.0.0.1 r.0.0.0.1 r.0.0.1 r.0.1 r.1
